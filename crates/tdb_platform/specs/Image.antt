-- What a write does to the bytes of a device.
use Rattle.std.specs.Prelude.{◌≡◌, ◌⊎◌, ℕ, ◌+◌, ◌-◌, ◌<◌, ◌≤◌, List, ◌++◌, length, max, take, drop, replicate, slice_index}

-- the image with a piece at a place: past the end the gap is filled with zero bytes
abbrev pub overwritten : List ℕ → ℕ → List ℕ → List ℕ
overwritten image at piece = take at image ++ replicate (at - length image) 0 ++ piece ++ drop (at + length piece) image

-- the same, with another byte all over the gap
abbrev pub written_over : ℕ → List ℕ → ℕ → List ℕ → List ℕ
written_over gap image at piece = take at image ++ replicate (at - length image) gap ++ piece ++ drop (at + length piece) image

-- the piece stands in the image at this place
pub record Holds (image : List ℕ) (at : ℕ) (piece : List ℕ) : Type 0 where
  pub within : at + length piece ≤ length image
  pub bytes : (k : ℕ) → k < length piece → slice_index image (at + k) ≡ slice_index piece k

-- Apart from n bytes at a place, and from a gap before them, the new image is the old one.
pub record SameExcept (at n : ℕ) (old new : List ℕ) : Type 0 where
  pub bytes : (k : ℕ) → (k < at) ⊎ (at + n ≤ k) → k < length old → slice_index new k ≡ slice_index old k
  pub no_shorter : length old ≤ length new
  pub no_longer : length new ≤ max (length old) (at + n)
