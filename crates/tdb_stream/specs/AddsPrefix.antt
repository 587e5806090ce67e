-- What a put that failed may have added.
use Rattle.std.specs.Prelude.{◌≡◌, ◌≤◌, ◌++◌, ℕ, List, length, take}

-- a prefix of the piece stands behind what was held, and nothing else
pub record AddsPrefix (piece old new : List ℕ) : Type 0 where
  pub count : ℕ
  pub within : count ≤ length piece
  pub added : new ≡ old ++ take count piece
