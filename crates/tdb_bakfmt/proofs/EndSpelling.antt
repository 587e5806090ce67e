-- The number in front of bytes is spelled there.
use Rattle.std.proofs.Common.{◌≡◌, ℕ, zero, suc, ◌<◌, ◌≤◌, List, [], ◌∷◌, length, take, slice_index, arith, length-take-le}
use Rattle.std.specs.Int.{w32, from_be_bytes, to_be_bytes}
use Rattle.std.proofs.lemmas.Nat.{be_bytes_4}

small_take : (n : ℕ) (s : List ℕ) → ((k : ℕ) → slice_index s k < 256) → (k : ℕ) → slice_index (take n s) k < 256
small_take zero s h k = omega arith
small_take (suc n) [] h k = omega arith
small_take (suc n) (x ∷ xs) h zero = h zero
small_take (suc n) (x ∷ xs) h (suc k) = small_take n xs (λ j. h (suc j)) k

pub number_in_front : (bytes : List ℕ) (n : ℕ) → 4 ≤ length bytes → ((k : ℕ) → slice_index bytes k < 256) → n ≡ from_be_bytes w32 (take 4 bytes) → to_be_bytes w32 n ≡ take 4 bytes
number_in_front bytes n long small is = be_bytes_4 (take 4 bytes) n (length-take-le 4 bytes long) (small_take 4 bytes small) is
