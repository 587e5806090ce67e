-- The end of a block of 16 bytes.
use Rattle.std.specs.Prelude.{◌≡◌, ℕ, ◌-◌, ◌≤◌, List, drop, replicate}

-- the last n bytes, from 1 to 16, have the value n
pub record EndsInPadding (block : List ℕ) (n : ℕ) : Type 0 where
  pub some : 1 ≤ n
  pub within : n ≤ 16
  pub bytes : drop (16 - n) block ≡ replicate n n
