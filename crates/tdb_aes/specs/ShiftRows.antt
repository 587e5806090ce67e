-- ShiftRows (FIPS 197 section 5.1.2) and its inverse (section 5.3.1).
use Rattle.std.specs.Prelude.{ℕ, ◌+◌, ◌-◌, ◌%◌, List}
use Rattle.tdb_aes.specs.State.{entry, state_of}

-- row r is turned left by r places
unfoldable pub shift_rows : List ℕ → List ℕ
shift_rows s = state_of (λ r c. entry s r ((c + r) % 4))

-- row r is turned right by r places
unfoldable pub inverse_shift_rows : List ℕ → List ℕ
inverse_shift_rows s = state_of (λ r c. entry s r ((c + 4 - r) % 4))
