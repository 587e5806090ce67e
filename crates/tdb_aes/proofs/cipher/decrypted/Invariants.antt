use Rattle.std.proofs.Common.{◌≡◌, ℕ, ◌-◌, List}
use Rattle.tdb_aes.specs.Cipher.{after_inverse_rounds}
use Rattle.tdb_aes.specs.EquivalentInverse.{IsInverseSchedule}
use Rattle.tdb_aes.specs.State.{bytes_of_state}
use Rattle.tdb_aes.proofs.cipher.decrypted.Given as goal

abbrev pub invariant-loop-n : goal.invariant-loop-n
invariant-loop-n l =
    (w : List ℕ) → IsInverseSchedule w l.words l.rounds → bytes_of_state l.state ≡ after_inverse_rounds w l.rounds l.fn.block (l.n - 1)
