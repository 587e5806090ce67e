use Rattle.std.proofs.Common.{◌≡◌, ◌-◌}
use Rattle.tdb_aes.specs.Cipher.{after_rounds}
use Rattle.tdb_aes.specs.State.{bytes_of_state}
use Rattle.tdb_aes.proofs.cipher.encrypted.Given as goal

abbrev pub invariant-loop-n : goal.invariant-loop-n
invariant-loop-n l = bytes_of_state l.state ≡ after_rounds l.words l.fn.block (l.n - 1)
