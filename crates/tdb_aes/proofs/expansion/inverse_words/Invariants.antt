use Rattle.std.proofs.Common.{◌≡◌, length}
use Rattle.tdb_aes.proofs.ScheduleLaws.{IsInverseBelow}
use Rattle.tdb_aes.proofs.expansion.inverse_words.Given as goal

abbrev pub invariant-loop-i : goal.invariant-loop-i
invariant-loop-i l = (length l.inverse ≡ 60) × IsInverseBelow l.words l.inverse l.i
