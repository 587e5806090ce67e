use Rattle.std.proofs.Common.{◌≡◌, length}
use Rattle.tdb_aes.proofs.ScheduleLaws.{BeginsWith}
use Rattle.tdb_aes.proofs.expansion.expanded.Given as goal

abbrev pub invariant-load : goal.invariant-load
invariant-load l = (length l.words ≡ 60) × BeginsWith l.key l.words l.i

abbrev pub invariant-expand : goal.invariant-expand
invariant-expand l = (length l.words ≡ 60) × BeginsWith l.key l.words l.i
