use Rattle.std.proofs.Common.{refl, arith}
use Rattle.tdb_map.proofs.SealLemmas.{same_entries}
use Rattle.tdb_map.proofs.storing.is_same.Goals as goal

pub returns : goal.returns
returns c = (λ _. same_entries c.args.one.now c.args.other.now (omega arith) (λ k below. c.loop-at.invariant k (omega (arith, below, c.loop-at-test.false))), λ _. refl)
