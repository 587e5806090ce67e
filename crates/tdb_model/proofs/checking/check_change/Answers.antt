use Rattle.std.proofs.Common.{sym, ◌∙◌, ap}
use Rattle.tdb_model.specs.Apply.{apply_all}
use Rattle.tdb_model.specs.Check.{refusal}
use Rattle.tdb_model.proofs.checking.check_change.Goals as goal

pub returns-in-Copy : goal.returns-in-Copy
returns-in-Copy g c = c.check_copy.ensures ∙ ap (refusal c.args.earlier.now (apply_all 0 (g.P.Partitions.state c.args.partitions.now) c.args.earlier.now)) (sym c.in-Copy.is)
