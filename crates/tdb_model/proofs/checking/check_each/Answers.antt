use Rattle.std.proofs.Common.{◌≡◌, Some, sym, ◌∙◌, ap, rules}
use Rattle.std.specs.Result.{result_err}
use Rattle.tdb_model.proofs.CheckLemmas.{passes_next, refused_at}
use Rattle.tdb_model.proofs.checking.check_each.Goals as goal

pub returns-in_err-check_change : goal.returns-in_err-check_change
returns-in_err-check_change g c =
    let error = c.in_err-check_change.field-0.0 in
    let given : result_err c.from_residual.result ≡ Some error = search rules in
    given ∙ sym (refused_at (g.P.Partitions.state c.args.partitions.now) c.args.changes.now c.loop-index.index c.index-changes-index.result error c.loop-index.invariant c.loop-index-test.true c.index-changes-index.is
    (sym c.check_change.ensures ∙ ap result_err c.in_err-check_change.was))

pub loop-index-preserved : goal.loop-index-preserved
loop-index-preserved g c =
    passes_next (g.P.Partitions.state c.args.partitions.now) c.args.changes.now c.loop-index.index c.index-changes-index.result c.loop-index.invariant c.loop-index-test.true c.index-changes-index.is (sym c.in_ok-check_change.ensures)
