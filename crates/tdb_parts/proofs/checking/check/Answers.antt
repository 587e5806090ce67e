use Rattle.std.proofs.Common.{◌∙◌}
use Rattle.tdb_overlay.specs.Found.{in_trace}
use Rattle.tdb_parts.proofs.Parents.{check_covered}
use Rattle.tdb_parts.proofs.checking.check.Goals as goal

pub returns-clause-state : goal.returns-clause-state
returns-clause-state c = λ written secret state is. c.check_each.ensures ∙ check_covered (in_trace written) secret c.args.overlay.now state c.args.changes.now is
