use Rattle.std.proofs.Common.{sym, ◌∙◌}
use Rattle.tdb_chunk.proofs.Owners.{told_by_leader, told_by_none}
use Rattle.tdb_chunk.proofs.laying.told_owner.Goals as goal

pub returns-in-Some : goal.returns-in-Some
returns-in-Some c = told_by_leader c.args.overlay.now c.args.part c.in-Some.leader (sym c.in-Some.is ∙ c.leader.ensures.found) (c.in-Some.ensures.named)

pub returns-in-None : goal.returns-in-None
returns-in-None c = told_by_none c.args.overlay.now c.args.part (sym c.in-None.is ∙ c.leader.ensures.found)
