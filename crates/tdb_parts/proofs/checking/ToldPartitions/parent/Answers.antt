use Rattle.std.proofs.Common.{Some, None, sym, ◌∙◌}
use Rattle.tdb_parts.proofs.Parents.{parent_is}
use Rattle.tdb_parts.proofs.checking.ToldPartitions.parent.Goals as goal

pub returns-in-Some : goal.returns-in-Some
returns-in-Some c = parent_is c.args.self.now.overlay.now c.args.part.0 (Some c.in-Some.leader) (sym c.in-Some.is ∙ c.leader.ensures.found)

pub returns-in-None : goal.returns-in-None
returns-in-None c = parent_is c.args.self.now.overlay.now c.args.part.0 None (sym c.in-None.is ∙ c.leader.ensures.found)
