use Rattle.tdb_map.specs.Nodes.{nodes_of}
use Rattle.tdb_map.proofs.WalkLemmas.{whole_walk}
use Rattle.tdb_map.proofs.walking.walk.Goals as goal

pub returns-clause-at : goal.returns-clause-at
returns-clause-at g c =
    (whole_walk (nodes_of (g.P.Pieces.texts c.walk_below.new.pieces) c.args.tree.now) 3 c.args.tree.now.root c.new-found.result.items c.walk_below.new.found.items c.new-found.ensures.items c.in_ok-walk_below.ensures.walked).0

pub returns-clause-ascends : goal.returns-clause-ascends
returns-clause-ascends g c =
    (whole_walk (nodes_of (g.P.Pieces.texts c.walk_below.new.pieces) c.args.tree.now) 3 c.args.tree.now.root c.new-found.result.items c.walk_below.new.found.items c.new-found.ensures.items c.in_ok-walk_below.ensures.walked).1
