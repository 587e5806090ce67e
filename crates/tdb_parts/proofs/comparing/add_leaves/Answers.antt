use Rattle.std.proofs.Common.{Option, subst}
use Rattle.tdb_model.specs.declared.change.Side.{Side}
use Rattle.tdb_parts.specs.Told.{IsLeafTold}
use Rattle.tdb_parts.proofs.TellLemmas.{has_no_leaf}
use Rattle.tdb_parts.proofs.comparing.add_leaves.Goals as goal

pub returns-in_default-clause-has_told : goal.returns-in_default-clause-has_told
returns-in_default-clause-has_told g c =
    let texts = g.P.Pieces.texts c.side_of_leaves.new.pieces in
    let a = c.args.trees.now.a.now in
    let b = c.args.trees.now.b.now in
    has_no_leaf texts a b c.args.rank c.args.leaves.a c.args.leaves.b c.args.found.now.items
    (subst (λ (side : Option Side). IsLeafTold texts a b c.args.rank c.args.leaves.a c.args.leaves.b side) c.in_default.is c.in_ok-side.ensures.leaf_told)
