use Rattle.std.proofs.Common.{ap, ◌∙◌}
use Rattle.tdb_parts.proofs.DifferenceLemmas.{told_differs}
use Rattle.tdb_parts.proofs.TellLemmas.{equal_shared, has_whole}
use Rattle.tdb_parts.specs.Told.{told}
use Rattle.tdb_parts.proofs.comparing.changed.Goals as goal

pub returns-clause-differs : goal.returns-clause-differs
returns-clause-differs g c are rank below one other in_a in_b =
    let texts = g.P.Pieces.texts c.changed_below.new.pieces in
    let a = c.args.a.now in
    let b = c.args.b.now in
    let found = c.changed_below.new.found.items in
    let whole = has_whole texts a b 3 a.root b.root c.new-found.result.items found c.new-found.ensures.items (c.in_ok-changed_below.ensures).has_told in
    told_differs texts are a b 3 0 a.root b.root rank in_a.leaf in_b.leaf one other (told found rank) in_a.at in_b.at in_a.chunk_is in_b.chunk_is (whole.0 rank below)

pub returns-clause-equal : goal.returns-clause-equal
returns-clause-equal g c same =
    let s = (c.in_ok-changed_below.ensures).shared (equal_shared c.args.a.now c.args.b.now same) in
    (s.0, record {}, ap (λ v. v.items) s.1 ∙ c.new-found.ensures.items)
