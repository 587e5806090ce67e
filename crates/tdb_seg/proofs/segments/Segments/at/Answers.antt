use Rattle.std.proofs.Common.{◌∙◌, eq-eqb}
use Rattle.tdb_node.specs.SegmentTable.{IsTableValue}
use Rattle.tdb_seg.specs.InsideLaws.{contains-used_in}
use Rattle.tdb_seg.proofs.segments.Segments.at.Goals as goal

pub invariant_of-result : goal.invariant_of-result
invariant_of-result c =
    let value : IsTableValue c.args.table.now = record { words = c.known_words.ensures.number; word = c.known_words.ensures.fit } in
    let tail = c.requires.tail in
    record { table = c.requires.table; value = value; tail = (tail.0, contains-used_in c.args.table.now value tail.0 ∙ eq-eqb _ 1 tail.1, tail.2) }
