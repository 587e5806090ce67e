use Rattle.std.proofs.Common.{◌≡◌, ◌<◌, ◌≤◌, Some, sym, subst, ap, ◌∙◌, arith}
use Rattle.tdb_seg.specs.SegmentSpace.{SegmentSpace, IsSegmentSpace, bytes_left}
use Rattle.tdb_seg.proofs.Placing.{kept-space, no_tail, next-at_tail, next-past, lies-at_tail, lies-if_free}
use Rattle.tdb_seg.proofs.segments.Segments.next_place.Goals as goal
use Rattle.tdb_seg.proofs.segments.Segments.next_place.Goals.{in_default-via-in-Some+else-length-tail_left, in_default-via-in_default}

pub returns-in-Some-clause-next : goal.returns-in-Some-clause-next
returns-in-Some-clause-next c =
    let here : c.args.self.now.tail ≡ Some c.in-Some.tail = sym (ap (λ (space : SegmentSpace). space.tail) c.self.view_is) ∙ c.in-Some.is in
    let fits : c.args.length ≤ bytes_left c.args.self.now.tail = omega (arith, c.if-length-tail_left.true, c.tail_left.ensures) in
    sym (next-at_tail c.args.self.now c.in-Some.tail c.args.length c.args.keep here fits)

pub returns-in-Some-clause-lies : goal.returns-in-Some-clause-lies
returns-in-Some-clause-lies c =
    let here : c.args.self.now.tail ≡ Some c.in-Some.tail = sym (ap (λ (space : SegmentSpace). space.tail) c.self.view_is) ∙ c.in-Some.is in
    let fits : c.args.length ≤ bytes_left c.args.self.now.tail = omega (arith, c.if-length-tail_left.true, c.tail_left.ensures) in
    lies-at_tail c.args.self.now (subst IsSegmentSpace c.self.view_is (kept-space c.self.inside c.self.invariant)) c.in-Some.tail c.args.length here c.requires.some fits

pub returns-in_default-clause-next : goal.returns-in_default-clause-next
returns-in_default-clause-next c =
    let over : bytes_left c.args.self.now.tail < c.args.length =
    elim c.in_default.branch [ in_default-via-in-Some+else-length-tail_left w ↦ omega (arith, w.if-length-tail_left.false, w.tail_left.ensures) | in_default-via-in_default w ↦ no_tail c.args.self.now.tail c.args.length (sym (ap (λ (space : SegmentSpace). space.tail) c.self.view_is) ∙ w.in_default.is) c.requires.some ] in
    c.next_segment.ensures ∙ sym (next-past c.args.self.now c.args.length c.args.keep over)

pub returns-in_default-clause-lies : goal.returns-in_default-clause-lies
returns-in_default-clause-lies c = lies-if_free c.args.self.now c.args.keep c.args.length c.next_segment.result c.requires.some c.requires.most c.next_segment.ensures
