use Rattle.std.proofs.Common.{◌≡◌, ℕ, ◌-◌, ◌/◌, true, sym, subst, ◌∙◌, arith, eq-eqb}
use Rattle.std.proofs.lemmas.Bool.{eqb-true}
use Rattle.tdb_node.specs.SegmentTable.{IsTableValue}
use Rattle.tdb_seg.specs.TableSpace.{is_used}
use Rattle.tdb_seg.specs.InsideLaws.{contains-used_in}
use Rattle.tdb_seg.proofs.segments.Segments.is_tail.Goals as goal

pub returns : goal.returns
returns c =
    let value : IsTableValue c.args.table.now = record { words = c.known_words.ensures.number; word = c.known_words.ensures.fit } in
    let segment : ℕ = (c.args.tail.0 - 1) / 262144 - 1 in (
      λ yes.
          (segment, eqb-true _ 1 (sym (contains-used_in c.args.table.now value segment) ∙ sym c.has_segment.ensures ∙ yes), record { after_start = omega arith; within = omega arith }),
      λ is.
          let same : is.0 ≡ (c.args.tail.0 - 1) / 262144 - 1 = omega (arith, is.2.after_start, is.2.within) in
          c.has_segment.ensures
          ∙ contains-used_in c.args.table.now value segment
          ∙ subst (λ (k : ℕ). is_used c.args.table.now k ≡ true) same (eq-eqb _ 1 is.1),
    )
