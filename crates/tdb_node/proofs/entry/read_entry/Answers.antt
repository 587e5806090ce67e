use Rattle.std.proofs.Common.{◌∙◌, sym, refl, arith}
use Rattle.std.proofs.lemmas.Bool.Decides.{Decides-eqb}
use Rattle.std.proofs.lemmas.Slice.Eq.{slice_eq-Decides}
use Rattle.tdb_node.proofs.EntrySpelling.{no_entry}
use Rattle.tdb_node.proofs.entry.read_entry.Goals as goal
use Rattle.tdb_node.proofs.entry.read_entry.Goals.{else-number-eq0-via-then-number-eq0+else-eq, else-number-eq0-via-else-number-eq0, else-number-eq1-via-then-number-eq1+else-lies_in_one_segment, else-number-eq1-via-else-number-eq1}

pub returns-else-number-eq1-clause-form : goal.returns-else-number-eq1-clause-form
returns-else-number-eq1-clause-form c = (
  refl,
  no_entry c.split_u32-number.result.0 c.split_u32-number.result.1.now c.args.bytes.now c.piece_of-piece.result (omega arith) c.piece_of-piece.ensures.value c.split_u32-number.ensures c.piece_of-piece.ensures.spelled
      (λ zero rest. elim c.else-number-eq0.branch [
        | else-number-eq0-via-then-number-eq0+else-eq w ↦ absurd (cc ((slice_eq-Decides Decides-eqb _ _ _ w.eq.ensures).1 (rest ∙ sym w.as_slice.ensures), w.if-eq.false))
        | else-number-eq0-via-else-number-eq0 w ↦ absurd (w.if-number-eq0.false zero)
      ])
      (λ one lies. elim c.else-number-eq1.branch [
        | else-number-eq1-via-then-number-eq1+else-lies_in_one_segment w ↦ absurd (cc (w.lies_in_one_segment.ensures.meaning.1 lies, w.if-lies_in_one_segment.false))
        | else-number-eq1-via-else-number-eq1 w ↦ absurd (w.if-number-eq1.false one)
      ]),
)
