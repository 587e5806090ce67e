use Rattle.std.proofs.Common.{◌≡◌, ℕ, List, ◌++◌, length, drop, arith, refl, ap, sym, subst, ◌∙◌}
use Rattle.std.specs.List.{flat_map}
use Rattle.std.specs.Int.{w32, w64, to_be_bytes}
use Rattle.std.proofs.lemmas.Bool.Decides.{Decides-eqb}
use Rattle.std.proofs.lemmas.Slice.Eq.{slice_eq-Decides}
use Rattle.std.proofs.lemmas.List.{take-append-drop}
use Rattle.tdb_node.specs.SegmentTable.{IsTable}
use Rattle.tdb_node.proofs.TableSpelling.{length-table_bytes, fields_of}
use Rattle.tdb_node.proofs.table.read_table.Goals as goal
use Rattle.tdb_node.proofs.table.read_table.Goals.{else-eq-via-then-eq+then-zero-eq0+else-is_well_formed, else-eq-via-then-eq+else-zero-eq0, else-eq-via-else-eq}

pub returns-then-bytes-ne-TABLE_LENGTH-clause-form : goal.returns-then-bytes-ne-TABLE_LENGTH-clause-form
returns-then-bytes-ne-TABLE_LENGTH-clause-form c =
    (refl, λ table is. c.if-bytes-ne-TABLE_LENGTH.true (ap (λ (l : List ℕ). length l) is.spelled ∙ length-table_bytes table is.value))

pub returns-else-eq-clause-form : goal.returns-else-eq-clause-form
returns-else-eq-clause-form c = (
  refl,
  λ table is.
      let magic = c.split_at.result.0.now in
      let segments = c.split_u32-segments.result.0 in
      let zero = c.split_u32-zero.result.0 in
      let spelled : c.args.bytes.now ≡ magic ++ (to_be_bytes w32 segments ++ (to_be_bytes w32 zero ++ flat_map (to_be_bytes w64) c.words_of.result)) =
      sym (take-append-drop 8 c.args.bytes.now)
      ∙ ap (λ (l : List ℕ). l ++ drop 8 c.args.bytes.now) (sym c.split_at.ensures.front)
      ∙ ap (λ (l : List ℕ). magic ++ l) (sym c.split_at.ensures.back ∙ c.split_u32-segments.ensures
      ∙ ap (λ (l : List ℕ). to_be_bytes w32 segments ++ l) (c.split_u32-zero.ensures
      ∙ ap (λ (l : List ℕ). to_be_bytes w32 zero ++ l) c.words_of.ensures.spelled)) in
      let fields = fields_of table c.args.bytes.now magic segments zero c.words_of.result is
      (omega arith) (omega arith) (omega arith) c.words_of.ensures.words (omega arith) spelled in
      elim c.else-eq.branch [
        | else-eq-via-then-eq+then-zero-eq0+else-is_well_formed w ↦ absurd (cc (w.is_well_formed.ensures.1 (subst IsTable (sym fields.table) is.table), w.if-is_well_formed.false))
        | else-eq-via-then-eq+else-zero-eq0 w ↦ absurd (w.if-zero-eq0.false fields.reserved)
        | else-eq-via-else-eq w ↦ absurd (cc ((slice_eq-Decides Decides-eqb _ _ _ c.eq.ensures).1 (fields.magic ∙ sym c.as_slice.ensures), w.if-eq.false))
      ],
)
