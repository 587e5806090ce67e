use Rattle.std.proofs.Common.{◌≡◌, ℕ, List, ◌++◌, ◌*◌, length, drop, arith, ap, sym, ◌∙◌}
use Rattle.std.specs.Int.{w32, to_be_bytes}
use Rattle.std.proofs.lemmas.Bool.Decides.{Decides-eqb}
use Rattle.std.proofs.lemmas.Slice.Eq.{slice_eq-Decides}
use Rattle.std.proofs.lemmas.List.{take-append-drop}
use Rattle.tdb_list.proofs.ListSpelling.{head_of, length-spelled}
use Rattle.tdb_list.proofs.list.split_head.Goals as goal
use Rattle.tdb_list.proofs.list.split_head.Goals.{else-eq-via-then-eq+then-zero-eq0+then-count-ge1+then-count-le-ENTRY_LIMIT+else-rest-count, else-eq-via-then-eq+then-zero-eq0+then-count-ge1+else-count-le-ENTRY_LIMIT, else-eq-via-then-eq+then-zero-eq0+else-count-ge1, else-eq-via-then-eq+else-zero-eq0, else-eq-via-else-eq}

pub returns-else-eq-clause-none : goal.returns-else-eq-clause-none
returns-else-eq-clause-none c entries is =
    let magic = c.split_at.result.0.now in
    let count = c.split_u32-count.result.0 in
    let zero = c.split_u32-zero.result.0 in
    let rest = c.split_u32-zero.result.1.now in
    let spelled : c.args.bytes.now ≡ magic ++ (to_be_bytes w32 count ++ (to_be_bytes w32 zero ++ rest)) =
    sym (take-append-drop 8 c.args.bytes.now)
    ∙ ap (λ (l : List ℕ). l ++ drop 8 c.args.bytes.now) (sym c.split_at.ensures.front)
    ∙ ap (λ (l : List ℕ). magic ++ l) (sym c.split_at.ensures.back ∙ c.split_u32-count.ensures
    ∙ ap (λ (l : List ℕ). to_be_bytes w32 count ++ l) c.split_u32-zero.ensures) in
    let head = head_of entries c.args.bytes.now magic count zero rest is (omega arith) (omega arith) (omega arith) spelled in
    let long : length rest ≡ 72 * length entries = ap (λ (l : List ℕ). length l) head.rest ∙ length-spelled entries is.values in
    elim c.else-eq.branch [
      | else-eq-via-then-eq+then-zero-eq0+then-count-ge1+then-count-le-ENTRY_LIMIT+else-rest-count w ↦ absurd (omega (arith, long, head.count))
      | else-eq-via-then-eq+then-zero-eq0+then-count-ge1+else-count-le-ENTRY_LIMIT w ↦ absurd (omega (arith, head.count, is.list.most))
      | else-eq-via-then-eq+then-zero-eq0+else-count-ge1 w ↦ absurd (omega (arith, head.count, is.list.least))
      | else-eq-via-then-eq+else-zero-eq0 w ↦ w.if-zero-eq0.false head.reserved
      | else-eq-via-else-eq w ↦ absurd (cc ((slice_eq-Decides Decides-eqb _ _ _ c.eq.ensures).1 (head.magic ∙ sym c.as_slice.ensures), w.if-eq.false))
    ]
