use Rattle.std.proofs.Common.{◌≡◌, ℕ, List, length, Some, ap, sym, subst, ◌∙◌}
use Rattle.std.proofs.lemmas.Bool.Decides.{Decides-eqb}
use Rattle.std.proofs.lemmas.Slice.Eq.{slice_eq-Decides}
use Rattle.tdb_base.specs.SuiteNumber.{suite_of_number}
use Rattle.tdb_bakfmt.specs.Header.{IsHeader, header_bytes}
use Rattle.tdb_bakfmt.proofs.HeaderSpelling.{header_again, length-header_bytes, suite_at}
use Rattle.tdb_bakfmt.proofs.header.read_header.Goals as goal

pub returns-then-bytes-ne-HEADER_LENGTH-clause-none : goal.returns-then-bytes-ne-HEADER_LENGTH-clause-none
returns-then-bytes-ne-HEADER_LENGTH-clause-none c h value is spelled =
    c.if-bytes-ne-HEADER_LENGTH.true (ap (λ (l : List ℕ). length l) spelled ∙ length-header_bytes h)

pub returns-in_default-clause-none : goal.returns-in_default-clause-none
returns-in_default-clause-none c h value is spelled =
    let some = ap suite_of_number c.u32_at.ensures ∙ suite_at h c.args.bytes.now spelled in
    absurd (cc (c.of_number.ensures.value, c.in_default.is, some))

pub returns-then-not-is_in_format-clause-none : goal.returns-then-not-is_in_format-clause-none
returns-then-not-is_in_format-clause-none c h value is spelled =
    let some = ap suite_of_number c.u32_at.ensures ∙ suite_at h c.args.bytes.now spelled in
    let suite : c.in-Some.suite ≡ h.suite = cc (c.of_number.ensures.value, c.in-Some.is, some) in
    let same = c.fields_at-header.ensures ∙ header_again h c.args.bytes.now c.in-Some.suite value is spelled suite in
    absurd (cc (c.is_in_format.ensures.1 (subst IsHeader (sym same) is), c.if-not-is_in_format.true))

pub returns-then-eq-clause-found : goal.returns-then-eq-clause-found
returns-then-eq-clause-found c = (
  c.is_in_format.ensures.0 (cc c.if-not-is_in_format.false),
  sym (sym (c.as_slice.ensures ∙ c.spell.ensures) ∙ (slice_eq-Decides Decides-eqb _ _ _ c.eq.ensures).0 c.if-eq.true),
)

pub returns-else-eq-clause-none : goal.returns-else-eq-clause-none
returns-else-eq-clause-none c h value is spelled =
    let some = ap suite_of_number c.u32_at.ensures ∙ suite_at h c.args.bytes.now spelled in
    let suite : c.in-Some.suite ≡ h.suite = cc (c.of_number.ensures.value, c.in-Some.is, some) in
    let same = c.fields_at-header.ensures ∙ header_again h c.args.bytes.now c.in-Some.suite value is spelled suite in
    let equal = c.as_slice.ensures ∙ c.spell.ensures ∙ ap header_bytes same ∙ sym spelled in
    absurd (cc ((slice_eq-Decides Decides-eqb _ _ _ c.eq.ensures).1 equal, c.if-eq.false))
