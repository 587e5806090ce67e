use Rattle.std.proofs.Common.{◌≡◌, ◌++◌, ℕ, List, None, Some, codes, ap, subst, sym, ◌∙◌}
use Rattle.std.proofs.lemmas.Bool.Decides.{Decides-eqb}
use Rattle.std.proofs.lemmas.Slice.Eq.{strip_prefix_is}
use Rattle.tdb_script.specs.NoteText.{IsNoteText}
use Rattle.tdb_script.proofs.LineLaws.{note_fields, behind_command, behind_note, note_spelled}
use Rattle.tdb_script.proofs.line.read_new.Goals as goal

pub returns-in_err-transaction-clause-none : goal.returns-in_err-transaction-clause-none
returns-in_err-transaction-clause-none c = rw c.from_residual-in_err-transaction.ensures (λ n text within _ spelled.
    let found = c.in_ok-number.ensures.found in
    let behind = behind_command c.args.bytes.now _ _ (codes "new ") _ c.as_slice.ensures c.in_ok-fields.ensures.cases.1 found.1 in
    let fields = note_fields c.args.bytes.now c.in_ok-number.number.now c.in_ok-number.value.now n text within found.0 behind spelled in
    c.in_err-transaction.ensures.none n within fields.0)

pub returns-in_err-text-clause-none : goal.returns-in_err-text-clause-none
returns-in_err-text-clause-none c = rw c.from_residual-in_err-text.ensures (λ n text within _ spelled.
    let found = c.in_ok-number.ensures.found in
    let behind = behind_command c.args.bytes.now _ _ (codes "new ") _ c.as_slice.ensures c.in_ok-fields.ensures.cases.1 found.1 in
    let fields = note_fields c.args.bytes.now c.in_ok-number.number.now c.in_ok-number.value.now n text within found.0 behind spelled in
    strip_prefix_is Decides-eqb c.in_ok-number.value.now c.as_slice-2.result.now None c.in_err-text.ensures.cases text
    (fields.1 ∙ ap (λ (l : List ℕ). l ++ text) (sym c.as_slice-2.ensures)))

pub returns-then-is_note_text-clause-found : goal.returns-then-is_note_text-clause-found
returns-then-is_note_text-clause-found c =
    let fields = c.in_ok-fields.fields in
    let text = c.in_ok-text.text in
    let behind_new = strip_prefix_is Decides-eqb c.args.bytes.now c.as_slice.result.now (Some fields) c.in_ok-fields.ensures.cases in
    let behind_note = strip_prefix_is Decides-eqb c.in_ok-number.value.now c.as_slice-2.result.now (Some text) c.in_ok-text.ensures.cases in (
      c.in_ok-transaction.ensures.found.0,
      c.is_note_text.ensures.0 c.if-is_note_text.true,
      note_spelled c.args.bytes.now fields.now c.in_ok-number.number.now c.in_ok-number.value.now text.now c.in_ok-transaction.transaction.0
          (behind_new ∙ ap (λ (l : List ℕ). l ++ fields.now) c.as_slice.ensures)
          c.in_ok-number.ensures.found.1
          c.in_ok-transaction.ensures.found.1
          (behind_note ∙ ap (λ (l : List ℕ). l ++ text.now) c.as_slice-2.ensures),
    )

pub returns-else-is_note_text-clause-none : goal.returns-else-is_note_text-clause-none
returns-else-is_note_text-clause-none c n text within is_text spelled =
    let found = c.in_ok-number.ensures.found in
    let behind = behind_command c.args.bytes.now _ _ (codes "new ") _ c.as_slice.ensures c.in_ok-fields.ensures.cases.1 found.1 in
    let fields = note_fields c.args.bytes.now c.in_ok-number.number.now c.in_ok-number.value.now n text within found.0 behind spelled in
    let same : c.in_ok-text.text.now ≡ text = behind_note c.in_ok-number.value.now _ _ text c.as_slice-2.ensures c.in_ok-text.ensures.cases.1 fields.1 in
    let yes = c.is_note_text.ensures.1 (subst IsNoteText (sym same) is_text) in
    absurd (cc (yes, c.if-is_note_text.false))
