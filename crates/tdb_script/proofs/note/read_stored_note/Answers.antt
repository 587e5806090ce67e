use Rattle.std.proofs.Common.{ℕ, List, length, sym, ap, subst, arith, rules}
use Rattle.tdb_script.specs.NoteText.{IsNoteText}
use Rattle.tdb_script.proofs.NoteLaws.{FitFourBytes, stored_note_unique, too_short, fields_joined, fields_are, is_stored}
use Rattle.tdb_script.proofs.note.read_stored_note.Goals as goal
use Rattle.tdb_script.proofs.note.read_stored_note.Goals.{else-mask-lt-MASK_LIMIT-via-then-mask-lt-MASK_LIMIT+then-class-eq-NOTE_CLASS+then-version-eq-NOTE_VERSION+then-length-text+else-is_note_text, else-mask-lt-MASK_LIMIT-via-then-mask-lt-MASK_LIMIT+then-class-eq-NOTE_CLASS+then-version-eq-NOTE_VERSION+else-length-text, else-mask-lt-MASK_LIMIT-via-then-mask-lt-MASK_LIMIT+then-class-eq-NOTE_CLASS+else-version-eq-NOTE_VERSION, else-mask-lt-MASK_LIMIT-via-then-mask-lt-MASK_LIMIT+else-class-eq-NOTE_CLASS, else-mask-lt-MASK_LIMIT-via-else-mask-lt-MASK_LIMIT}

pub returns-then-chunk-lt-NOTE_OVERHEAD-clause-none :
    goal.returns-then-chunk-lt-NOTE_OVERHEAD-clause-none
returns-then-chunk-lt-NOTE_OVERHEAD-clause-none c = too_short c.args.chunk.now c.if-chunk-lt-NOTE_OVERHEAD.true

pub returns-then-chunk-lt-NOTE_OVERHEAD-clause-unique :
    goal.returns-then-chunk-lt-NOTE_OVERHEAD-clause-unique
returns-then-chunk-lt-NOTE_OVERHEAD-clause-unique c = stored_note_unique c.args.chunk.now

pub returns-then-is_note_text-clause-found : goal.returns-then-is_note_text-clause-found
returns-then-is_note_text-clause-found c =
    let mask = c.split_u32-mask.result in
    let class = c.split_u32-class.result in
    let version = c.split_u32-version.result in
    let size = c.split_u32-length.result in
    let whole = fields_joined c.args.chunk.now mask.1.now class.1.now version.1.now size.1.now mask.0 class.0 version.0 size.0 c.split_u32-mask.ensures c.split_u32-class.ensures c.split_u32-version.ensures c.split_u32-length.ensures in
    (mask.0, is_stored c.args.chunk.now mask.0 class.0 version.0 size.0 size.1.now whole c.if-mask-lt-MASK_LIMIT.true c.if-class-eq-NOTE_CLASS.true c.if-version-eq-NOTE_VERSION.true c.if-length-text.true (c.is_note_text.ensures.0 c.if-is_note_text.true))

pub returns-then-is_note_text-clause-unique : goal.returns-then-is_note_text-clause-unique
returns-then-is_note_text-clause-unique c = stored_note_unique c.args.chunk.now

pub returns-else-mask-lt-MASK_LIMIT-clause-none :
    goal.returns-else-mask-lt-MASK_LIMIT-clause-none
returns-else-mask-lt-MASK_LIMIT-clause-none c note_mask note stored =
    let mask = c.split_u32-mask.result in
    let class = c.split_u32-class.result in
    let version = c.split_u32-version.result in
    let size = c.split_u32-length.result in
    let whole = fields_joined c.args.chunk.now mask.1.now class.1.now version.1.now size.1.now mask.0 class.0 version.0 size.0 c.split_u32-mask.ensures c.split_u32-class.ensures c.split_u32-version.ensures c.split_u32-length.ensures in
    let fit : FitFourBytes mask.0 class.0 version.0 size.0 = record { mask_fits = search rules; class_fits = search rules; version_fits = search rules; size_fits = search rules } in
    let are = fields_are c.args.chunk.now mask.0 class.0 version.0 size.0 size.1.now fit whole note_mask note stored in
    elim c.else-mask-lt-MASK_LIMIT.branch [
      | else-mask-lt-MASK_LIMIT-via-then-mask-lt-MASK_LIMIT+then-class-eq-NOTE_CLASS+then-version-eq-NOTE_VERSION+then-length-text+else-is_note_text w ↦
          let yes = w.is_note_text.ensures.1 (subst IsNoteText (sym are.text_is) stored.is_text) in
          absurd (cc (yes, w.if-is_note_text.false))
      | else-mask-lt-MASK_LIMIT-via-then-mask-lt-MASK_LIMIT+then-class-eq-NOTE_CLASS+then-version-eq-NOTE_VERSION+else-length-text w ↦
          omega (arith, w.if-length-text.false, are.size_is, ap (λ (l : List ℕ). length l) are.text_is)
      | else-mask-lt-MASK_LIMIT-via-then-mask-lt-MASK_LIMIT+then-class-eq-NOTE_CLASS+else-version-eq-NOTE_VERSION w ↦ omega (arith, w.if-version-eq-NOTE_VERSION.false, are.version_is)
      | else-mask-lt-MASK_LIMIT-via-then-mask-lt-MASK_LIMIT+else-class-eq-NOTE_CLASS w ↦ omega (arith, w.if-class-eq-NOTE_CLASS.false, are.class_is)
      | else-mask-lt-MASK_LIMIT-via-else-mask-lt-MASK_LIMIT w ↦ omega (arith, w.if-mask-lt-MASK_LIMIT.false, are.mask_is, stored.mask_fits)
    ]

pub returns-else-mask-lt-MASK_LIMIT-clause-unique :
    goal.returns-else-mask-lt-MASK_LIMIT-clause-unique
returns-else-mask-lt-MASK_LIMIT-clause-unique c = stored_note_unique c.args.chunk.now
