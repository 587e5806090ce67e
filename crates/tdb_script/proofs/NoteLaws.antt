-- The text of a note, and the chunk that holds it.
use Rattle.std.proofs.Common.{◌≡◌, ℕ, ◌+◌, ◌<◌, ◌^◌, lit<, List, ◌++◌, length, sym, ◌∙◌, ap, arith}
use Rattle.std.specs.Int.{w32, to_be_bytes}
use Rattle.std.specs.Str.{IsUtf8}
use Rattle.std.proofs.lemmas.Str.{IsUtf8-from_ascii}
use Rattle.std.proofs.lemmas.Str.Ascii.{IsAscii-from_all}
use Rattle.std.proofs.lemmas.List.Elements.{All-weaker}
use Rattle.tdb_base.proofs.SameFields.{same_u32}
use Rattle.tdb_script.specs.NoteText.{IsPrintable, IsNoteText, stored_bytes, stored_note_bytes, IsStoredNote}

-- printable ASCII is text
pub note_text_is_utf8 : (text : List ℕ) → IsNoteText text → IsUtf8 text
note_text_is_utf8 text is = IsUtf8-from_ascii text (IsAscii-from_all text (All-weaker IsPrintable (λ byte. byte < 128) (λ byte printable. omega (arith, printable.1)) text is.2))

-- a stored note has 16 bytes more than its text, whatever its mask
pub length-stored_bytes : (mask : ℕ) (text : List ℕ) → length (stored_bytes mask text) ≡ 16 + length text
unfolding stored_bytes
length-stored_bytes mask text = omega arith

-- so has one that is in no collection
pub length-stored_note_bytes : (text : List ℕ) → length (stored_note_bytes text) ≡ 16 + length text
length-stored_note_bytes text = length-stored_bytes 0 text

-- the four numbers in front of a text
abbrev pub fields_bytes : ℕ → ℕ → ℕ → ℕ → List ℕ → List ℕ
fields_bytes mask class version size text = to_be_bytes w32 mask ++ (to_be_bytes w32 class ++ (to_be_bytes w32 version ++ (to_be_bytes w32 size ++ text)))

-- the four numbers as they are split off the front, one after another
pub fields_joined : (chunk pickle body field text : List ℕ) (mask class version size : ℕ)
    → chunk ≡ to_be_bytes w32 mask ++ pickle → pickle ≡ to_be_bytes w32 class ++ body
    → body ≡ to_be_bytes w32 version ++ field → field ≡ to_be_bytes w32 size ++ text
    → chunk ≡ fields_bytes mask class version size text
fields_joined chunk pickle body field text mask class version size first second third fourth =
    first ∙ ap (λ (l : List ℕ). to_be_bytes w32 mask ++ l) (
    second ∙ ap (λ (l : List ℕ). to_be_bytes w32 class ++ l) (
    third ∙ ap (λ (l : List ℕ). to_be_bytes w32 version ++ l) fourth))

-- each of the four numbers fits four bytes
pub record FitFourBytes (mask class version size : ℕ) : Type 0 where
  pub mask_fits : mask < 2 ^ 32
  pub class_fits : class < 2 ^ 32
  pub version_fits : version < 2 ^ 32
  pub size_fits : size < 2 ^ 32

-- the numbers and the text of a chunk are those of the note that it holds
pub record IsAlike (mask class version size : ℕ) (text : List ℕ) (note_mask : ℕ) (note : List ℕ) : Type 0 where
  pub mask_is : mask ≡ note_mask
  pub class_is : class ≡ 1
  pub version_is : version ≡ 1
  pub size_is : size ≡ length note
  pub text_is : text ≡ note

-- a chunk that holds a note has that note's numbers and text
pub fields_are : (chunk : List ℕ) (mask class version size : ℕ) (text : List ℕ) → FitFourBytes mask class version size
    → chunk ≡ fields_bytes mask class version size text
    → (note_mask : ℕ) (note : List ℕ) → IsStoredNote chunk note_mask note
    → IsAlike mask class version size text note_mask note
unfolding stored_bytes
fields_are chunk mask class version size text fit is note_mask note stored =
    let first = same_u32 mask note_mask _ (to_be_bytes w32 1 ++ (to_be_bytes w32 1 ++ (to_be_bytes w32 (length note) ++ note))) fit.mask_fits (omega (arith, stored.mask_fits)) (sym is ∙ stored.stored) in
    let second = same_u32 class 1 _ (to_be_bytes w32 1 ++ (to_be_bytes w32 (length note) ++ note)) fit.class_fits (lit< tt) first.1 in
    let third = same_u32 version 1 _ (to_be_bytes w32 (length note) ++ note) fit.version_fits (lit< tt) second.1 in
    let fourth = same_u32 size (length note) text note fit.size_fits (omega (arith, stored.is_text.1)) third.1 in
    record { mask_is = first.0; class_is = second.0; version_is = third.0; size_is = fourth.0; text_is = fourth.1 }

-- a chunk holds one note at most
pub stored_note_unique : (chunk : List ℕ) (mask other_mask : ℕ) (text other : List ℕ)
    → IsStoredNote chunk mask text → IsStoredNote chunk other_mask other → (mask ≡ other_mask) × (text ≡ other)
unfolding stored_bytes
stored_note_unique chunk mask other_mask text other a b =
    let fit : FitFourBytes mask 1 1 (length text) = record { mask_fits = omega (arith, a.mask_fits); class_fits = lit< tt; version_fits = lit< tt; size_fits = omega (arith, a.is_text.1) } in
    let same = fields_are chunk mask 1 1 (length text) text fit a.stored other_mask other b in
    (same.mask_is, same.text_is)

-- a chunk that is shorter than the four numbers holds no note
pub too_short : (chunk : List ℕ) → length chunk < 16 → (mask : ℕ) (text : List ℕ) → IsStoredNote chunk mask text → ⊥
too_short chunk short mask text is = omega (arith, ap (λ (l : List ℕ). length l) is.stored, length-stored_bytes mask text)

-- the numbers of a note in front of its text are the chunk that holds it
pub is_stored : (chunk : List ℕ) (mask class version size : ℕ) (text : List ℕ)
    → chunk ≡ fields_bytes mask class version size text
    → mask < 65536 → class ≡ 1 → version ≡ 1 → size ≡ length text → IsNoteText text
    → IsStoredNote chunk mask text
unfolding stored_bytes
is_stored chunk mask class version size text is mask_fits class_is version_is size_is is_text =
    record { mask_fits = mask_fits; is_text = is_text; stored = is ∙ cc }
