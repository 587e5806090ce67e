-- The text of a note, and the chunk that holds it.
use Rattle.std.specs.Prelude.{◌≡◌, ℕ, ◌<◌, ◌≤◌, List, ◌++◌, length, All}
use Rattle.std.specs.Int.{w32, to_be_bytes}

-- one printable ASCII character, a space among them
abbrev pub IsPrintable : ℕ → Type 0
IsPrintable byte = (0x20 ≤ byte) × (byte ≤ 0x7e)

-- 1 to 2,000 printable characters
abbrev pub IsNoteText : List ℕ → Type 0
IsNoteText text = (1 ≤ length text) × (length text ≤ 2000) × All IsPrintable text

-- The chunk of a note with this mask of its collections, and this text. Numbers have four bytes, most significant first.
unfoldable pub stored_bytes : ℕ → List ℕ → List ℕ
stored_bytes mask text =
    to_be_bytes w32 mask
    ++ to_be_bytes w32 1  -- the class of notes
    ++ to_be_bytes w32 1  -- the version
    ++ to_be_bytes w32 (length text)
    ++ text

-- the chunk of a note that is in no collection
abbrev pub stored_note_bytes : List ℕ → List ℕ
stored_note_bytes text = stored_bytes 0 text

-- The chunk holds the note of this text. A mask has 16 bits, one for each collection that there may be.
pub record IsStoredNote (chunk : List ℕ) (mask : ℕ) (text : List ℕ) : Type 0 where
  pub mask_fits : mask < 65536
  pub is_text : IsNoteText text
  pub stored : chunk ≡ stored_bytes mask text
