-- The lines of a script, each value with its one spelling.
use Rattle.std.specs.Prelude.{◌≡◌, ℕ, ◌≤◌, List, ◌++◌, length, codes, decimal}
use Rattle.tdb_script.specs.NoteText.{IsNoteText}

-- what a line says: the number of a transaction or of a partition, the text of a new note, and the number of an object
pub data LineValue : Type 0 where
  begin : ℕ → LineValue
  new_note : ℕ → List ℕ → LineValue
  get : ℕ → ℕ → LineValue
  commit : ℕ → LineValue
  abort : ℕ → LineValue
  snapshot : ℕ → LineValue
  drop_part : ℕ → LineValue
  peek : ℕ → ℕ → LineValue
  parts : LineValue
  quit : LineValue

abbrev pub line_spelling : LineValue → List ℕ
line_spelling (begin transaction) = codes "begin " ++ decimal transaction
line_spelling (new_note transaction text) = codes "new " ++ decimal transaction ++ codes " note " ++ text
line_spelling (get transaction object) = codes "get " ++ decimal transaction ++ codes " " ++ decimal object
line_spelling (commit transaction) = codes "commit " ++ decimal transaction
line_spelling (abort transaction) = codes "abort " ++ decimal transaction
line_spelling (snapshot part) = codes "snapshot " ++ decimal part
line_spelling (drop_part part) = codes "drop " ++ decimal part
line_spelling (peek part object) = codes "peek " ++ decimal part ++ codes " " ++ decimal object
line_spelling parts = codes "parts"
line_spelling quit = codes "quit"

-- the numbers that a client may give a transaction
abbrev pub IsTransaction : ℕ → Type 0
IsTransaction number = (1 ≤ number) × (number ≤ 4294967295)

-- The numbers that a line may give for a partition. Which of them are partitions' is judged behind the grammar.
abbrev pub IsPart : ℕ → Type 0
IsPart number = number ≤ 4294967295

-- the numbers that an object may have
abbrev pub IsObject : ℕ → Type 0
IsObject number = number ≤ 262143

abbrev pub IsLineValue : LineValue → Type 0
IsLineValue (begin transaction) = IsTransaction transaction
IsLineValue (new_note transaction text) = IsTransaction transaction × IsNoteText text
IsLineValue (get transaction object) = IsTransaction transaction × IsObject object
IsLineValue (commit transaction) = IsTransaction transaction
IsLineValue (abort transaction) = IsTransaction transaction
IsLineValue (snapshot part) = IsPart part
IsLineValue (drop_part part) = IsPart part
IsLineValue (peek part object) = IsPart part × IsObject object
IsLineValue parts = Unit {0}
IsLineValue quit = Unit {0}

-- The bytes, without a line feed, are the line of this value. With its line feed a line has at most 4,096 bytes.
pub record IsLine (bytes : List ℕ) (value : LineValue) : Type 0 where
  pub fits : length bytes ≤ 4095
  pub in_range : IsLineValue value
  pub spelled : bytes ≡ line_spelling value
