-- A text as a field: its length in four bytes, and the text.
use Rattle.std.specs.Prelude.{ℕ, List, ◌++◌, length}
use Rattle.std.specs.Int.{w32, to_be_bytes}

abbrev pub text_bytes : List ℕ → List ℕ
text_bytes text = to_be_bytes w32 (length text) ++ text
