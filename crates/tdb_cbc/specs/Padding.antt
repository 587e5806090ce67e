-- The padding of RFC 5652 section 6.3, to blocks of 16 bytes: n bytes of value n, for n from 1 to 16.
use Rattle.std.specs.Prelude.{ℕ, ◌-◌, ◌%◌, List, ◌++◌, length, replicate}

-- how many bytes are added to a text
abbrev pub padding_length : List ℕ → ℕ
padding_length text = 16 - length text % 16

-- the text and its padding
unfoldable pub padded : List ℕ → List ℕ
padded text = text ++ replicate (padding_length text) (padding_length text)
