-- A word: 1 to 32 of the characters a to z, 0 to 9 and _.
use Rattle.std.specs.Prelude.{◌≡◌, ℕ, ◌≤◌, ◌⊎◌, List, length, All}

abbrev pub IsWordByte : ℕ → Type 0
IsWordByte byte = ((0x61 ≤ byte) × (byte ≤ 0x7a)) ⊎ ((0x30 ≤ byte) × (byte ≤ 0x39)) ⊎ (byte ≡ 0x5f)

abbrev pub IsWord : List ℕ → Type 0
IsWord text = (1 ≤ length text) × (length text ≤ 32) × All IsWordByte text
