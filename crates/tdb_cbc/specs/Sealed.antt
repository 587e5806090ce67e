-- Sealed texts: padded and enciphered.
use Rattle.std.specs.Prelude.{◌≡◌, ◌≢◌, ℕ, ◌%◌, List, length, ◌⊎◌}
use Rattle.tdb_cbc.specs.Cbc.{decrypted, encrypted}
use Rattle.tdb_cbc.specs.Padding.{padded}

-- the text, padded and enciphered
abbrev pub sealed : List ℕ → List ℕ → List ℕ → List ℕ
sealed key iv text = encrypted key iv (padded text)

-- the bytes are no whole blocks, or none
abbrev pub HasNoWholeBlocks : List ℕ → Type 0
HasNoWholeBlocks bytes = (length bytes ≡ 0) ⊎ (length bytes % 16 ≢ 0)

-- the bytes are whole blocks, and decipher to the text and its padding
pub record Opens (key iv bytes text : List ℕ) : Type 0 where
  pub whole : HasNoWholeBlocks bytes → ⊥
  pub plain : decrypted key iv bytes ≡ padded text
