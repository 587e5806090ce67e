-- Cipher block chaining over AES (SP 800-38A section 6.2), for texts of whole blocks.
use Rattle.std.specs.Prelude.{ℕ, zero, suc, ◌/◌, List, length}
use Rattle.tdb_aes.specs.Cipher.{cipher, inverse_cipher}
use Rattle.tdb_cbc.specs.Blocks.{block, joined, xor_bytes}

-- C j: the initialization vector at 0, and from 1 on the cipher blocks of the text
unfoldable pub cipher_block : List ℕ → List ℕ → List ℕ → ℕ → List ℕ
cipher_block key iv text zero = iv
cipher_block key iv text (suc j) = cipher key (xor_bytes (block text j) (cipher_block key iv text j))

-- the text enciphered
abbrev pub encrypted : List ℕ → List ℕ → List ℕ → List ℕ
encrypted key iv text = joined (λ j. cipher_block key iv text (suc j)) (length text / 16)

-- C j of a text of cipher blocks
unfoldable pub given_block : List ℕ → List ℕ → ℕ → List ℕ
given_block iv bytes zero = iv
given_block iv bytes (suc j) = block bytes j

-- the plain text of cipher block j, counted from 0
unfoldable pub plain_block : List ℕ → List ℕ → List ℕ → ℕ → List ℕ
plain_block key iv bytes j = xor_bytes (inverse_cipher key (block bytes j)) (given_block iv bytes j)

-- the bytes deciphered
abbrev pub decrypted : List ℕ → List ℕ → List ℕ → List ℕ
decrypted key iv bytes = joined (plain_block key iv bytes) (length bytes / 16)
