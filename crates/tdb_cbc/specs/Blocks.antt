-- Texts as blocks of 16 bytes, counted from 0.
use Rattle.std.specs.Prelude.{ℕ, zero, suc, ◌*◌, List, [], ◌∷◌, ◌++◌, bit_xor, drop, take}

-- block j of a text
abbrev pub block : List ℕ → ℕ → List ℕ
block text j = take 16 (drop (16 * j) text)

-- the exclusive or of two texts of one length, byte by byte
unfoldable pub xor_bytes : List ℕ → List ℕ → List ℕ
xor_bytes (x ∷ xs) (y ∷ ys) = bit_xor x y ∷ xor_bytes xs ys
xor_bytes _ _ = []

-- f 0, f 1, .., f (n - 1) end to end
unfoldable pub joined : (ℕ → List ℕ) → ℕ → List ℕ
joined f zero = []
joined f (suc n) = joined f n ++ f n
