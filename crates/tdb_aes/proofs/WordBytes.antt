-- The bytes of a word, of a sum of words, and of four words.
use Rattle.std.proofs.Common.{◌≡◌, ℕ, ◌/◌, ◌%◌, ◌^◌, List, [], ◌∷◌, ◌++◌, bit_xor, get_or, ap, ◌∙◌}
use Rattle.std.proofs.lemmas.Nat.{xor_mod, xor_shr}
use Rattle.std.specs.Int.{w32, byte_at, to_be_bytes}
use Rattle.tdb_aes.specs.Field.{product}
use Rattle.tdb_aes.specs.MixColumns.{polynomial_product}
use Rattle.tdb_aes.specs.State.{bytes_of_words}

-- byte k of a sum, from the byte's place in bits
field-xor : (a b k : ℕ) → bit_xor a b / 2 ^ k % 2 ^ 8 ≡ bit_xor (a / 2 ^ k % 2 ^ 8) (b / 2 ^ k % 2 ^ 8)
field-xor a b k = ap (λ (x : ℕ). x % 2 ^ 8) (xor_shr a b k) ∙ xor_mod (a / 2 ^ k) (b / 2 ^ k) 8

pub to_be_bytes-xor : (a b : ℕ) → to_be_bytes w32 (bit_xor a b)
    ≡ bit_xor (byte_at 3 a) (byte_at 3 b) ∷ bit_xor (byte_at 2 a) (byte_at 2 b) ∷ bit_xor (byte_at 1 a) (byte_at 1 b) ∷ bit_xor (byte_at 0 a) (byte_at 0 b) ∷ []
to_be_bytes-xor a b =
    let e3 = field-xor a b 24 in
    let e2 = field-xor a b 16 in
    let e1 = field-xor a b 8 in
    let e0 = xor_mod a b 8 in
    λ i. e3 i ∷ e2 i ∷ e1 i ∷ e0 i ∷ []

-- the bytes of a sum, from the bytes of its parts
pub to_be_bytes-sum : (a b a3 a2 a1 a0 b3 b2 b1 b0 : ℕ)
    → to_be_bytes w32 a ≡ a3 ∷ a2 ∷ a1 ∷ a0 ∷ [] → to_be_bytes w32 b ≡ b3 ∷ b2 ∷ b1 ∷ b0 ∷ []
    → to_be_bytes w32 (bit_xor a b) ≡ bit_xor a3 b3 ∷ bit_xor a2 b2 ∷ bit_xor a1 b1 ∷ bit_xor a0 b0 ∷ []
to_be_bytes-sum a b a3 a2 a1 a0 b3 b2 b1 b0 ea eb =
    to_be_bytes-xor a b
    ∙ (λ i. bit_xor (get_or (ea i) 0 0) (get_or (eb i) 0 0) ∷ bit_xor (get_or (ea i) 1 0) (get_or (eb i) 1 0)
    ∷ bit_xor (get_or (ea i) 2 0) (get_or (eb i) 2 0) ∷ bit_xor (get_or (ea i) 3 0) (get_or (eb i) 3 0) ∷ [])

-- four words whose bytes are the columns of a polynomial add up to its product
pub to_be_bytes-columns : (p0 p1 p2 p3 x0 x1 x2 x3 u0 u1 u2 u3 : ℕ)
    → to_be_bytes w32 u0 ≡ product p0 x0 ∷ product p1 x0 ∷ product p2 x0 ∷ product p3 x0 ∷ []
    → to_be_bytes w32 u1 ≡ product p3 x1 ∷ product p0 x1 ∷ product p1 x1 ∷ product p2 x1 ∷ []
    → to_be_bytes w32 u2 ≡ product p2 x2 ∷ product p3 x2 ∷ product p0 x2 ∷ product p1 x2 ∷ []
    → to_be_bytes w32 u3 ≡ product p1 x3 ∷ product p2 x3 ∷ product p3 x3 ∷ product p0 x3 ∷ []
    → to_be_bytes w32 (bit_xor (bit_xor (bit_xor u0 u1) u2) u3)
    ≡ polynomial_product (p0 ∷ p1 ∷ p2 ∷ p3 ∷ []) (x0 ∷ x1 ∷ x2 ∷ x3 ∷ [])
to_be_bytes-columns p0 p1 p2 p3 x0 x1 x2 x3 u0 u1 u2 u3 e0 e1 e2 e3 =
    to_be_bytes-sum (bit_xor (bit_xor u0 u1) u2) u3 _ _ _ _ _ _ _ _
    (to_be_bytes-sum (bit_xor u0 u1) u2 _ _ _ _ _ _ _ _ (to_be_bytes-sum u0 u1 _ _ _ _ _ _ _ _ e0 e1) e2) e3

-- four words by their bytes
pub bytes_of_words-from : (a b c d : ℕ) (al bl cl dl : List ℕ)
    → to_be_bytes w32 a ≡ al → to_be_bytes w32 b ≡ bl → to_be_bytes w32 c ≡ cl → to_be_bytes w32 d ≡ dl
    → bytes_of_words a b c d ≡ al ++ bl ++ cl ++ dl
unfolding bytes_of_words
bytes_of_words-from a b c d al bl cl dl ea eb ec ed = λ i. ea i ++ eb i ++ ec i ++ ed i

-- the columns of a state whose bytes are turned by ShiftRows, and then go through F
pub bytes_of_words-shifted : (F : ℕ → ℕ → ℕ → ℕ → List ℕ) (a b c d : ℕ) (al bl cl dl : List ℕ) (m0 m1 m2 m3 : ℕ)
    → al ≡ to_be_bytes w32 a → bl ≡ to_be_bytes w32 b → cl ≡ to_be_bytes w32 c → dl ≡ to_be_bytes w32 d
    → to_be_bytes w32 m0 ≡ F (get_or al 0 0) (get_or bl 1 0) (get_or cl 2 0) (get_or dl 3 0)
    → to_be_bytes w32 m1 ≡ F (get_or bl 0 0) (get_or cl 1 0) (get_or dl 2 0) (get_or al 3 0)
    → to_be_bytes w32 m2 ≡ F (get_or cl 0 0) (get_or dl 1 0) (get_or al 2 0) (get_or bl 3 0)
    → to_be_bytes w32 m3 ≡ F (get_or dl 0 0) (get_or al 1 0) (get_or bl 2 0) (get_or cl 3 0)
    → bytes_of_words m0 m1 m2 m3
    ≡ F (byte_at 3 a) (byte_at 2 b) (byte_at 1 c) (byte_at 0 d) ++ F (byte_at 3 b) (byte_at 2 c) (byte_at 1 d) (byte_at 0 a)
    ++ F (byte_at 3 c) (byte_at 2 d) (byte_at 1 a) (byte_at 0 b) ++ F (byte_at 3 d) (byte_at 2 a) (byte_at 1 b) (byte_at 0 c)
bytes_of_words-shifted F a b c d al bl cl dl m0 m1 m2 m3 ea eb ec ed h0 h1 h2 h3 =
    bytes_of_words-from m0 m1 m2 m3 _ _ _ _ h0 h1 h2 h3
    ∙ (λ i. F (get_or (ea i) 0 0) (get_or (eb i) 1 0) (get_or (ec i) 2 0) (get_or (ed i) 3 0)
    ++ F (get_or (eb i) 0 0) (get_or (ec i) 1 0) (get_or (ed i) 2 0) (get_or (ea i) 3 0)
    ++ F (get_or (ec i) 0 0) (get_or (ed i) 1 0) (get_or (ea i) 2 0) (get_or (eb i) 3 0)
    ++ F (get_or (ed i) 0 0) (get_or (ea i) 1 0) (get_or (eb i) 2 0) (get_or (ec i) 3 0))

-- the same for InvShiftRows
pub bytes_of_words-shifted_back : (F : ℕ → ℕ → ℕ → ℕ → List ℕ) (a b c d : ℕ) (al bl cl dl : List ℕ) (m0 m1 m2 m3 : ℕ)
    → al ≡ to_be_bytes w32 a → bl ≡ to_be_bytes w32 b → cl ≡ to_be_bytes w32 c → dl ≡ to_be_bytes w32 d
    → to_be_bytes w32 m0 ≡ F (get_or al 0 0) (get_or dl 1 0) (get_or cl 2 0) (get_or bl 3 0)
    → to_be_bytes w32 m1 ≡ F (get_or bl 0 0) (get_or al 1 0) (get_or dl 2 0) (get_or cl 3 0)
    → to_be_bytes w32 m2 ≡ F (get_or cl 0 0) (get_or bl 1 0) (get_or al 2 0) (get_or dl 3 0)
    → to_be_bytes w32 m3 ≡ F (get_or dl 0 0) (get_or cl 1 0) (get_or bl 2 0) (get_or al 3 0)
    → bytes_of_words m0 m1 m2 m3
    ≡ F (byte_at 3 a) (byte_at 2 d) (byte_at 1 c) (byte_at 0 b) ++ F (byte_at 3 b) (byte_at 2 a) (byte_at 1 d) (byte_at 0 c)
    ++ F (byte_at 3 c) (byte_at 2 b) (byte_at 1 a) (byte_at 0 d) ++ F (byte_at 3 d) (byte_at 2 c) (byte_at 1 b) (byte_at 0 a)
bytes_of_words-shifted_back F a b c d al bl cl dl m0 m1 m2 m3 ea eb ec ed h0 h1 h2 h3 =
    bytes_of_words-from m0 m1 m2 m3 _ _ _ _ h0 h1 h2 h3
    ∙ (λ i. F (get_or (ea i) 0 0) (get_or (ed i) 1 0) (get_or (ec i) 2 0) (get_or (eb i) 3 0)
    ++ F (get_or (eb i) 0 0) (get_or (ea i) 1 0) (get_or (ed i) 2 0) (get_or (ec i) 3 0)
    ++ F (get_or (ec i) 0 0) (get_or (eb i) 1 0) (get_or (ea i) 2 0) (get_or (ed i) 3 0)
    ++ F (get_or (ed i) 0 0) (get_or (ec i) 1 0) (get_or (eb i) 2 0) (get_or (ea i) 3 0))
