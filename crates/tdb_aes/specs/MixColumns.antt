-- MixColumns (FIPS 197 section 5.1.3) and its inverse (section 5.3.3): each column is multiplied, as
-- a polynomial over GF(2^8) with row r as the coefficient of x^r, by a fixed polynomial, modulo
-- x^4 + 1 (section 4.3).
use Rattle.std.specs.Prelude.{ℕ, ◌+◌, ◌%◌, List, [], ◌∷◌, bit_xor, slice_index}
use Rattle.tdb_aes.specs.Field.{product}
use Rattle.tdb_aes.specs.State.{entry, state_of}

-- the coefficient of x^r, for r below 4, in the product of the polynomials a and b modulo x^4 + 1:
-- the sum of a i * b j over each i and j with i + j equal to r modulo 4
abbrev pub coefficient : List ℕ → (ℕ → ℕ) → ℕ → ℕ
coefficient a b r =
    bit_xor (bit_xor (bit_xor (product (slice_index a r) (b 0)) (product (slice_index a ((r + 3) % 4)) (b 1)))
    (product (slice_index a ((r + 2) % 4)) (b 2)))
    (product (slice_index a ((r + 1) % 4)) (b 3))

-- the product of the polynomials a and b modulo x^4 + 1
abbrev pub polynomial_product : List ℕ → List ℕ → List ℕ
polynomial_product a b =
    coefficient a (slice_index b) 0 ∷ coefficient a (slice_index b) 1 ∷ coefficient a (slice_index b) 2
    ∷ coefficient a (slice_index b) 3 ∷ []

-- 03 x^3 + 01 x^2 + 01 x + 02
abbrev pub mix_polynomial : List ℕ
mix_polynomial = 0x02 ∷ 0x01 ∷ 0x01 ∷ 0x03 ∷ []

-- 0b x^3 + 0d x^2 + 09 x + 0e
abbrev pub inverse_mix_polynomial : List ℕ
inverse_mix_polynomial = 0x0e ∷ 0x09 ∷ 0x0d ∷ 0x0b ∷ []

unfoldable pub mix_columns : List ℕ → List ℕ
mix_columns s = state_of (λ r c. coefficient mix_polynomial (λ j. entry s j c) r)

unfoldable pub inverse_mix_columns : List ℕ → List ℕ
inverse_mix_columns s = state_of (λ r c. coefficient inverse_mix_polynomial (λ j. entry s j c) r)
