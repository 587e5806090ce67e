-- Each table of columns holds the products of the S-box's byte with the column of the polynomial.
use Rattle.std.proofs.Common.{◌≡◌, ℕ, ◌<◌, ◌==◌, ◌&&◌, Bool, true, List, [], ◌∷◌, get_or, refl, ap, ◌∙◌}
use Rattle.std.proofs.lemmas.Bool.{and_parts, eqb-true}
use Rattle.std.specs.Int.{w32, byte_at, to_be_bytes}
use Rattle.tdb_aes.specs.Field.{product, product_bits, xtime}
use Rattle.tdb_aes.specs.SubBytes.{inverse_sub_byte, sub_byte}
use Rattle.tdb_aes.specs.declared.tables.TheConstants.{COLUMN_0, COLUMN_1, COLUMN_2, COLUMN_3, INVERSE_COLUMN_0, INVERSE_COLUMN_1, INVERSE_COLUMN_2, INVERSE_COLUMN_3, INVERSE_S_BOX, S_BOX}
use Rattle.tdb_aes.proofs.Computed.{all_below, all_below-at}
use Rattle.tdb_aes.proofs.SBox.{inverse_s_box-at, s_box-at}

-- whether the word at b has the products of the byte at b with p0, p1, p2 and p3
abbrev is_column : List ℕ → List ℕ → ℕ → ℕ → ℕ → ℕ → ℕ → Bool
is_column table box p0 p1 p2 p3 b =
    (byte_at 3 (get_or table b 0) == product p0 (get_or box b 0) && byte_at 2 (get_or table b 0) == product p1 (get_or box b 0))
    && (byte_at 1 (get_or table b 0) == product p2 (get_or box b 0) && byte_at 0 (get_or table b 0) == product p3 (get_or box b 0))

column-at : (table box : List ℕ) (p0 p1 p2 p3 : ℕ) → all_below (is_column table box p0 p1 p2 p3) 256 ≡ true
    → (b s : ℕ) → b < 256 → get_or box b 0 ≡ s
    → to_be_bytes w32 (get_or table b 0) ≡ product p0 s ∷ product p1 s ∷ product p2 s ∷ product p3 s ∷ []
column-at table box p0 p1 p2 p3 test b s h e =
    let parts = and_parts _ _ (all_below-at (is_column table box p0 p1 p2 p3) 256 b test h) in
    let high = and_parts _ _ parts.0 in
    let low = and_parts _ _ parts.1 in
    let e3 = eqb-true _ _ high.0 in
    let e2 = eqb-true _ _ high.1 in
    let e1 = eqb-true _ _ low.0 in
    let e0 = eqb-true _ _ low.1 in
    (λ i. e3 i ∷ e2 i ∷ e1 i ∷ e0 i ∷ []) ∙ ap (λ x. product p0 x ∷ product p1 x ∷ product p2 x ∷ product p3 x ∷ []) e

column_0_test : all_below (is_column COLUMN_0 S_BOX 0x02 0x01 0x01 0x03) 256 ≡ true
unfolding all_below product product_bits xtime
column_0_test = refl

pub column_0-at : (b : ℕ) → b < 256 → to_be_bytes w32 (get_or COLUMN_0 b 0)
    ≡ product 0x02 (sub_byte b) ∷ product 0x01 (sub_byte b) ∷ product 0x01 (sub_byte b) ∷ product 0x03 (sub_byte b) ∷ []
column_0-at b h = column-at COLUMN_0 S_BOX 0x02 0x01 0x01 0x03 column_0_test b (sub_byte b) h (s_box-at b h)

column_1_test : all_below (is_column COLUMN_1 S_BOX 0x03 0x02 0x01 0x01) 256 ≡ true
unfolding all_below product product_bits xtime
column_1_test = refl

pub column_1-at : (b : ℕ) → b < 256 → to_be_bytes w32 (get_or COLUMN_1 b 0)
    ≡ product 0x03 (sub_byte b) ∷ product 0x02 (sub_byte b) ∷ product 0x01 (sub_byte b) ∷ product 0x01 (sub_byte b) ∷ []
column_1-at b h = column-at COLUMN_1 S_BOX 0x03 0x02 0x01 0x01 column_1_test b (sub_byte b) h (s_box-at b h)

column_2_test : all_below (is_column COLUMN_2 S_BOX 0x01 0x03 0x02 0x01) 256 ≡ true
unfolding all_below product product_bits xtime
column_2_test = refl

pub column_2-at : (b : ℕ) → b < 256 → to_be_bytes w32 (get_or COLUMN_2 b 0)
    ≡ product 0x01 (sub_byte b) ∷ product 0x03 (sub_byte b) ∷ product 0x02 (sub_byte b) ∷ product 0x01 (sub_byte b) ∷ []
column_2-at b h = column-at COLUMN_2 S_BOX 0x01 0x03 0x02 0x01 column_2_test b (sub_byte b) h (s_box-at b h)

column_3_test : all_below (is_column COLUMN_3 S_BOX 0x01 0x01 0x03 0x02) 256 ≡ true
unfolding all_below product product_bits xtime
column_3_test = refl

pub column_3-at : (b : ℕ) → b < 256 → to_be_bytes w32 (get_or COLUMN_3 b 0)
    ≡ product 0x01 (sub_byte b) ∷ product 0x01 (sub_byte b) ∷ product 0x03 (sub_byte b) ∷ product 0x02 (sub_byte b) ∷ []
column_3-at b h = column-at COLUMN_3 S_BOX 0x01 0x01 0x03 0x02 column_3_test b (sub_byte b) h (s_box-at b h)

inverse_column_0_test : all_below (is_column INVERSE_COLUMN_0 INVERSE_S_BOX 0x0e 0x09 0x0d 0x0b) 256 ≡ true
unfolding all_below product product_bits xtime
inverse_column_0_test = refl

pub inverse_column_0-at : (b : ℕ) → b < 256 → to_be_bytes w32 (get_or INVERSE_COLUMN_0 b 0)
    ≡ product 0x0e (inverse_sub_byte b) ∷ product 0x09 (inverse_sub_byte b) ∷ product 0x0d (inverse_sub_byte b) ∷ product 0x0b (inverse_sub_byte b) ∷ []
inverse_column_0-at b h = column-at INVERSE_COLUMN_0 INVERSE_S_BOX 0x0e 0x09 0x0d 0x0b inverse_column_0_test b (inverse_sub_byte b) h (inverse_s_box-at b h)

inverse_column_1_test : all_below (is_column INVERSE_COLUMN_1 INVERSE_S_BOX 0x0b 0x0e 0x09 0x0d) 256 ≡ true
unfolding all_below product product_bits xtime
inverse_column_1_test = refl

pub inverse_column_1-at : (b : ℕ) → b < 256 → to_be_bytes w32 (get_or INVERSE_COLUMN_1 b 0)
    ≡ product 0x0b (inverse_sub_byte b) ∷ product 0x0e (inverse_sub_byte b) ∷ product 0x09 (inverse_sub_byte b) ∷ product 0x0d (inverse_sub_byte b) ∷ []
inverse_column_1-at b h = column-at INVERSE_COLUMN_1 INVERSE_S_BOX 0x0b 0x0e 0x09 0x0d inverse_column_1_test b (inverse_sub_byte b) h (inverse_s_box-at b h)

inverse_column_2_test : all_below (is_column INVERSE_COLUMN_2 INVERSE_S_BOX 0x0d 0x0b 0x0e 0x09) 256 ≡ true
unfolding all_below product product_bits xtime
inverse_column_2_test = refl

pub inverse_column_2-at : (b : ℕ) → b < 256 → to_be_bytes w32 (get_or INVERSE_COLUMN_2 b 0)
    ≡ product 0x0d (inverse_sub_byte b) ∷ product 0x0b (inverse_sub_byte b) ∷ product 0x0e (inverse_sub_byte b) ∷ product 0x09 (inverse_sub_byte b) ∷ []
inverse_column_2-at b h = column-at INVERSE_COLUMN_2 INVERSE_S_BOX 0x0d 0x0b 0x0e 0x09 inverse_column_2_test b (inverse_sub_byte b) h (inverse_s_box-at b h)

inverse_column_3_test : all_below (is_column INVERSE_COLUMN_3 INVERSE_S_BOX 0x09 0x0d 0x0b 0x0e) 256 ≡ true
unfolding all_below product product_bits xtime
inverse_column_3_test = refl

pub inverse_column_3-at : (b : ℕ) → b < 256 → to_be_bytes w32 (get_or INVERSE_COLUMN_3 b 0)
    ≡ product 0x09 (inverse_sub_byte b) ∷ product 0x0d (inverse_sub_byte b) ∷ product 0x0b (inverse_sub_byte b) ∷ product 0x0e (inverse_sub_byte b) ∷ []
inverse_column_3-at b h = column-at INVERSE_COLUMN_3 INVERSE_S_BOX 0x09 0x0d 0x0b 0x0e inverse_column_3_test b (inverse_sub_byte b) h (inverse_s_box-at b h)
