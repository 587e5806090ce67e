-- The two tables of the S-box hold the S-box and its inverse, which undo each other.
use Rattle.std.proofs.Common.{◌≡◌, ℕ, ◌<◌, ◌==◌, ◌&&◌, nat_lt, true, get_or, refl, ap, sym, ◌∙◌, arith}
use Rattle.std.proofs.lemmas.Bool.{and_parts, eqb-true, eq-eqb, ltb-true}
use Rattle.std.specs.Prelude.{unwrap_or}
use Rattle.tdb_aes.specs.Field.{inverse, product, product_bits, xtime}
use Rattle.tdb_aes.specs.SubBytes.{inverse_sub_byte, sub_byte}
use Rattle.tdb_aes.specs.declared.tables.TheConstants.{INVERSE_S_BOX, S_BOX}
use Rattle.tdb_aes.proofs.Computed.{all_below, all_below-at, find-only}

s_box_test : all_below (λ b. get_or S_BOX b 0 == sub_byte b) 256 ≡ true
unfolding all_below sub_byte inverse product product_bits xtime
s_box_test = refl

pub s_box-at : (b : ℕ) → b < 256 → get_or S_BOX b 0 ≡ sub_byte b
s_box-at b h = eqb-true _ _ (all_below-at (λ b. get_or S_BOX b 0 == sub_byte b) 256 b s_box_test h)

forth_test : all_below (λ b. get_or INVERSE_S_BOX (get_or S_BOX b 0) 0 == b && nat_lt (get_or S_BOX b 0) 256) 256 ≡ true
unfolding all_below
forth_test = refl

back_test : all_below (λ c. get_or S_BOX (get_or INVERSE_S_BOX c 0) 0 == c && nat_lt (get_or INVERSE_S_BOX c 0) 256) 256 ≡ true
unfolding all_below
back_test = refl

forth : (b : ℕ) → b < 256 → (get_or INVERSE_S_BOX (get_or S_BOX b 0) 0 ≡ b) × (get_or S_BOX b 0 < 256)
forth b h =
    let parts = and_parts _ _ (all_below-at (λ b. get_or INVERSE_S_BOX (get_or S_BOX b 0) 0 == b && nat_lt (get_or S_BOX b 0) 256) 256 b forth_test h) in
    (eqb-true _ _ parts.0, ltb-true _ _ parts.1)

back : (c : ℕ) → c < 256 → (get_or S_BOX (get_or INVERSE_S_BOX c 0) 0 ≡ c) × (get_or INVERSE_S_BOX c 0 < 256)
back c h =
    let parts = and_parts _ _ (all_below-at (λ c. get_or S_BOX (get_or INVERSE_S_BOX c 0) 0 == c && nat_lt (get_or INVERSE_S_BOX c 0) 256) 256 c back_test h) in
    (eqb-true _ _ parts.0, ltb-true _ _ parts.1)

pub inverse_s_box-at : (c : ℕ) → c < 256 → get_or INVERSE_S_BOX c 0 ≡ inverse_sub_byte c
unfolding inverse_sub_byte
inverse_s_box-at c h =
    let x : ℕ = get_or INVERSE_S_BOX c 0 in
    let facts = back c h in
    sym (ap (λ o. unwrap_or o 0)
    (find-only (λ b. sub_byte b == c) 0 256 x (omega arith) (omega (arith, facts.1))
    (eq-eqb _ _ (sym (s_box-at x facts.1) ∙ facts.0))
    (λ y low high passes.
    let below : y < 256 = omega arith in
    sym (forth y below).0 ∙ ap (λ s. get_or INVERSE_S_BOX s 0) (s_box-at y below ∙ eqb-true _ _ passes))))

pub sub_byte-lt : (b : ℕ) → b < 256 → sub_byte b < 256
sub_byte-lt b h = rw (← s_box-at b h) (forth b h).1

pub inverse_sub_byte-lt : (c : ℕ) → c < 256 → inverse_sub_byte c < 256
inverse_sub_byte-lt c h = rw (← inverse_s_box-at c h) (back c h).1

pub inverse_sub_byte-sub_byte : (b : ℕ) → b < 256 → inverse_sub_byte (sub_byte b) ≡ b
inverse_sub_byte-sub_byte b h =
    sym (inverse_s_box-at (sub_byte b) (sub_byte-lt b h)) ∙ ap (λ s. get_or INVERSE_S_BOX s 0) (sym (s_box-at b h)) ∙ (forth b h).0

pub sub_byte-inverse_sub_byte : (c : ℕ) → c < 256 → sub_byte (inverse_sub_byte c) ≡ c
sub_byte-inverse_sub_byte c h =
    sym (s_box-at (inverse_sub_byte c) (inverse_sub_byte-lt c h)) ∙ ap (λ s. get_or S_BOX s 0) (sym (inverse_s_box-at c h)) ∙ (back c h).0
