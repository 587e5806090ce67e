-- Sums of bytes by exclusive or.
use Rattle.std.proofs.Common.{◌≡◌, ℕ, bit_xor, ap, sym, ◌∙◌}
use lib.Bits.{xor_assoc, xor_comm, xor_self, xor_zero_r}

-- the sum of four
abbrev pub sum4 : ℕ → ℕ → ℕ → ℕ → ℕ
sum4 a b c d = bit_xor (bit_xor (bit_xor a b) c) d

pub xor-xor_same : (a b : ℕ) → bit_xor (bit_xor a b) b ≡ a
xor-xor_same a b = xor_assoc a b b ∙ ap (bit_xor a) (xor_self b) ∙ xor_zero_r a

pub xor-medial : (a b c d : ℕ) → bit_xor (bit_xor a b) (bit_xor c d) ≡ bit_xor (bit_xor a c) (bit_xor b d)
xor-medial a b c d =
    xor_assoc a b (bit_xor c d)
    ∙ ap (bit_xor a) (sym (xor_assoc b c d) ∙ ap (λ x. bit_xor x d) (xor_comm b c) ∙ xor_assoc c b d)
    ∙ sym (xor_assoc a c (bit_xor b d))

pub sum4-xor : (a0 a1 a2 a3 b0 b1 b2 b3 : ℕ) → bit_xor (sum4 a0 a1 a2 a3) (sum4 b0 b1 b2 b3)
    ≡ sum4 (bit_xor a0 b0) (bit_xor a1 b1) (bit_xor a2 b2) (bit_xor a3 b3)
sum4-xor a0 a1 a2 a3 b0 b1 b2 b3 =
    xor-medial (bit_xor (bit_xor a0 a1) a2) a3 (bit_xor (bit_xor b0 b1) b2) b3
    ∙ ap (λ x. bit_xor x (bit_xor a3 b3))
    (xor-medial (bit_xor a0 a1) a2 (bit_xor b0 b1) b2
    ∙ ap (λ x. bit_xor x (bit_xor a2 b2)) (xor-medial a0 a1 b0 b1))

-- four sums of four, added the other way
pub sum4-sum4 : (a0 a1 a2 a3 b0 b1 b2 b3 c0 c1 c2 c3 d0 d1 d2 d3 : ℕ)
    → sum4 (sum4 a0 a1 a2 a3) (sum4 b0 b1 b2 b3) (sum4 c0 c1 c2 c3) (sum4 d0 d1 d2 d3)
    ≡ sum4 (sum4 a0 b0 c0 d0) (sum4 a1 b1 c1 d1) (sum4 a2 b2 c2 d2) (sum4 a3 b3 c3 d3)
sum4-sum4 a0 a1 a2 a3 b0 b1 b2 b3 c0 c1 c2 c3 d0 d1 d2 d3 =
    ap (λ x. bit_xor (bit_xor x (sum4 c0 c1 c2 c3)) (sum4 d0 d1 d2 d3)) (sum4-xor a0 a1 a2 a3 b0 b1 b2 b3)
    ∙ ap (λ x. bit_xor x (sum4 d0 d1 d2 d3))
    (sum4-xor (bit_xor a0 b0) (bit_xor a1 b1) (bit_xor a2 b2) (bit_xor a3 b3) c0 c1 c2 c3)
    ∙ sum4-xor (bit_xor (bit_xor a0 b0) c0) (bit_xor (bit_xor a1 b1) c1) (bit_xor (bit_xor a2 b2) c2) (bit_xor (bit_xor a3 b3) c3)
    d0 d1 d2 d3
