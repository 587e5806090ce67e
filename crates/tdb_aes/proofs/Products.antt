-- Products with a fixed byte go through sums, and the two fixed polynomials undo each other.
use Rattle.std.proofs.Common.{◌≡◌, ℕ, zero, suc, ◌+◌, ◌-◌, ◌/◌, ◌%◌, ◌<◌, ◌==◌, nat_lt, Bool, true, false, List, bit_xor, slice_index, refl, ap, sym, ◌∙◌, arith}
use Rattle.std.proofs.lemmas.Bool.{eqb-true, ltb-true}
use Rattle.std.proofs.lemmas.Nat.{xor_of_8}
use Rattle.std.specs.Prelude.{if◌then◌else◌}
use Rattle.tdb_aes.specs.Field.{product, product_bits, xtime}
use Rattle.tdb_aes.specs.MixColumns.{coefficient, inverse_mix_polynomial, mix_polynomial}
use Rattle.tdb_aes.proofs.Computed.{all_below, all_below-at}
use Rattle.tdb_aes.proofs.Sums.{sum4, sum4-sum4, sum4-xor, xor-medial}
use lib.Bits.{xor_zero_r}

xtime-xor_test : all_below (λ a. all_below (λ b. xtime (bit_xor a b) == bit_xor (xtime a) (xtime b)) 256) 256 ≡ true
unfolding all_below xtime
xtime-xor_test = refl

xtime-xor : (a b : ℕ) → a < 256 → b < 256 → xtime (bit_xor a b) ≡ bit_xor (xtime a) (xtime b)
xtime-xor a b ha hb =
    eqb-true _ _ (all_below-at (λ b. xtime (bit_xor a b) == bit_xor (xtime a) (xtime b)) 256 b
    (all_below-at (λ a. all_below (λ b. xtime (bit_xor a b) == bit_xor (xtime a) (xtime b)) 256) 256 a xtime-xor_test ha) hb)

xtime-lt_test : all_below (λ a. nat_lt (xtime a) 256) 256 ≡ true
unfolding all_below xtime
xtime-lt_test = refl

xtime-lt : (a : ℕ) → a < 256 → xtime a < 256
xtime-lt a h = ltb-true _ _ (all_below-at (λ a. nat_lt (xtime a) 256) 256 a xtime-lt_test h)

chosen-lt : (t : Bool) (x : ℕ) → x < 256 → (if t then x else 0) < 256
chosen-lt true x h = h
chosen-lt false x h = omega arith

chosen-xor : (t : Bool) (x y p q : ℕ) → bit_xor (if t then bit_xor x y else 0) (bit_xor p q) ≡ bit_xor (bit_xor (if t then x else 0) p) (bit_xor (if t then y else 0) q)
chosen-xor true x y p q = xor-medial x y p q
chosen-xor false x y p q = refl

product_bits-lt : (n a x : ℕ) → x < 256 → product_bits n a x < 256
unfolding product_bits
product_bits-lt zero a x h = omega arith
product_bits-lt (suc n) a x h =
    xor_of_8 _ _ (chosen-lt (a % 2 == 1) x h) (product_bits-lt n (a / 2) (xtime x) (xtime-lt x h))

product_bits-xor : (n a x y : ℕ) → x < 256 → y < 256 → product_bits n a (bit_xor x y) ≡ bit_xor (product_bits n a x) (product_bits n a y)
unfolding product_bits
product_bits-xor zero a x y hx hy = refl
product_bits-xor (suc n) a x y hx hy =
    ap (λ p. bit_xor (if a % 2 == 1 then bit_xor x y else 0) p)
    (ap (product_bits n (a / 2)) (xtime-xor x y hx hy)
    ∙ product_bits-xor n (a / 2) (xtime x) (xtime y) (xtime-lt x hx) (xtime-lt y hy))
    ∙ chosen-xor (a % 2 == 1) x y (product_bits n (a / 2) (xtime x)) (product_bits n (a / 2) (xtime y))

pub product-lt : (a x : ℕ) → x < 256 → product a x < 256
unfolding product
product-lt a x h = product_bits-lt 8 a x h

pub product-xor : (a x y : ℕ) → x < 256 → y < 256 → product a (bit_xor x y) ≡ bit_xor (product a x) (product a y)
unfolding product
product-xor a x y hx hy = product_bits-xor 8 a x y hx hy

sum4-lt : (a b c d : ℕ) → a < 256 → b < 256 → c < 256 → d < 256 → sum4 a b c d < 256
sum4-lt a b c d ha hb hc hd = xor_of_8 _ _ (xor_of_8 _ _ (xor_of_8 a b ha hb) hc) hd

product-sum4 : (p a b c d : ℕ) → a < 256 → b < 256 → c < 256 → d < 256
    → product p (sum4 a b c d) ≡ sum4 (product p a) (product p b) (product p c) (product p d)
product-sum4 p a b c d ha hb hc hd =
    product-xor p (bit_xor (bit_xor a b) c) d (xor_of_8 _ _ (xor_of_8 a b ha hb) hc) hd
    ∙ ap (λ x. bit_xor x (product p d))
    (product-xor p (bit_xor a b) c (xor_of_8 a b ha hb) hc
    ∙ ap (λ x. bit_xor x (product p c)) (product-xor p a b ha hb))

-- ---- the coefficients of a product of polynomials

pub coefficient-lt : (a : List ℕ) (x : ℕ → ℕ) (r : ℕ) → ((j : ℕ) → x j < 256) → coefficient a x r < 256
coefficient-lt a x r h = sum4-lt _ _ _ _ (product-lt _ (x 0) (h 0)) (product-lt _ (x 1) (h 1)) (product-lt _ (x 2) (h 2)) (product-lt _ (x 3) (h 3))

pub coefficient-xor : (a : List ℕ) (x y : ℕ → ℕ) (r : ℕ) → ((j : ℕ) → x j < 256) → ((j : ℕ) → y j < 256)
    → coefficient a (λ j. bit_xor (x j) (y j)) r ≡ bit_xor (coefficient a x r) (coefficient a y r)
coefficient-xor a x y r hx hy =
    let p0 : ℕ = slice_index a r in
    let p1 : ℕ = slice_index a ((r + 3) % 4) in
    let p2 : ℕ = slice_index a ((r + 2) % 4) in
    let p3 : ℕ = slice_index a ((r + 1) % 4) in
    let e0 = product-xor p0 (x 0) (y 0) (hx 0) (hy 0) in
    let e1 = product-xor p1 (x 1) (y 1) (hx 1) (hy 1) in
    let e2 = product-xor p2 (x 2) (y 2) (hx 2) (hy 2) in
    let e3 = product-xor p3 (x 3) (y 3) (hx 3) (hy 3) in
    (λ i. sum4 (e0 i) (e1 i) (e2 i) (e3 i))
    ∙ sym (sum4-xor (product p0 (x 0)) (product p1 (x 1)) (product p2 (x 2)) (product p3 (x 3))
    (product p0 (y 0)) (product p1 (y 1)) (product p2 (y 2)) (product p3 (y 3)))

-- what coefficient r of the product with b and then with a has of the coefficient v of x^k
abbrev composed : List ℕ → List ℕ → ℕ → ℕ → ℕ → ℕ
composed a b r k v =
    sum4 (product (slice_index a r) (product (slice_index b ((4 - k) % 4)) v))
    (product (slice_index a ((r + 3) % 4)) (product (slice_index b ((5 - k) % 4)) v))
    (product (slice_index a ((r + 2) % 4)) (product (slice_index b ((6 - k) % 4)) v))
    (product (slice_index a ((r + 1) % 4)) (product (slice_index b ((7 - k) % 4)) v))

coefficient-coefficient : (a b : List ℕ) (x : ℕ → ℕ) (r : ℕ) → ((j : ℕ) → x j < 256)
    → coefficient a (coefficient b x) r
    ≡ sum4 (composed a b r 0 (x 0)) (composed a b r 1 (x 1)) (composed a b r 2 (x 2)) (composed a b r 3 (x 3))
coefficient-coefficient a b x r h =
    let row = λ (p q0 q1 q2 q3 : ℕ).
    product-sum4 p (product q0 (x 0)) (product q1 (x 1)) (product q2 (x 2)) (product q3 (x 3))
    (product-lt q0 (x 0) (h 0)) (product-lt q1 (x 1) (h 1)) (product-lt q2 (x 2) (h 2)) (product-lt q3 (x 3) (h 3)) in
    let p0 : ℕ = slice_index a r in
    let p1 : ℕ = slice_index a ((r + 3) % 4) in
    let p2 : ℕ = slice_index a ((r + 2) % 4) in
    let p3 : ℕ = slice_index a ((r + 1) % 4) in
    let q0 : ℕ = slice_index b 0 in
    let q1 : ℕ = slice_index b 1 in
    let q2 : ℕ = slice_index b 2 in
    let q3 : ℕ = slice_index b 3 in
    let e0 = row p0 q0 q3 q2 q1 in
    let e1 = row p1 q1 q0 q3 q2 in
    let e2 = row p2 q2 q1 q0 q3 in
    let e3 = row p3 q3 q2 q1 q0 in
    (λ i. sum4 (e0 i) (e1 i) (e2 i) (e3 i))
    ∙ sum4-sum4
    (product p0 (product q0 (x 0))) (product p0 (product q3 (x 1))) (product p0 (product q2 (x 2))) (product p0 (product q1 (x 3)))
    (product p1 (product q1 (x 0))) (product p1 (product q0 (x 1))) (product p1 (product q3 (x 2))) (product p1 (product q2 (x 3)))
    (product p2 (product q2 (x 0))) (product p2 (product q1 (x 1))) (product p2 (product q0 (x 2))) (product p2 (product q3 (x 3)))
    (product p3 (product q3 (x 0))) (product p3 (product q2 (x 1))) (product p3 (product q1 (x 2))) (product p3 (product q0 (x 3)))

-- whether that is v where k is r, and nothing elsewhere
abbrev undoes : List ℕ → List ℕ → ℕ → ℕ → ℕ → Bool
undoes a b r k v = composed a b r k v == (if r == k then v else 0)

undoes-at : (a b : List ℕ) (r k v : ℕ) → all_below (λ r. all_below (λ k. all_below (undoes a b r k) 256) 4) 4 ≡ true
    → r < 4 → k < 4 → v < 256 → composed a b r k v ≡ (if r == k then v else 0)
undoes-at a b r k v test hr hk hv =
    eqb-true _ _ (all_below-at (undoes a b r k) 256 v
    (all_below-at (λ k. all_below (undoes a b r k) 256) 4 k
    (all_below-at (λ r. all_below (λ k. all_below (undoes a b r k) 256) 4) 4 r test hr) hk) hv)

-- the one of four that is not left out
picked : (x : ℕ → ℕ) (r : ℕ) → r < 4
    → sum4 (if r == 0 then x 0 else 0) (if r == 1 then x 1 else 0) (if r == 2 then x 2 else 0) (if r == 3 then x 3 else 0) ≡ x r
picked x zero h = ap (λ y. bit_xor (bit_xor y 0) 0) (xor_zero_r (x 0)) ∙ ap (λ y. bit_xor y 0) (xor_zero_r (x 0)) ∙ xor_zero_r (x 0)
picked x (suc zero) h = ap (λ y. bit_xor y 0) (xor_zero_r (x 1)) ∙ xor_zero_r (x 1)
picked x (suc (suc zero)) h = xor_zero_r (x 2)
picked x (suc (suc (suc zero))) h = refl
picked x (suc (suc (suc (suc r)))) h = absurd (omega arith)

undone : (a b : List ℕ) → all_below (λ r. all_below (λ k. all_below (undoes a b r k) 256) 4) 4 ≡ true
    → (x : ℕ → ℕ) (r : ℕ) → r < 4 → ((j : ℕ) → x j < 256) → coefficient a (coefficient b x) r ≡ x r
undone a b test x r hr h =
    let part = λ (k : ℕ) (hk : k < 4). undoes-at a b r k (x k) test hr hk (h k) in
    let e0 = part 0 (omega arith) in
    let e1 = part 1 (omega arith) in
    let e2 = part 2 (omega arith) in
    let e3 = part 3 (omega arith) in
    coefficient-coefficient a b x r h ∙ (λ i. sum4 (e0 i) (e1 i) (e2 i) (e3 i)) ∙ picked x r hr

mix_test : all_below (λ r. all_below (λ k. all_below (undoes inverse_mix_polynomial mix_polynomial r k) 256) 4) 4 ≡ true
unfolding all_below product product_bits xtime
mix_test = refl

inverse_mix_test : all_below (λ r. all_below (λ k. all_below (undoes mix_polynomial inverse_mix_polynomial r k) 256) 4) 4 ≡ true
unfolding all_below product product_bits xtime
inverse_mix_test = refl

pub mix_undone : (x : ℕ → ℕ) (r : ℕ) → r < 4 → ((j : ℕ) → x j < 256)
    → coefficient inverse_mix_polynomial (coefficient mix_polynomial x) r ≡ x r
mix_undone = undone inverse_mix_polynomial mix_polynomial mix_test

pub inverse_mix_undone : (x : ℕ → ℕ) (r : ℕ) → r < 4 → ((j : ℕ) → x j < 256)
    → coefficient mix_polynomial (coefficient inverse_mix_polynomial x) r ≡ x r
inverse_mix_undone = undone mix_polynomial inverse_mix_polynomial inverse_mix_test
