-- The words of a table and the set of its used segments give each other back.
use Rattle.std.proofs.Common.{◌≡◌, ℕ, zero, suc, ◌+◌, ◌*◌, ◌/◌, ◌%◌, ◌^◌, ◌<◌, ◌≤◌, ◌==◌, Bool, true, false, cond, ◌&&◌}
use Rattle.std.proofs.Common.{◌||◌, nat_eq, nat_le, nat_lt, List, map, get_or, inl, inr, refl, sym, ap, subst, ◌∙◌}
use Rattle.std.proofs.Common.{arith}
use Rattle.std.specs.List.{filter, list_any, range_with_len}
use Rattle.std.specs.Int.{bit_at}
use Rattle.std.specs.FinSet.{contains, contains-from_list_nat}
use lib.Lanes.{mask_l}
use Rattle.std.proofs.lemmas.Bool.{cases_lt, lt-ltb, le-leb, eqb-true}
use Rattle.std.proofs.lemmas.Bool.Decides.{nat_tests}
use Rattle.std.proofs.lemmas.List.{ext_get_or, get_or_past}
use Rattle.std.proofs.lemmas.List.FromFn.{length-map-range_with_len, get_or-map-range_with_len}
use Rattle.std.proofs.lemmas.Map.Views.{any-filter_same}
use Rattle.std.proofs.lemmas.Nat.Bits.{bit_at-zero, bit_at-lt, same_from_bits_below}
use Rattle.std.proofs.lemmas.Simd.{mask_l-lt, bit_mask_l}
use Rattle.tdb_node.specs.declared.table.Table.{Table}
use Rattle.tdb_node.specs.SegmentTable.{IsTableValue}
use Rattle.tdb_seg.specs.TableSpace.{is_used, used_in}
use Rattle.tdb_seg.specs.declared.segments.Segments.TheInside.{Inside}
use Rattle.tdb_seg.specs.Inside.{word_from, words_of, space_of, IsKept, fields_of}

-- a run of numbers has those from its first on
any_in_range : (q a n : ℕ) → list_any (λ (y : ℕ). nat_eq y q) (range_with_len a n) ≡ (nat_le a q && nat_lt q (a + n))
any_in_range q a zero = grind (arith, nat_tests)
any_in_range q a (suc n) = let rest = any_in_range q (a + 1) n in step q a n _ rest
  where
    step : (q a n : ℕ) (r : Bool) → r ≡ (nat_le (a + 1) q && nat_lt q (a + 1 + n))
        → (nat_eq a q || r) ≡ (nat_le a q && nat_lt q (a + suc n))
    step q a n r e = grind (arith, nat_tests)

-- no table has a segment from 4,096 on
pub unused_past : (t : Table) → IsTableValue t → (k : ℕ) → 4096 ≤ k → is_used t k ≡ false
unused_past t value k far =
    ap (λ (word : ℕ). bit_at word (k % 64) == 1) (get_or_past t.used (k / 64) 0 (omega (arith, value.words)))
    ∙ ap (λ (b : ℕ). b == 1) (bit_at-zero (k % 64))

and_true : (b : Bool) → (b && true) ≡ b
and_true true = refl
and_true false = refl

pub contains-used_in : (t : Table) → IsTableValue t → (k : ℕ) → contains (used_in t) k ≡ is_used t k
unfolding used_in
contains-used_in t value k =
    contains-from_list_nat (filter (is_used t) (range_with_len 0 4096)) k
    ∙ any-filter_same (λ (y : ℕ). nat_eq y k) (is_used t) (is_used t k) (λ y same. ap (is_used t) (eqb-true y k same))
    (range_with_len 0 4096)
    ∙ ap (λ (b : Bool). is_used t k && b) (any_in_range k 0 4096)
    ∙ ap (λ (b : Bool). is_used t k && (b && nat_lt k 4096)) (le-leb 0 k (omega arith))
    ∙ within t value k
  where
    within : (t : Table) → IsTableValue t → (k : ℕ) → (is_used t k && (true && nat_lt k 4096)) ≡ is_used t k
    within t value k = elim (cases_lt k 4096) [
      | inl lt ↦ ap (λ (b : Bool). is_used t k && b) (lt-ltb k 4096 lt) ∙ and_true (is_used t k)
      | inr le ↦ ap (λ (b : Bool). b && (true && nat_lt k 4096)) (unused_past t value k le) ∙ sym (unused_past t value k le)
    ]

-- segment 64 w + i by its bit
pub contains-at : (t : Table) → IsTableValue t → (w i : ℕ) → i < 64
    → contains (used_in t) (64 * w + i) ≡ (bit_at (get_or t.used w 0) i == 1)
contains-at t value w i small =
    contains-used_in t value (64 * w + i)
    ∙ ap (λ (n : ℕ). bit_at (get_or t.used n 0) ((64 * w + i) % 64) == 1) (let e : (64 * w + i) / 64 ≡ w = omega arith in e)
    ∙ ap (λ (n : ℕ). bit_at (get_or t.used w 0) n == 1) (let e : (64 * w + i) % 64 ≡ i = omega arith in e)

bit_of_test : (b : ℕ) → b < 2 → cond (b == 1) 1 0 ≡ b
bit_of_test zero h = refl
bit_of_test (suc zero) h = refl
bit_of_test (suc (suc b)) h = absurd (omega arith)

-- a word is got back from the set
pub word_from-used_in : (t : Table) → IsTableValue t → (w : ℕ) → word_from (used_in t) (64 * w) ≡ get_or t.used w 0
word_from-used_in t value w =
    same_from_bits_below 64 (word_from (used_in t) (64 * w)) (get_or t.used w 0)
    (let below : mask_l (map (contains (used_in t)) (range_with_len (64 * w) 64)) < 2 ^ 64 =
    subst (λ (n : ℕ). mask_l (map (contains (used_in t)) (range_with_len (64 * w) 64)) < 2 ^ n)
    (length-map-range_with_len (contains (used_in t)) (64 * w) 64)
    (mask_l-lt (map (contains (used_in t)) (range_with_len (64 * w) 64))) in below)
    (value.word w)
    (λ i small.
    bit_mask_l (map (contains (used_in t)) (range_with_len (64 * w) 64)) i
    ∙ ap (λ (b : Bool). cond b 1 0) (get_or-map-range_with_len (contains (used_in t)) (64 * w) 64 i (64 * w + i) false small refl
    ∙ contains-at t value w i small)
    ∙ bit_of_test (bit_at (get_or t.used w 0) i) (bit_at-lt (get_or t.used w 0) i))

pub words_of-used_in : (t : Table) → IsTableValue t → words_of (used_in t) ≡ t.used
unfolding words_of
words_of-used_in t value =
    ext_get_or 0 (map (λ (w : ℕ). word_from (used_in t) (64 * w)) (range_with_len 0 64)) t.used
    (length-map-range_with_len (λ (w : ℕ). word_from (used_in t) (64 * w)) 0 64 ∙ sym value.words)
    (λ w within.
    get_or-map-range_with_len (λ (v : ℕ). word_from (used_in t) (64 * v)) 0 64 w w 0
    (omega (arith, length-map-range_with_len (λ (v : ℕ). word_from (used_in t) (64 * v)) 0 64)) (omega arith)
    ∙ word_from-used_in t value w)

-- the fields are got back from the space that they stand for
pub fields_of-space_of : (a : Inside) → IsKept a → fields_of (space_of a) ≡ a
fields_of-space_of a kept =
    ap (λ (words : List ℕ). let b : Inside = record { table = record { segments = a.table.segments; used = words }; tail = a.tail } in b)
    (words_of-used_in a.table kept.value)
