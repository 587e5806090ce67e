-- What a table's words say of its used segments.
use Rattle.std.proofs.Common.{◌≡◌, ℕ, suc, ◌+◌, ◌-◌, ◌*◌, ◌/◌, ◌%◌, ◌^◌, ◌<◌, ◌≤◌, ◌==◌, Bool, true, false, not, ◌||◌, ◌⊎◌, nat_eq, nat_lt, List, [], ◌∷◌, length, get_or, set, replicate, inl, inr, refl, sym, ap, subst, ◌∙◌, arith}
use Rattle.std.specs.List.{filter, range_with_len, count_by}
use Rattle.std.specs.Prelude.{count_ones, bit_or, slice_get}
use Rattle.std.specs.Bool.{then_some}
use Rattle.std.specs.Int.{w64, bit_at, trailing_ones}
use Rattle.std.specs.FinSet.{contains, insert, empty, contains-empty, contains-insert, same_set, nat_cmp-IsAntisymmetric}
use Rattle.std.specs.Ordering.{nat_cmp}
use Rattle.std.specs.Cmp.{nat_cmp_total, unsigned_tied}
use Rattle.std.proofs.lemmas.Bool.{cases_lt, cases_eq, lt-ltb, le-ltb, eqb-true, eq-eqb, ne_eqb, or_cases, true≢false}
use Rattle.std.proofs.lemmas.List.{get_or-set_same, get_or-set_other, get_or_past, get_or-replicate, length-replicate, length-set}
use Rattle.std.proofs.lemmas.List.Sums.{length-filter, count_by-le-length}
use Rattle.std.proofs.lemmas.List.Filters.{length-filter_both}
use Rattle.std.proofs.lemmas.List.FromFn.{length-range_with_len}
use Rattle.std.proofs.lemmas.Nat.{or_lt, mod_below}
use Rattle.std.proofs.lemmas.Nat.Bits.{bit_at-zero, bit_at_ones, bit_at-trailing_ones, bit_at_set_same, bit_at_set_other}
use Rattle.std.proofs.lemmas.Simd.{ones-mask_l}
use Rattle.tdb_node.specs.declared.table.Table.{Table}
use Rattle.tdb_node.specs.SegmentTable.{IsTable, IsTableValue}
use Rattle.tdb_seg.specs.TableSpace.{is_used, used_in}
use Rattle.tdb_seg.specs.SegmentSpace.{missing_below}
use Rattle.tdb_seg.specs.InsideLaws.{contains-used_in, contains-at, word_from-used_in}
use Rattle.tdb_seg.proofs.Ranges.{none_pass, first_passes, count-none, count-split}

-- the ones of a word are its used segments
pub ones-word : (t : Table) → IsTableValue t → (w : ℕ) → count_ones (get_or t.used w 0) ≡ count_by (contains (used_in t)) (range_with_len (64 * w) 64)
ones-word t value w = ap count_ones (sym (word_from-used_in t value w)) ∙ ones-mask_l (contains (used_in t)) (range_with_len (64 * w) 64)

-- the count of the ones so far, one word further
pub ones_more : (t : Table) → IsTableValue t → (w : ℕ) → count_by (contains (used_in t)) (range_with_len 0 (64 * (w + 1))) ≡ count_by (contains (used_in t)) (range_with_len 0 (64 * w)) + count_ones (get_or t.used w 0)
ones_more t value w =
    ap (λ (n : ℕ). count_by (contains (used_in t)) (range_with_len 0 n)) (let e : 64 * (w + 1) ≡ 64 * w + 64 = omega arith in e)
    ∙ count-split (contains (used_in t)) 0 (64 * w) 64
    ∙ ap (λ (n : ℕ). count_by (contains (used_in t)) (range_with_len 0 (64 * w)) + n) (ap (λ (n : ℕ). count_by (contains (used_in t)) (range_with_len n 64)) (let e : 0 + 64 * w ≡ 64 * w = omega arith in e) ∙ sym (ones-word t value w))

-- no segment from the device's end on is used
pub unused_beyond : (t : Table) → IsTableValue t → IsTable t → (k : ℕ) → t.segments ≤ k → contains (used_in t) k ≡ false
unused_beyond t value table k beyond = contains-used_in t value k ∙ ne_eqb _ 1 (λ set. absurd (omega (arith, table.used k set)))

count-unused_to : (t : Table) → IsTableValue t → IsTable t → (n : ℕ) → t.segments ≤ n → length (missing_below (used_in t) t.segments) + count_by (contains (used_in t)) (range_with_len 0 n) ≡ t.segments
unfolding missing_below
count-unused_to t value table n enough =
    let used : ℕ → Bool = contains (used_in t) in
    let split = ap (λ (m : ℕ). count_by used (range_with_len 0 m)) (let e : n ≡ t.segments + (n - t.segments) = omega arith in e) ∙ count-split used 0 t.segments (n - t.segments) in
    let beyond = count-none used (0 + t.segments) (n - t.segments) (λ k low high. unused_beyond t value table k (omega (arith, low))) in
    let both = length-filter_both used (λ (k : ℕ). not (used k)) (λ k. refl) (range_with_len 0 t.segments) in
    omega (arith, split, beyond, both, length-filter used (range_with_len 0 t.segments), length-range_with_len 0 t.segments)

-- the used segments and the free ones are all
pub count-unused : (t : Table) → IsTableValue t → IsTable t → length (missing_below (used_in t) t.segments) + count_by (contains (used_in t)) (range_with_len 0 4096) ≡ t.segments
count-unused t value table = count-unused_to t value table 4096 table.most

pub count_fits : (t : Table) (n : ℕ) → count_by (contains (used_in t)) (range_with_len 0 n) ≤ n
count_fits t n = omega (arith, count_by-le-length (contains (used_in t)) (range_with_len 0 n), length-range_with_len 0 n)

-- what a loop over all words has counted
pub record CountsUnused (t : Table) (counted : ℕ) : Type 0 where
  pub within : counted ≤ t.segments
  pub rest : t.segments - counted ≡ length (missing_below (used_in t) t.segments)

pub counts-unused : (t : Table) → IsTableValue t → IsTable t → (counted w : ℕ) → 64 ≤ w → w ≤ 64 → counted ≡ count_by (contains (used_in t)) (range_with_len 0 (64 * w)) → CountsUnused t counted
counts-unused t value table counted w least most e =
    let all : counted ≡ count_by (contains (used_in t)) (range_with_len 0 4096) = e ∙ ap (λ (n : ℕ). count_by (contains (used_in t)) (range_with_len 0 (64 * n))) (let f : w ≡ 64 = omega arith in f) in
    from_sum t counted (ap (λ (n : ℕ). length (missing_below (used_in t) t.segments) + n) all ∙ count-unused t value table)
  where
    from_sum : (t : Table) (counted : ℕ) → length (missing_below (used_in t) t.segments) + counted ≡ t.segments → CountsUnused t counted
    from_sum t counted e = record { within = omega arith; rest = omega arith }

-- every segment below this one is used
abbrev pub AllUsed : Table → ℕ → Type 0
AllUsed t n = (k : ℕ) → k < n → contains (used_in t) k ≡ true

-- one word of ones more
pub all_used_more : (t : Table) → IsTableValue t → (w : ℕ) → AllUsed t (64 * w) → get_or t.used w 0 ≡ 2 ^ 64 - 1 → AllUsed t (64 * (w + 1))
all_used_more t value w all ones k below =
    elim (cases_lt k (64 * w)) [
      | inl lt ↦ all k lt
      | inr le ↦
          let small : k - 64 * w < 64 = omega arith in
          subst (λ (n : ℕ). contains (used_in t) n ≡ true) (let e : 64 * w + (k - 64 * w) ≡ k = omega arith in e)
          (contains-at t value w (k - 64 * w) small ∙ ap (λ (word : ℕ). bit_at word (k - 64 * w) == 1) ones ∙ eq-eqb _ 1 (bit_at_ones 64 (k - 64 * w) small))
    ]

-- the lowest zero of the first word that has one is the least free segment, as far as words go
pub record IsLeastUnused (t : Table) (s : ℕ) : Type 0 where
  pub below : AllUsed t s
  pub here : contains (used_in t) s ≡ false

pub least_zero : (t : Table) → IsTableValue t → (w : ℕ) → AllUsed t (64 * w) → get_or t.used w 0 + 1 < 2 ^ 64 → IsLeastUnused t (64 * w + trailing_ones w64 (get_or t.used w 0))
least_zero t value w all some =
    let word : ℕ = get_or t.used w 0 in
    let zero = bit_at-trailing_ones w64 word some in
    record {
      below = λ k below. elim (cases_lt k (64 * w)) [
        | inl lt ↦ all k lt
        | inr le ↦
            let small : k - 64 * w < trailing_ones w64 word = omega (arith, below) in
            let near : k - 64 * w < 64 = omega (arith, small, zero.0) in
            subst (λ (n : ℕ). contains (used_in t) n ≡ true) (let e : 64 * w + (k - 64 * w) ≡ k = omega arith in e)
            (contains-at t value w (k - 64 * w) near ∙ eq-eqb _ 1 (zero.2 (k - 64 * w) small))
      ];
      here = contains-at t value w (trailing_ones w64 word) zero.0 ∙ ap (λ (b : ℕ). b == 1) zero.1;
    }

-- it is the head of the free segments, where it is one of the device's
pub unused-head : (t : Table) (s : ℕ) → IsLeastUnused t s → s < t.segments → missing_below (used_in t) t.segments ≡ s ∷ filter (λ k. not (contains (used_in t) k)) (range_with_len (s + 1) (t.segments - s - 1))
unfolding missing_below
unused-head t s least within =
    ap (λ (n : ℕ). filter (λ k. not (contains (used_in t) k)) (range_with_len 0 n)) (let e : t.segments ≡ s + suc (t.segments - s - 1) = omega arith in e)
    ∙ first_passes (λ k. not (contains (used_in t) k)) 0 s s (t.segments - s - 1) (omega arith) (λ k low high. ap not (least.below k high)) (ap not least.here)

-- and else there is none
pub unused-none : (t : Table) (n : ℕ) → AllUsed t n → t.segments ≤ n → missing_below (used_in t) t.segments ≡ []
unfolding missing_below
unused-none t n all beyond = none_pass (λ k. not (contains (used_in t) k)) 0 t.segments (λ k low high. ap not (all k (omega (arith, high))))

-- the table with the bit of segment k set
abbrev pub marked : Table → ℕ → Table
marked t k = record t { used = set t.used (k / 64) (bit_or (get_or t.used (k / 64) 0) (1 * 2 ^ (k % 64) % 18446744073709551616)) }

pub marked-value : (t : Table) → IsTableValue t → (k : ℕ) → k < 4096 → IsTableValue (marked t k)
marked-value t value k within = record {
  words = length-set t.used (k / 64) (bit_or (get_or t.used (k / 64) 0) (1 * 2 ^ (k % 64) % 18446744073709551616)) ∙ value.words;
  word = λ j. fits j;
}
  where
    fits : (j : ℕ) → get_or (marked t k).used j 0 < 2 ^ 64
    fits j = elim (cases_eq j (k / 64)) [
      | inl same ↦
          subst (λ (n : ℕ). get_or (marked t k).used n 0 < 2 ^ 64) (sym same)
          (subst (λ (word : ℕ). word < 2 ^ 64) (sym (get_or-set_same t.used (k / 64) (bit_or (get_or t.used (k / 64) 0) (1 * 2 ^ (k % 64) % 18446744073709551616)) 0 (omega (arith, value.words))))
          (or_lt 64 (get_or t.used (k / 64) 0) (1 * 2 ^ (k % 64) % 18446744073709551616) (value.word (k / 64)) (mod_below (1 * 2 ^ (k % 64)) 18446744073709551616 (omega arith))))
      | inr other ↦ subst (λ (word : ℕ). word < 2 ^ 64) (sym (get_or-set_other t.used (k / 64) j (bit_or (get_or t.used (k / 64) 0) (1 * 2 ^ (k % 64) % 18446744073709551616)) 0 other)) (value.word j)
    ]

is_used-marked : (t : Table) → IsTableValue t → (k : ℕ) → k < 4096 → (q : ℕ) → is_used (marked t k) q ≡ (nat_eq q k || is_used t q)
is_used-marked t value k within q =
    elim (cases_eq q k) [
      | inl same ↦
          subst (λ (n : ℕ). is_used (marked t k) n ≡ (nat_eq n k || is_used t n)) (sym same)
          (ap (λ (word : ℕ). bit_at word (k % 64) == 1) (get_or-set_same t.used (k / 64) (bit_or (get_or t.used (k / 64) 0) (1 * 2 ^ (k % 64) % 18446744073709551616)) 0 (omega (arith, value.words)))
          ∙ eq-eqb _ 1 (bit_at_set_same w64 (get_or t.used (k / 64) 0) (k % 64) (omega arith))
          ∙ sym (ap (λ (b : Bool). b || is_used t k) (eq-eqb k k refl)))
      | inr other ↦
          elim (cases_eq (q / 64) (k / 64)) [
            | inl near ↦
                ap (λ (n : ℕ). bit_at (get_or (marked t k).used n 0) (q % 64) == 1) near
                ∙ ap (λ (word : ℕ). bit_at word (q % 64) == 1) (get_or-set_same t.used (k / 64) (bit_or (get_or t.used (k / 64) 0) (1 * 2 ^ (k % 64) % 18446744073709551616)) 0 (omega (arith, value.words)))
                ∙ ap (λ (b : ℕ). b == 1) (bit_at_set_other w64 (get_or t.used (k / 64) 0) (k % 64) (omega arith) (q % 64) (λ bit. other (omega (arith, near, bit))))
                ∙ ap (λ (n : ℕ). bit_at (get_or t.used n 0) (q % 64) == 1) (sym near)
                ∙ sym (ap (λ (b : Bool). b || is_used t q) (ne_eqb q k other))
            | inr far ↦
                ap (λ (word : ℕ). bit_at word (q % 64) == 1) (get_or-set_other t.used (k / 64) (q / 64) (bit_or (get_or t.used (k / 64) 0) (1 * 2 ^ (k % 64) % 18446744073709551616)) 0 far)
                ∙ sym (ap (λ (b : Bool). b || is_used t q) (ne_eqb q k other))
          ]
    ]

pub marked-table : (t : Table) → IsTableValue t → IsTable t → (k : ℕ) → k < t.segments → IsTable (marked t k)
marked-table t value table k within = record { least = table.least; most = table.most; used = λ s set. names s (or_cases (nat_eq s k) (is_used t s) (sym (is_used-marked t value k (omega (arith, table.most)) s) ∙ eq-eqb _ 1 set)) }
  where
    names : (s : ℕ) → (nat_eq s k ≡ true) ⊎ (is_used t s ≡ true) → s < t.segments
    names s (inl same) = omega (arith, eqb-true s k same)
    names s (inr used) = table.used s (eqb-true _ 1 used)

pub used_in-marked : (t : Table) → IsTableValue t → IsTable t → (k : ℕ) → k < t.segments → used_in (marked t k) ≡ insert (used_in t) k
used_in-marked t value table k within =
    let small : k < 4096 = omega (arith, table.most) in
    same_set nat_cmp_total nat_cmp-IsAntisymmetric (used_in (marked t k)) (insert (used_in t) k) (λ q.
    contains-used_in (marked t k) (marked-value t value k small) q
    ∙ is_used-marked t value k small q
    ∙ (λ i. sym (unsigned_tied q k) i || sym (contains-used_in t value q) i)
    ∙ sym (contains-insert nat_cmp_total (used_in t) k q))

-- a table of zero words has no used segment
pub zeros-value : (n : ℕ) → IsTableValue (record { segments = n; used = replicate 64 0 })
zeros-value n = record { words = length-replicate {A = ℕ} 64 0; word = λ k. fits k }
  where
    fits : (k : ℕ) → get_or (replicate 64 0) k 0 < 2 ^ 64
    fits k = elim (cases_lt k 64) [
      | inl lt ↦ subst (λ (word : ℕ). word < 2 ^ 64) (sym (get_or-replicate {A = ℕ} 64 k 0 0 lt)) (omega arith)
      | inr le ↦ subst (λ (word : ℕ). word < 2 ^ 64) (sym (get_or_past {X = ℕ} (replicate 64 0) k 0 (omega (arith, length-replicate {A = ℕ} 64 0)))) (omega arith)
    ]

zero_word : (w : ℕ) → ◌≡◌ {A = ℕ} (get_or (replicate 64 0) w 0) 0
zero_word w = elim (cases_lt w 64) [
  | inl lt ↦ get_or-replicate {A = ℕ} 64 w 0 0 lt
  | inr le ↦ get_or_past {X = ℕ} (replicate 64 0) w 0 (omega (arith, length-replicate {A = ℕ} 64 0))
]

is_used-zeros : (n k : ℕ) → is_used (record { segments = n; used = replicate 64 0 }) k ≡ false
is_used-zeros n k = ap (λ (word : ℕ). bit_at word (k % 64) == 1) (zero_word (k / 64)) ∙ ap (λ (b : ℕ). b == 1) (bit_at-zero (k % 64))

pub used_in-zeros : (n : ℕ) → used_in (record { segments = n; used = replicate 64 0 }) ≡ empty
used_in-zeros n =
    let t : Table = record { segments = n; used = replicate 64 0 } in
    same_set nat_cmp_total nat_cmp-IsAntisymmetric (used_in t) empty (λ k. contains-used_in t (zeros-value n) k ∙ is_used-zeros n k ∙ sym (contains-empty nat_cmp k))

pub zeros-table : (n : ℕ) → 16 ≤ n → n ≤ 4096 → IsTable (record { segments = n; used = replicate 64 0 })
zeros-table n least most = record { least = least; most = most; used = λ k set. absurd (true≢false (sym (eq-eqb _ 1 set) ∙ is_used-zeros n k)) }

-- the first free segment by the first word that isn't full
pub least-unused : (t : Table) (s : ℕ) → IsLeastUnused t s → then_some (nat_lt s t.segments) s ≡ slice_get (missing_below (used_in t) t.segments) 0
least-unused t s least = elim (cases_lt s t.segments) [
  | inl lt ↦ ap (λ (b : Bool). then_some b s) (lt-ltb s t.segments lt) ∙ sym (ap (λ (ks : List ℕ). slice_get ks 0) (unused-head t s least lt))
  | inr le ↦ ap (λ (b : Bool). then_some b s) (le-ltb s t.segments le) ∙ sym (ap (λ (ks : List ℕ). slice_get ks 0) (unused-none t s least.below le))
]
