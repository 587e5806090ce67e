-- A table by its words: no word has a bit from the number of segments on.
use Rattle.std.proofs.Common.{◌≡◌, ℕ, ◌+◌, ◌-◌, ◌*◌, ◌/◌, ◌%◌, ◌^◌, ◌<◌, ◌≤◌, get_or, inl, inr, subst, ap, ◌∙◌, arith}
use Rattle.std.specs.Int.{w64, bit_at}
use Rattle.std.proofs.Math.Nat.{div-lt_iff_lt-mul, div-le_self}
use Rattle.std.proofs.lemmas.Bool.{cases_lt}
use Rattle.std.proofs.lemmas.List.{get_or_past}
use Rattle.std.proofs.lemmas.Nat.{pow_pos, div-add-mod', mod_below}
use Rattle.std.proofs.lemmas.Nat.Bits.{bit_at_above, bit_at-zero, bit_at_cat_high, bit_at-trailing_zeros}
use Rattle.std.specs.Int.{trailing_zeros}
use Rattle.tdb_node.specs.declared.table.Table.{Table}
use Rattle.tdb_node.specs.SegmentTable.{IsUsed, IsTable, IsTableValue}

-- a shift by k leaves nothing exactly below 2 ^ k
pub shift_is_zero : (n k : ℕ) → n / 2 ^ k ≡ 0 → n < 2 ^ k
shift_is_zero n k e = let h : n / 2 ^ k < 1 = omega arith in omega (arith, (div-lt_iff_lt-mul (pow_pos k)).0 h)

pub shift_below : (n k : ℕ) → n < 2 ^ k → n / 2 ^ k ≡ 0
shift_below n k h = let one : n < 1 * 2 ^ k = omega arith in omega (arith, (div-lt_iff_lt-mul (pow_pos k)).1 one)

low_bit : (n k i : ℕ) → n < 2 ^ k → bit_at n i ≡ 1 → i < k
low_bit n k i small set = elim (cases_lt i k) [ inl lt ↦ lt | inr le ↦ absurd (omega (arith, bit_at_above n k i small le)) ]

-- a number of 2 ^ k or more has a bit from k on
high_bit : (n k : ℕ) → n < 2 ^ 64 → 2 ^ k ≤ n → (i : ℕ) × (k ≤ i) × (bit_at n i ≡ 1)
high_bit n k small large =
    let q : ℕ = n / 2 ^ k in
    let some : 0 < q = elim (cases_lt 0 q) [ inl lt ↦ lt | inr le ↦ absurd (omega (arith, shift_is_zero n k (omega arith))) ] in
    let below : n / 2 ^ k < 2 ^ 64 = omega (arith, div-le_self n (2 ^ k)) in
    let z = bit_at-trailing_zeros w64 q some below in
    let j : ℕ = trailing_zeros w64 q in
    let whole : q * 2 ^ k + n % 2 ^ k ≡ n = div-add-mod' n (2 ^ k) in
    let rest : n % 2 ^ k < 2 ^ k = mod_below n (2 ^ k) (pow_pos k) in
    let bit : bit_at (q * 2 ^ k + n % 2 ^ k) (k + j) ≡ 1 = bit_at_cat_high q k (n % 2 ^ k) (k + j) rest (omega arith) ∙ ap (λ (i : ℕ). bit_at q i) (let e : k + j - k ≡ j = omega arith in e) ∙ z.1 in
    (k + j, omega arith, subst (λ (x : ℕ). bit_at x (k + j) ≡ 1) whole bit)

abbrev pub WordsFit : Table → Type 0
WordsFit t = (k : ℕ) → k < 64 → t.segments - 64 * k < 64 → get_or t.used k 0 < 2 ^ (t.segments - 64 * k)

-- segment s is bit s % 64 of word s / 64
pub table_fits : (t : Table) → IsTableValue t → 16 ≤ t.segments → t.segments ≤ 4096 → WordsFit t → IsTable t
table_fits t is least most fit = record { least = least; most = most; used = λ s set. names_segment t is fit s set }
  where
    names_segment : (t : Table) → IsTableValue t → WordsFit t → (s : ℕ) → IsUsed t s → s < t.segments
    names_segment t is fit s set =
        elim (cases_lt (s / 64) 64) [
          | inl within ↦ elim (cases_lt (t.segments - 64 * (s / 64)) 64) [
            | inl room ↦ let below = low_bit (get_or t.used (s / 64) 0) (t.segments - 64 * (s / 64)) (s % 64) (fit (s / 64) within room) set in omega arith
            | inr room ↦ omega arith
          ]
          | inr past ↦ absurd (omega (arith, subst (λ (word : ℕ). bit_at word (s % 64) ≡ 1) (get_or_past t.used (s / 64) 0 (omega (arith, is.words))) set, bit_at-zero (s % 64)))
        ]

pub fits_table : (t : Table) → IsTableValue t → IsTable t → WordsFit t
fits_table t is table k within room =
    elim (cases_lt (get_or t.used k 0) (2 ^ (t.segments - 64 * k))) [
      | inl lt ↦ lt
      | inr le ↦
          let high = high_bit (get_or t.used k 0) (t.segments - 64 * k) (is.word k) le in
          let i : ℕ = high.0 in
          let small : i < 64 = low_bit (get_or t.used k 0) 64 i (is.word k) high.2 in
          let word : (64 * k + i) / 64 ≡ k = omega arith in
          let bit : (64 * k + i) % 64 ≡ i = omega arith in
          let set : IsUsed t (64 * k + i) = rw (word, bit) high.2 in
          absurd (omega (arith, table.used (64 * k + i) set, high.1))
    ]
