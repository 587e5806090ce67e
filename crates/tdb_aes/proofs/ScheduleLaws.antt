-- The words of a schedule, from the start on, and the key that is read back from them.
use Rattle.std.proofs.Common.{◌≡◌, ◌≢◌, ℕ, zero, suc, ◌+◌, ◌-◌, ◌*◌, ◌^◌, ◌<◌, ◌≤◌, ◌==◌, nat_lt, true, List, [], ◌∷◌, ◌++◌, length, take, bit_xor, get_or, slice_index, slice_set, refl, ap, sym, ◌∙◌, add-one, add-zero, append_assoc, inl, inr, arith}
use Rattle.std.proofs.lemmas.Bool.{cases_lt, cond-true, cond-false, eqb-true, le-ltb, lt-ltb}
use Rattle.std.proofs.lemmas.List.{get_or_append_left, get_or_push, length_push, get_or-set_same, get_or-set_other, length-append, take_all, take_more}
use Rattle.std.proofs.lemmas.Nat.{be_bytes_4}
use Rattle.std.specs.Int.{w32, to_be_bytes}
use Rattle.std.specs.Prelude.{if◌then◌else◌}
use Rattle.tdb_aes.specs.EquivalentInverse.{IsInverseSchedule}
use Rattle.tdb_aes.specs.Field.{xtime}
use Rattle.tdb_aes.specs.KeyExpansion.{BeginsWithSchedule, bytes_of_first, first_words, key_schedule, key_word, key_words, next_word, power_of_x, round_count, round_key, temp}
use Rattle.tdb_aes.specs.MixColumns.{inverse_mix_columns, inverse_mix_polynomial, polynomial_product}
use Rattle.tdb_aes.specs.State.{bytes_of_words}
use Rattle.tdb_aes.specs.declared.tables.TheConstants.{ROUND_CONSTANTS}
use Rattle.tdb_aes.proofs.Computed.{all_below, all_below-at}
use Rattle.tdb_aes.proofs.WordBytes.{bytes_of_words-from}

-- ---- the round constants

constants_test : all_below (λ j. get_or ROUND_CONSTANTS j 0 == power_of_x j * 2 ^ 24) 10 ≡ true
unfolding all_below power_of_x xtime
constants_test = refl

pub round_constants-at : (j : ℕ) → j < 10 → get_or ROUND_CONSTANTS j 0 ≡ power_of_x j * 2 ^ 24
round_constants-at j h = eqb-true _ _ (all_below-at (λ j. get_or ROUND_CONSTANTS j 0 == power_of_x j * 2 ^ 24) 10 j constants_test h)

-- ---- the words one by one

-- word k of the schedule, from the words before it
abbrev word_after : List ℕ → ℕ → ℕ
word_after key k = if nat_lt k (key_words key) then key_word key k else next_word (key_words key) (first_words key k) k

length-first_words : (key : List ℕ) (k : ℕ) → length (first_words key k) ≡ k
unfolding first_words
length-first_words key zero = refl
length-first_words key (suc k) = omega (arith, length_push (first_words key k) (word_after key k), length-first_words key k)

-- w has the first i words
abbrev pub BeginsWith : List ℕ → List ℕ → ℕ → Type 0
BeginsWith key w i = (k : ℕ) → k < i → slice_index w k ≡ slice_index (first_words key i) k

begins_more : (key w : List ℕ) (i x : ℕ) → i < length w → BeginsWith key w i → x ≡ word_after key i → BeginsWith key (slice_set w i x) (suc i)
unfolding first_words
begins_more key w i x room held e k h = elim (cases_lt k i) [
  | inl below ↦
      let other : k ≢ i = omega arith in
      let inside : k < length (first_words key i) = omega (arith, length-first_words key i) in
      get_or-set_other w i k x 0 other ∙ held k below
      ∙ sym (get_or_append_left (first_words key i) (word_after key i ∷ []) 0 k inside)
  | inr above ↦
      let same : k ≡ i = omega arith in
      rw same
      (get_or-set_same w i x 0 room ∙ e ∙ sym (get_or_push (first_words key i) (word_after key i) 0 i (length-first_words key i)))
]

-- one more word of the key
pub key_word_more : (key w : List ℕ) (i x : ℕ) → i < length w → i < key_words key → BeginsWith key w i → x ≡ key_word key i
    → BeginsWith key (slice_set w i x) (i + 1)
key_word_more key w i x room low held e =
    rw add-one
    (begins_more key w i x room held
    (e ∙ sym (cond-true (nat_lt i (key_words key)) (key_word key i) (next_word (key_words key) (first_words key i) i) (lt-ltb i (key_words key) low))))

next_word-same : (n : ℕ) (v w : List ℕ) (i : ℕ) → slice_index v (i - n) ≡ slice_index w (i - n) → slice_index v (i - 1) ≡ slice_index w (i - 1)
    → next_word n v i ≡ next_word n w i
unfolding next_word
next_word-same n v w i far near = λ j. bit_xor (far j) (temp n (near j) i)

-- one more word after the key
pub next_word_more : (key w : List ℕ) (i x : ℕ) → i < length w → 0 < key_words key → key_words key ≤ i → BeginsWith key w i
    → x ≡ next_word (key_words key) w i → BeginsWith key (slice_set w i x) (i + 1)
next_word_more key w i x room some high held e =
    rw add-one
    (begins_more key w i x room held
    (e ∙ next_word-same (key_words key) w (first_words key i) i (held (i - key_words key) (omega arith)) (held (i - 1) (omega arith))
    ∙ sym (cond-false (nat_lt i (key_words key)) (key_word key i) (next_word (key_words key) (first_words key i) i) (le-ltb i (key_words key) high))))

-- the first words stay as more follow
first_words-stays : (key : List ℕ) (n k : ℕ) → k < n → slice_index (first_words key n) k ≡ word_after key k
unfolding first_words
first_words-stays key zero k h = absurd (omega arith)
first_words-stays key (suc n) k h = elim (cases_lt k n) [
  | inl below ↦
      let inside : k < length (first_words key n) = omega (arith, length-first_words key n) in
      get_or_append_left (first_words key n) (word_after key n ∷ []) 0 k inside ∙ first_words-stays key n k below
  | inr above ↦
      let same : k ≡ n = omega arith in
      rw same (get_or_push (first_words key n) (word_after key n) 0 n (length-first_words key n))
]

-- the first words of the schedule are the key's
pub key_schedule-key : (key : List ℕ) (n k : ℕ) → k < n → k < key_words key → slice_index (first_words key n) k ≡ key_word key k
key_schedule-key key n k h low =
    first_words-stays key n k h
    ∙ cond-true (nat_lt k (key_words key)) (key_word key k) (next_word (key_words key) (first_words key k) k) (lt-ltb k (key_words key) low)

-- ---- the key, read back

pub length-bytes_of_first : (w : List ℕ) (n : ℕ) → length (bytes_of_first w n) ≡ 4 * n
unfolding bytes_of_first
length-bytes_of_first w zero = refl
length-bytes_of_first w (suc n) =
    omega (arith, length-append (bytes_of_first w n) (to_be_bytes w32 (slice_index w n)), length-bytes_of_first w n)

take_four : (key : List ℕ) (m : ℕ) → m + 4 ≤ length key
    → take (m + 4) key ≡ take m key ++ get_or key m 0 ∷ get_or key (m + 1) 0 ∷ get_or key (m + 2) 0 ∷ get_or key (m + 3) 0 ∷ []
take_four key m room =
    let p2 : m + 2 ≡ m + 1 + 1 = omega arith in
    let p3 : m + 3 ≡ m + 2 + 1 = omega arith in
    let p4 : m + 4 ≡ m + 3 + 1 = omega arith in
    let t1 = take_more key m 0 (omega arith) in
    let t2 = ap (λ (j : ℕ). take j key) p2 ∙ take_more key (m + 1) 0 (omega arith) in
    let t3 = ap (λ (j : ℕ). take j key) p3 ∙ take_more key (m + 2) 0 (omega arith) in
    let t4 = ap (λ (j : ℕ). take j key) p4 ∙ take_more key (m + 3) 0 (omega arith) in
    t4 ∙ ap (λ l. l ++ get_or key (m + 3) 0 ∷ []) t3
    ∙ ap (λ l. (l ++ get_or key (m + 2) 0 ∷ []) ++ get_or key (m + 3) 0 ∷ []) t2
    ∙ ap (λ l. ((l ++ get_or key (m + 1) 0 ∷ []) ++ get_or key (m + 2) 0 ∷ []) ++ get_or key (m + 3) 0 ∷ []) t1
    ∙ simp append_assoc

small-four : (a b c d : ℕ) → a < 256 → b < 256 → c < 256 → d < 256 → (i : ℕ) → get_or (a ∷ b ∷ c ∷ d ∷ []) i 0 < 256
small-four a b c d ha hb hc hd zero = ha
small-four a b c d ha hb hc hd (suc zero) = hb
small-four a b c d ha hb hc hd (suc (suc zero)) = hc
small-four a b c d ha hb hc hd (suc (suc (suc zero))) = hd
small-four a b c d ha hb hc hd (suc (suc (suc (suc i)))) = omega arith

bytes_of_first-take : (key w : List ℕ) (n : ℕ) → 4 * n ≤ length key → ((k : ℕ) → slice_index key k < 256)
    → ((k : ℕ) → k < n → slice_index w k ≡ key_word key k) → bytes_of_first w n ≡ take (4 * n) key
unfolding bytes_of_first
bytes_of_first-take key w zero room small held = refl
bytes_of_first-take key w (suc n) room small held =
    let m : ℕ = 4 * n in
    let before = bytes_of_first-take key w n (omega arith) small (λ k h. held k (omega arith)) in
    let word = be_bytes_4 (get_or key m 0 ∷ get_or key (m + 1) 0 ∷ get_or key (m + 2) 0 ∷ get_or key (m + 3) 0 ∷ [])
    (slice_index w n) refl (small-four _ _ _ _ (small m) (small (m + 1)) (small (m + 2)) (small (m + 3))) (held n (omega arith)) in
    let end : 4 * suc n ≡ 4 * n + 4 = omega arith in
    (λ i. before i ++ word i) ∙ sym (ap (λ (j : ℕ). take j key) end ∙ take_four key (4 * n) (omega arith))

-- the words that begin with a key's schedule give the key back
pub bytes_of_first-key : (key w : List ℕ) (n : ℕ) → length key ≡ 4 * n → ((k : ℕ) → slice_index key k < 256)
    → BeginsWithSchedule key w → bytes_of_first w n ≡ key
bytes_of_first-key key w n long small held =
    let words : key_words key ≡ n = omega arith in
    bytes_of_first-take key w n (omega arith) small
    (λ k h. held k (omega arith) ∙ key_schedule-key key (4 * (round_count key + 1)) k (omega arith) (omega arith))
    ∙ take_all (4 * n) key (omega arith)

-- ---- the words for the inverse

-- the words of d below i are made, those from i on are still w's
pub record IsInverseBelow (w d : List ℕ) (i : ℕ) : Type 0 where
  pub first : (k : ℕ) → k < 4 → slice_index d k ≡ slice_index w k
  pub made : (k : ℕ) → 4 ≤ k → k < i → to_be_bytes w32 (slice_index d k) ≡ polynomial_product inverse_mix_polynomial (to_be_bytes w32 (slice_index w k))
  pub rest : (k : ℕ) → i ≤ k → slice_index d k ≡ slice_index w k

pub inverse_below_none : (w : List ℕ) → IsInverseBelow w w 4
inverse_below_none w = record { first = λ k h. refl; made = λ k low high. absurd (omega arith); rest = λ k h. refl }

pub inverse_below_more : (w d : List ℕ) (i x : ℕ) → 4 ≤ i → i < length d → IsInverseBelow w d i
    → to_be_bytes w32 x ≡ polynomial_product inverse_mix_polynomial (to_be_bytes w32 (slice_index w i)) → IsInverseBelow w (slice_set d i x) (i + 1)
inverse_below_more w d i x low room held e = record {
  first = λ k h. (let other : k ≢ i = omega arith in get_or-set_other d i k x 0 other ∙ held.first k h);
  made = λ k above below. elim (cases_lt k i) [
    | inl before ↦
        let other : k ≢ i = omega arith in
        ap (to_be_bytes w32) (get_or-set_other d i k x 0 other) ∙ held.made k above before
    | inr after ↦
        let same : i ≡ k = omega arith in
        rw (← same) (ap (to_be_bytes w32) (get_or-set_same d i x 0 room) ∙ e)
  ];
  rest = λ k h. (let other : k ≢ i = omega arith in get_or-set_other d i k x 0 other ∙ held.rest k (omega arith));
}

round_key-same : (v w : List ℕ) (n : ℕ) → ((j : ℕ) → j < 4 → slice_index v (4 * n + j) ≡ slice_index w (4 * n + j)) → round_key v n ≡ round_key w n
round_key-same v w n same =
    let e0 = rw add-zero at (same 0 (omega arith)) in
    let e1 = same 1 (omega arith) in
    let e2 = same 2 (omega arith) in
    let e3 = same 3 (omega arith) in
    λ i. bytes_of_words (e0 i) (e1 i) (e2 i) (e3 i)

pub round_key-begins : (key w : List ℕ) (n : ℕ) → BeginsWithSchedule key w → n ≤ round_count key → round_key w n ≡ round_key (key_schedule key) n
round_key-begins key w n held low = round_key-same w (key_schedule key) n (λ j h. held (4 * n + j) (omega arith))

made_between : (w d : List ℕ) (n : ℕ)
    → ((j : ℕ) → j < 4 → to_be_bytes w32 (slice_index d (4 * n + j)) ≡ polynomial_product inverse_mix_polynomial (to_be_bytes w32 (slice_index w (4 * n + j))))
    → round_key d n ≡ inverse_mix_columns (round_key w n)
unfolding inverse_mix_columns bytes_of_words
made_between w d n made =
    let e0 = rw add-zero at (made 0 (omega arith)) in
    bytes_of_words-from _ _ _ _ _ _ _ _ e0 (made 1 (omega arith)) (made 2 (omega arith)) (made 3 (omega arith))

pub inverse_below_all : (w d : List ℕ) (rounds i : ℕ) → i ≡ 4 * rounds → 0 < rounds → IsInverseBelow w d i → IsInverseSchedule w d rounds
inverse_below_all w d rounds i e some held = record {
  first = round_key-same d w 0 (λ j h. held.first (4 * 0 + j) (omega arith));
  last = round_key-same d w rounds (λ j h. held.rest (4 * rounds + j) (omega arith));
  between = λ n low high. made_between w d n (λ j h. held.made (4 * n + j) (omega arith) (omega arith));
}
