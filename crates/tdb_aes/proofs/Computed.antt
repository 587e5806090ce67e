-- A test that computes to true at each number below a bound holds at each, and the only number that
-- passes a test is the first that does.
use Rattle.std.proofs.Common.{◌≡◌, ℕ, zero, suc, ◌+◌, ◌<◌, ◌≤◌, ◌≢◌, ◌&&◌, Bool, true, Some, inl, inr, ap, ◌∙◌, arith}
use Rattle.std.proofs.lemmas.Bool.{and_parts, both_ways, cases_Bool, cases_lt, cond-true, cond-false}
use Rattle.std.specs.Prelude.{find}
use Rattle.std.specs.List.{range_with_len}

-- whether each number below n passes the test
unfoldable pub all_below : (ℕ → Bool) → ℕ → Bool
all_below test zero = true
all_below test (suc n) = test n && all_below test n

pub all_below-at : (test : ℕ → Bool) (n k : ℕ) → all_below test n ≡ true → k < n → test k ≡ true
unfolding all_below
all_below-at test zero k h lt = absurd (omega arith)
all_below-at test (suc n) k h lt =
    let parts = and_parts (test n) (all_below test n) h in
    elim (cases_lt k n) [
      | inl below ↦ all_below-at test n k parts.1 below
      | inr above ↦ let e : k ≡ n = omega arith in rw e parts.0
    ]

pub find-only : (test : ℕ → Bool) (a n x : ℕ) → a ≤ x → x < a + n → test x ≡ true
    → ((y : ℕ) → a ≤ y → y < a + n → test y ≡ true → y ≡ x) → find test (range_with_len a n) ≡ Some x
find-only test a zero x low high passes only = absurd (omega arith)
find-only test a (suc n) x low high passes only = elim (cases_Bool (test a)) [
  | inl first ↦ cond-true (test a) (Some a) (find test (range_with_len (a + 1) n)) first ∙ ap Some (only a (omega arith) (omega arith) first)
  | inr skipped ↦
      let later : a ≢ x = λ same. both_ways (test a) skipped (ap test same ∙ passes) in
      cond-false (test a) (Some a) (find test (range_with_len (a + 1) n)) skipped
      ∙ find-only test (a + 1) n x (omega arith) (omega arith) passes (λ y l h p. only y (omega arith) (omega arith) p)
]
