-- Runs of numbers: which they hold, how they split, and what a filter keeps of them.
use Rattle.std.proofs.Common.{◌≡◌, ℕ, zero, suc, ◌+◌, ◌<◌, ◌≤◌, Bool, true, false, cond, List, [], ◌∷◌, ◌++◌, refl, ap, ◌∙◌, arith}
use Rattle.std.specs.List.{filter, range_with_len, count_by}
use Rattle.std.proofs.lemmas.Bool.{cond-true, cond-false}
use Rattle.std.proofs.lemmas.List.Sums.{sum_by-append, sum_by-cons}

pub range_split : (a m n : ℕ) → range_with_len a (m + n) ≡ range_with_len a m ++ range_with_len (a + m) n
range_split a zero n = ap (λ (k : ℕ). range_with_len a k) (let e : 0 + n ≡ n = omega arith in e) ∙ ap (λ (k : ℕ). range_with_len k n) (let e : a ≡ a + 0 = omega arith in e)
range_split a (suc m) n =
    ap (λ (k : ℕ). range_with_len a k) (let e : suc m + n ≡ suc (m + n) = omega arith in e)
    ∙ ap (λ (ks : List ℕ). a ∷ ks) (range_split (a + 1) m n)
    ∙ ap (λ (k : ℕ). a ∷ (range_with_len (a + 1) m ++ range_with_len k n)) (let e : a + 1 + m ≡ a + suc m = omega arith in e)

module _ (p : ℕ → Bool) where
  -- what passes nowhere in a run
  pub none_pass : (a n : ℕ) → ((k : ℕ) → a ≤ k → k < a + n → p k ≡ false) → filter p (range_with_len a n) ≡ []
  none_pass a zero none = refl
  none_pass a (suc n) none =
      cond-false (p a) _ _ (none a (omega arith) (omega arith)) ∙ none_pass (a + 1) n (λ k low high. none k (omega arith) (omega arith))

  pub filter-append : (xs ys : List ℕ) → filter p (xs ++ ys) ≡ filter p xs ++ filter p ys
  filter-append [] ys = refl
  filter-append (x ∷ xs) ys = step (p x) (filter-append xs ys)
    where
      step : (b : Bool) → filter p (xs ++ ys) ≡ filter p xs ++ filter p ys → cond b (x ∷ filter p (xs ++ ys)) (filter p (xs ++ ys)) ≡ cond b (x ∷ filter p xs) (filter p xs) ++ filter p ys
      step true e = ap (λ (ks : List ℕ). x ∷ ks) e
      step false e = e

  -- the first number of a run that passes
  pub first_passes : (a n s m : ℕ) → a + n ≡ s → ((k : ℕ) → a ≤ k → k < s → p k ≡ false) → p s ≡ true → filter p (range_with_len a (n + suc m)) ≡ s ∷ filter p (range_with_len (s + 1) m)
  first_passes a n s m e none here =
      ap (filter p) (range_split a n (suc m) ∙ ap (λ (k : ℕ). range_with_len a n ++ range_with_len k (suc m)) e)
      ∙ filter-append (range_with_len a n) (range_with_len s (suc m))
      ∙ ap (λ (ks : List ℕ). ks ++ filter p (range_with_len s (suc m))) (none_pass a n (λ k low high. none k low (omega arith)))
      ∙ cond-true (p s) _ _ here

  pub count-none : (a n : ℕ) → ((k : ℕ) → a ≤ k → k < a + n → p k ≡ false) → count_by p (range_with_len a n) ≡ 0
  count-none a zero none = refl
  count-none a (suc n) none =
      sum_by-cons (λ (y : ℕ). cond (p y) 1 0) a (range_with_len (a + 1) n)
      ∙ ap (λ (b : Bool). cond b 1 0 + count_by p (range_with_len (a + 1) n)) (none a (omega arith) (omega arith))
      ∙ ap (λ (k : ℕ). 0 + k) (count-none (a + 1) n (λ k low high. none k (omega arith) (omega arith)))

  pub count-split : (a m n : ℕ) → count_by p (range_with_len a (m + n)) ≡ count_by p (range_with_len a m) + count_by p (range_with_len (a + m) n)
  count-split a m n = ap (count_by p) (range_split a m n) ∙ sum_by-append (λ (y : ℕ). cond (p y) 1 0) (range_with_len a m) (range_with_len (a + m) n)
