-- Finite maps whose keys are numbers.
use Rattle.std.proofs.Common.{◌≡◌, ℕ, ◌==◌, Bool, true, false, cond, Some, None, refl, sym, subst, ◌∙◌, ap}
use Rattle.std.proofs.lemmas.Bool.{eqb-true}
use Rattle.std.proofs.lemmas.Option.{same_Some, none-some}
use Rattle.std.specs.Cmp.{nat_cmp_total, unsigned_tied}
use Rattle.std.specs.FinMap.{FinMap, get, insert, remove, get-insert, get-remove, same_map, nat_cmp-IsAntisymmetric}
use Rattle.std.specs.Ordering.{nat_cmp}

module _ {X : Type 0} where
  moved : (P : ℕ → X → Type 0) (k q : ℕ) (v x : X) → k ≡ q → v ≡ x → P k v → P q x
  moved P k q v x same_key same_value here = subst (λ (n : ℕ). P n x) same_key (subst (λ (y : X). P k y) same_value here)

  pub get_inserted : (m : FinMap nat_cmp X) (k : ℕ) (v : X) (q : ℕ) → get (insert m k v) q ≡ cond (q == k) (Some v) (get m q)
  get_inserted m k v q = get-insert nat_cmp_total m k v q ∙ ap (λ (b : Bool). cond b (Some v) (get m q)) (unsigned_tied q k)

  pub get_removed : (m : FinMap nat_cmp X) (k q : ℕ) → get (remove m k) q ≡ cond (q == k) None (get m q)
  get_removed m k q = get-remove nat_cmp_total m k q ∙ ap (λ (b : Bool). cond b None (get m q)) (unsigned_tied q k)

  -- two maps that have the same at each key are one
  pub same : (m n : FinMap nat_cmp X) → ((q : ℕ) → get m q ≡ get n q) → m ≡ n
  same m n is = same_map nat_cmp_total nat_cmp-IsAntisymmetric m n is

  -- what is at a key of a map with one more pair is that pair's value, or what was there
  pub found_inserted : (m : FinMap nat_cmp X) (k : ℕ) (v : X) (P : ℕ → X → Type 0) → P k v → (q : ℕ) (x : X) → (get m q ≡ Some x → P q x) → get (insert m k v) q ≡ Some x → P q x
  found_inserted m k v P here q x there is =
      elim (q == k) as (λ (b : Bool). (q == k) ≡ b → cond b (Some v) (get m q) ≡ Some x → P q x) [
        | true ↦ λ at found. moved P k q v x (sym (eqb-true q k at)) (same_Some v x found) here
        | false ↦ λ apart found. there found
      ] refl (sym (get_inserted m k v q) ∙ is)

  pub found_removed : (m : FinMap nat_cmp X) (k q : ℕ) (x : X) → get (remove m k) q ≡ Some x → get m q ≡ Some x
  found_removed m k q x is =
      elim (q == k) as (λ (b : Bool). cond b None (get m q) ≡ Some x → get m q ≡ Some x) [
        | true ↦ λ found. absurd (none-some x found)
        | false ↦ λ found. found
      ] (sym (get_removed m k q) ∙ is)

  pub insert_again : (m : FinMap nat_cmp X) (k : ℕ) (v : X) → get m k ≡ Some v → insert m k v ≡ m
  insert_again m k v is = same _ _ (λ q. get_inserted m k v q ∙
      elim (q == k) as (λ (b : Bool). (q == k) ≡ b → cond b (Some v) (get m q) ≡ get m q) [
        | true ↦ λ at. sym (ap (get m) (eqb-true q k at) ∙ is)
        | false ↦ λ apart. refl
      ] refl)

  pub remove_absent : (m : FinMap nat_cmp X) (k : ℕ) → get m k ≡ None → remove m k ≡ m
  remove_absent m k is = same _ _ (λ q. get_removed m k q ∙
      elim (q == k) as (λ (b : Bool). (q == k) ≡ b → cond b None (get m q) ≡ get m q) [
        | true ↦ λ at. sym (ap (get m) (eqb-true q k at) ∙ is)
        | false ↦ λ apart. refl
      ] refl)
