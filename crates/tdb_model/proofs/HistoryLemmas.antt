-- States that histories lead to.
use Rattle.std.proofs.Common.{◌≡◌, ℕ, ◌==◌, Bool, true, false, cond, List, [], ◌∷◌, ◌++◌, Option, Some, None, refl, sym, ◌∙◌, ap, arith}
use Rattle.std.proofs.lemmas.Bool.{eqb-true, ne_eqb}
use Rattle.std.specs.FinMap.{FinMap, empty, get, insert, get-empty}
use Rattle.std.specs.Option.{option_map}
use Rattle.std.specs.Ordering.{nat_cmp}
use Rattle.tdb_base.specs.declared.suite.Suite.{Suite}
use Rattle.tdb_model.specs.Apply.{made, with_chunk, without_chunk, with_partition, apply_all, History, replay, state_of}
use Rattle.tdb_model.specs.Check.{check}
use Rattle.tdb_model.specs.Opening.{opening_changes}
use Rattle.tdb_model.specs.State.{State, Partition, no_partitions}
use Rattle.tdb_model.specs.declared.change.Change.{Change}
use Rattle.tdb_model.specs.declared.change.Change.TheVariants.{Write}
use Rattle.tdb_model.proofs.MapLemmas.{same, get_inserted, insert_again, remove_absent}

pub replay-append : (state : State) (history : History) (count : ℕ) (changes : List Change) → replay state (history ++ (count, changes) ∷ []) ≡ apply_all count (replay state history) changes
replay-append state [] count changes = refl
replay-append state (commit ∷ commits) count changes = replay-append (apply_all commit.0 state commit.1) commits count changes

unchanged : (rank : ℕ) (p : Partition) → get p.chunks rank ≡ None → without_chunk rank p ≡ p
unchanged rank p absent = ap (λ (m : FinMap nat_cmp (List ℕ)). record { suite = p.suite; home = p.home; birth = p.birth; next = p.next; parent = p.parent; born = p.born; chunks = m }) (remove_absent p.chunks rank absent)

pub free_absent : (count : ℕ) (state : State) (part rank : ℕ) (p : Partition) → get state part ≡ Some p → get p.chunks rank ≡ None
    → with_partition state part (option_map (without_chunk rank) (get state part)) ≡ state
free_absent count state part rank p there absent =
    ap (λ (o : Option Partition). with_partition state part (option_map (without_chunk rank) o)) there
    ∙ ap (insert state part) (unchanged rank p absent)
    ∙ insert_again state part p there

-- the new value at a key that another insertion came behind
insert_behind : {X : Type 0} (m : FinMap nat_cmp X) (k j : ℕ) (a b c : X) → (k ≡ j → ⊥) → insert (insert (insert m k a) j b) k c ≡ insert (insert m k c) j b
insert_behind m k j a b c apart = same _ _ (λ q. get_inserted (insert (insert m k a) j b) k c q
    ∙ ap (cond (q == k) (Some c)) (get_inserted (insert m k a) j b q ∙ ap (cond (q == j) (Some b)) (get_inserted m k a q))
    ∙ elim (q == k) as (λ (v : Bool). (q == k) ≡ v → cond v (Some c) (cond (q == j) (Some b) (cond v (Some a) (get m q))) ≡ cond (q == j) (Some b) (cond v (Some c) (get m q))) [
      | true ↦ λ at. rw (ne_eqb q j (λ is. apart (sym (eqb-true q k at) ∙ is))) refl
      | false ↦ λ _. refl
    ] refl
    ∙ sym (get_inserted (insert m k c) j b q ∙ ap (cond (q == j) (Some b)) (get_inserted m k c q)))

module _ (suite : Suite) where
  first_there : get (insert (insert no_partitions 1 (made 2 1 suite)) 2 (made 2 2 suite)) 1 ≡ Some (made 2 1 suite)
  first_there = get_inserted (insert no_partitions 1 (made 2 1 suite)) 2 (made 2 2 suite) 1 ∙ get_inserted no_partitions 1 (made 2 1 suite) 1

  pub opening_passes : check no_partitions (opening_changes suite) ≡ None
  opening_passes = rw (get-empty {X = Partition} nat_cmp 1, get_inserted no_partitions 1 (made 0 1 suite) 2, get-empty {X = Partition} nat_cmp 2) refl

  pub first_write : (bytes : List ℕ) → state_of ((2, opening_changes suite) ∷ (3, Write (record { 0 = 1 }) (record { 0 = 1 }) bytes ∷ []) ∷ [])
      ≡ insert (insert no_partitions 1 (record { suite = suite; home = 1; birth = 2; next = 2; parent = 0; born = 2; chunks = insert empty 1 bytes })) 2 (made 2 2 suite)
  first_write bytes =
      ap (λ (o : Option Partition). with_partition (insert (insert no_partitions 1 (made 2 1 suite)) 2 (made 2 2 suite)) 1 (option_map (with_chunk 1 bytes) o)) first_there
      ∙ insert_behind no_partitions 1 2 (made 2 1 suite) (made 2 2 suite) (with_chunk 1 bytes (made 2 1 suite)) (λ is. absurd (omega arith))
