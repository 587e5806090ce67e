-- A copy stays as it is until it is dropped.
use Rattle.std.proofs.Common.{◌≡◌, ◌⊎◌, inl, inr, ℕ, suc, ◌==◌, Bool, true, false, cond, List, [], ◌∷◌, ◌++◌, Option, Some, None, is_some, Contains, refl, sym, ◌∙◌, ap, arith}
use Rattle.std.proofs.lemmas.Bool.{eqb-true, not-false, both_ways}
use Rattle.std.specs.FinMap.{get, remove}
use Rattle.tdb_base.specs.declared.names.PartId.{PartId}
use Rattle.tdb_model.specs.Apply.{made, with_partition, apply, apply_all}
use Rattle.tdb_model.specs.Check.{has_parent, refusal, first_refusal}
use Rattle.tdb_model.specs.State.{State, Partition}
use Rattle.tdb_model.specs.declared.change.Change.{Change}
use Rattle.tdb_model.specs.declared.change.Change.TheVariants.{Write, Free, Make, Copy, Drop}
use Rattle.tdb_model.proofs.MapLemmas.{get_inserted, get_removed}
use Rattle.tdb_model.proofs.ParentLemmas.{first_refusal_at}
use Rattle.tdb_model.proofs.RangeLemmas.{option_or_none, write_in_range, free_in_range, make_in_range, copy_in_range}

-- the change drops this partition
abbrev pub IsDropOf : ℕ → Change → Type 0
IsDropOf part change = (dropped : PartId) × (dropped.0 ≡ part) × (change ≡ Drop dropped)

frozen : (p : Partition) (found : Option Partition) → found ≡ Some p → (p.parent ≡ 0 → ⊥) → has_parent found ≡ false → ⊥
frozen p found there copy is = copy (eqb-true p.parent 0 (not-false (p.parent == 0) (sym (ap has_parent there) ∙ is)))

present : (p : Partition) (found : Option Partition) → found ≡ Some p → is_some found ≡ false → ⊥
present p found there is = both_ways true (sym (ap is_some there) ∙ is) refl

apart : (state : State) (part : ℕ) (found : Option Partition) (q : ℕ) → (q == part) ≡ false → get (with_partition state part found) q ≡ get state q
apart state part None q is = refl
apart state part (Some p) q is = get_inserted state part p q ∙ ap (λ (b : Bool). cond b (Some p) (get state q)) is

-- the partition isn't the one at which the state is changed
elsewhere : (q part : ℕ) → (q ≡ part → ⊥) → (q == part) ≡ false
elsewhere q part apart = elim (q == part) as (λ (b : Bool). (q == part) ≡ b → b ≡ false) [ true ↦ λ at. absurd (apart (eqb-true q part at)) | false ↦ λ _. refl ] refl

pub copy_stays : (count : ℕ) (earlier : List Change) (state : State) (change : Change) (part : ℕ) (p : Partition) → get state part ≡ Some p → (p.parent ≡ 0 → ⊥) → refusal earlier state change ≡ None
    → (get (apply count state change) part ≡ Some p) ⊎ IsDropOf part change
copy_stays count earlier state (Write written rank bytes) part p there copy passes =
    let range = write_in_range earlier state written rank bytes passes in
    inl (apart state written.0 _ part (elsewhere part written.0 (λ at. frozen p (get state written.0) (ap (get state) (sym at) ∙ there) copy range.0)) ∙ there)
copy_stays count earlier state (Free freed rank) part p there copy passes =
    let range = free_in_range earlier state freed rank passes in
    inl (apart state freed.0 _ part (elsewhere part freed.0 (λ at. frozen p (get state freed.0) (ap (get state) (sym at) ∙ there) copy range)) ∙ there)
copy_stays count earlier state (Make new suite) part p there copy passes =
    let range = make_in_range earlier state new suite passes in
    inl (apart state new.0 (Some (made count new.0 suite)) part (elsewhere part new.0 (λ at. present p (get state new.0) (ap (get state) (sym at) ∙ there) range.2)) ∙ there)
copy_stays count earlier state (Copy from to) part p there copy passes =
    let range = copy_in_range earlier state from to passes in
    inl (apart state to.0 _ part (elsewhere part to.0 (λ at. present p (get state to.0) (ap (get state) (sym at) ∙ there) range.4)) ∙ there)
copy_stays count earlier state (Drop dropped) part p there copy passes =
    elim (part == dropped.0) as (λ (b : Bool). (part == dropped.0) ≡ b → (get (remove state dropped.0) part ≡ Some p) ⊎ IsDropOf part (Drop dropped)) [
      | true ↦ λ at. inr (dropped, sym (eqb-true part dropped.0 at), refl)
      | false ↦ λ is. inl (get_removed state dropped.0 part ∙ ap (λ (b : Bool). cond b None (get state part)) is ∙ there)
    ] refl

-- one of these changes drops this partition
abbrev pub IsDropped : ℕ → List Change → Type 0
IsDropped part changes = (dropped : PartId) × (dropped.0 ≡ part) × Contains changes (Drop dropped)

-- The same over the changes of one commit: a copy stays unless one of them drops it.
pub copy_stays_all : (count : ℕ) (earlier : List Change) (state : State) (changes : List Change) (part : ℕ) (p : Partition) → get state part ≡ Some p → (p.parent ≡ 0 → ⊥)
    → first_refusal earlier state changes ≡ None → (get (apply_all count state changes) part ≡ Some p) ⊎ IsDropped part changes
copy_stays_all count earlier state [] part p there copy passes = inl there
copy_stays_all count earlier state (change ∷ later) part p there copy passes =
    let both = option_or_none (refusal earlier state change) _ (sym (first_refusal_at count earlier state change later) ∙ passes) in
    elim (copy_stays count earlier state change part p there copy both.0) as (λ _. (get (apply_all count (apply count state change) later) part ≡ Some p) ⊎ IsDropped part (change ∷ later)) [
      | inl stays ↦ elim (copy_stays_all count (earlier ++ change ∷ []) (apply count state change) later part p stays copy both.1)
          as (λ _. (get (apply_all count (apply count state change) later) part ≡ Some p) ⊎ IsDropped part (change ∷ later)) [
            | inl still ↦ inl still
            | inr drop ↦ inr (drop.0, drop.1, (suc drop.2.0, omega (arith, drop.2.1), drop.2.2))
          ]
      | inr drop ↦ inr (drop.0, drop.1, (0, omega arith, drop.2))
    ]
