-- Which partitions are there and which are copies is all of the state that decides whether a change is refused, and no count decides it.
use Rattle.std.proofs.Common.{◌≡◌, ℕ, ◌==◌, Bool, true, false, cond, not, List, [], ◌∷◌, ◌++◌, Option, Some, None, is_some, refl, sym, ◌∙◌, ap}
use Rattle.std.proofs.lemmas.Bool.{eqb-true}
use Rattle.std.specs.FinMap.{get}
use Rattle.std.specs.Option.{option_map, option_or}
use Rattle.tdb_base.specs.declared.names.PartId.{PartId}
use Rattle.tdb_model.specs.Apply.{with_chunk, without_chunk, made, copied, with_partition, apply}
use Rattle.tdb_model.specs.Check.{is_there, is_frozen, has_parent, refusal, first_refusal}
use Rattle.tdb_model.specs.Lookup.{parent_of, parent_at}
use Rattle.tdb_model.specs.State.{State, Partition}
use Rattle.tdb_model.specs.declared.change.Change.{Change}
use Rattle.tdb_model.specs.declared.change.Change.TheVariants.{Write, Free, Make, Copy, Drop}
use Rattle.tdb_model.specs.declared.error.CommitError.{CommitError}
use Rattle.tdb_model.proofs.MapLemmas.{get_inserted, get_removed}

-- the same of the state after a change, by the parents before it
abbrev pub parent_after : Change → (ℕ → Option ℕ) → ℕ → Option ℕ
parent_after (Write part rank bytes) parent q = parent q
parent_after (Free part rank) parent q = parent q
parent_after (Make part suite) parent q = cond (q == part.0) (Some 0) (parent q)
parent_after (Copy from to) parent q = cond (q == to.0) (option_or (option_map (λ _. from.0) (parent from.0)) (parent q)) (parent q)
parent_after (Drop part) parent q = cond (q == part.0) None (parent q)

-- a partition that is changed keeps its parent
kept : (state : State) (part : ℕ) (change : Partition → Partition) → ((p : Partition) → (change p).parent ≡ p.parent) → (q : ℕ) (found : Option Partition) → get state part ≡ found
    → parent_at (with_partition state part (option_map change found)) q ≡ parent_at state q
kept state part change same q None is = refl
kept state part change same q (Some p) is = ap parent_of (get_inserted state part (change p) q) ∙
    elim (q == part) as (λ (b : Bool). (q == part) ≡ b → parent_of (cond b (Some (change p)) (get state q)) ≡ parent_at state q) [
      | true ↦ λ at. ap Some (same p) ∙ sym (ap parent_of (ap (get state) (eqb-true q part at) ∙ is))
      | false ↦ λ apart. refl
    ] refl

under_cond : (b : Bool) (x y : Option Partition) → parent_of (cond b x y) ≡ cond b (parent_of x) (parent_of y)
under_cond true x y = refl
under_cond false x y = refl

copied_parent : (count : ℕ) (state : State) (from to q : ℕ) (found : Option Partition)
    → parent_at (with_partition state to (option_map (copied count from) found)) q ≡ cond (q == to) (option_or (option_map (λ _. from) (parent_of found)) (parent_at state q)) (parent_at state q)
copied_parent count state from to q None =
    elim (q == to) as (λ (b : Bool). parent_at state q ≡ cond b (parent_at state q) (parent_at state q)) [ true ↦ refl | false ↦ refl ]
copied_parent count state from to q (Some p) = ap parent_of (get_inserted state to (copied count from p) q) ∙ under_cond (q == to) _ _

pub parent_at-apply : (count : ℕ) (state : State) (change : Change) (q : ℕ) → parent_at (apply count state change) q ≡ parent_after change (parent_at state) q
parent_at-apply count state (Write part rank bytes) q = kept state part.0 (with_chunk rank.0 bytes) (λ p. refl) q (get state part.0) refl
parent_at-apply count state (Free part rank) q = kept state part.0 (without_chunk rank.0) (λ p. refl) q (get state part.0) refl
parent_at-apply count state (Make part suite) q = ap parent_of (get_inserted state part.0 (made count part.0 suite) q) ∙ under_cond (q == part.0) _ _
parent_at-apply count state (Copy from to) q = copied_parent count state from.0 to.0 q (get state from.0)
parent_at-apply count state (Drop part) q = ap parent_of (get_removed state part.0 q) ∙ under_cond (q == part.0) _ _

-- two states have the same partitions, with the same parents
abbrev pub HaveSameParents : State → State → Type 0
HaveSameParents one other = (q : ℕ) → parent_at one q ≡ parent_at other q

after_same : (change : Change) (one other : ℕ → Option ℕ) → ((q : ℕ) → one q ≡ other q) → (q : ℕ) → parent_after change one q ≡ parent_after change other q
after_same (Write part rank bytes) one other same q = same q
after_same (Free part rank) one other same q = same q
after_same (Make part suite) one other same q = ap (λ (o : Option ℕ). cond (q == part.0) (Some 0) o) (same q)
after_same (Copy from to) one other same q = rw (same q, same from.0) refl
after_same (Drop part) one other same q = ap (λ (o : Option ℕ). cond (q == part.0) None o) (same q)

pub apply-HaveSameParents : (count number : ℕ) (one other : State) (change : Change) → HaveSameParents one other → HaveSameParents (apply count one change) (apply number other change)
apply-HaveSameParents count number one other change same q =
    parent_at-apply count one change q ∙ after_same change (parent_at one) (parent_at other) same q ∙ sym (parent_at-apply number other change q)

-- whether a partition is there, by its parent
pub is_there-parent : (found : Option Partition) → is_some found ≡ is_some (parent_of found)
is_there-parent None = refl
is_there-parent (Some p) = refl

-- whether it is a copy, by its parent
abbrev pub is_parent : Option ℕ → Bool
is_parent None = false
is_parent (Some parent) = not (parent == 0)

pub has_parent-parent : (found : Option Partition) → has_parent found ≡ is_parent (parent_of found)
has_parent-parent None = refl
has_parent-parent (Some p) = refl

there : (one other : State) → HaveSameParents one other → (part : PartId) → is_there one part ≡ is_there other part
there one other same part = is_there-parent (get one part.0) ∙ ap is_some (same part.0) ∙ sym (is_there-parent (get other part.0))

frozen : (one other : State) → HaveSameParents one other → (part : PartId) → is_frozen one part ≡ is_frozen other part
frozen one other same part = has_parent-parent (get one part.0) ∙ ap is_parent (same part.0) ∙ sym (has_parent-parent (get other part.0))

pub refusal-HaveSameParents : (earlier : List Change) (one other : State) (change : Change) → HaveSameParents one other → refusal earlier one change ≡ refusal earlier other change
refusal-HaveSameParents earlier one other (Write part rank bytes) same = rw (there one other same part, frozen one other same part) refl
refusal-HaveSameParents earlier one other (Free part rank) same = rw (there one other same part, frozen one other same part) refl
refusal-HaveSameParents earlier one other (Make part suite) same = rw (there one other same part) refl
refusal-HaveSameParents earlier one other (Copy from to) same = rw (there one other same from, there one other same to) refl
refusal-HaveSameParents earlier one other (Drop part) same = rw (there one other same part) refl

pub first_refusal-HaveSameParents : (earlier : List Change) (one other : State) (changes : List Change) → HaveSameParents one other → first_refusal earlier one changes ≡ first_refusal earlier other changes
first_refusal-HaveSameParents earlier one other [] same = refl
first_refusal-HaveSameParents earlier one other (change ∷ later) same =
    ap (λ (o : Option CommitError). option_or o (first_refusal (earlier ++ change ∷ []) (apply 0 one change) later)) (refusal-HaveSameParents earlier one other change same)
    ∙ ap (option_or (refusal earlier other change)) (first_refusal-HaveSameParents (earlier ++ change ∷ []) _ _ later (apply-HaveSameParents 0 0 one other change same))

-- The test of the later changes is the same whatever count the earlier one gets.
pub first_refusal_at : (count : ℕ) (earlier : List Change) (state : State) (change : Change) (later : List Change)
    → first_refusal earlier state (change ∷ later) ≡ option_or (refusal earlier state change) (first_refusal (earlier ++ change ∷ []) (apply count state change) later)
first_refusal_at count earlier state change later =
    ap (option_or (refusal earlier state change)) (first_refusal-HaveSameParents (earlier ++ change ∷ []) _ _ later (apply-HaveSameParents 0 count state state change (λ q. refl)))
