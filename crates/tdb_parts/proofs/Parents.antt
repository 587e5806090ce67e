-- The partitions that an overlay tells have the parents that they have in the state that it covers.
use Rattle.std.proofs.Common.{◌≡◌, ℕ, Bool, true, false, cond, List, [], ◌∷◌, map, Option, Some, None, refl, sym, ◌∙◌, ap}
use Rattle.std.specs.Cmp.{nat_cmp_total}
use Rattle.std.specs.FinMap.{find, get, entries, get-entries, get-from_entries}
use Rattle.std.specs.Option.{option_map}
use Rattle.std.specs.Ordering.{eq_by_cmp, nat_cmp}
use Rattle.tdb_model.proofs.ParentLemmas.{HaveSameParents, first_refusal-HaveSameParents}
use Rattle.tdb_model.specs.Check.{check}
use Rattle.tdb_model.specs.Lookup.{parent_at, parent_of}
use Rattle.tdb_model.specs.State.{State, Partition}
use Rattle.tdb_model.specs.declared.change.Change.{Change}
use Rattle.tdb_overlay.specs.Covering.{Covered, Covers, IsCoveredAt, IsCovering}
use Rattle.tdb_overlay.specs.Found.{Finds}
use Rattle.tdb_overlay.specs.Lookup.{leader_of}
use Rattle.tdb_overlay.specs.declared.overlay.Leader.{Leader}
use Rattle.tdb_parts.specs.BareState.{bare, bare_state}

under_map : (b : Bool) (x y : Option Covered) → option_map bare (cond b x y) ≡ cond b (option_map bare x) (option_map bare y)
under_map true x y = refl
under_map false x y = refl

find_bare : (es : List (ℕ × Covered)) (q : ℕ) → find nat_cmp q (map {B = ℕ × Partition} (λ e. (e.0, bare e.1)) es) ≡ option_map bare (find nat_cmp q es)
find_bare [] q = refl
find_bare (e ∷ es) q = ap (cond (eq_by_cmp nat_cmp q e.0) (Some (bare e.1))) (find_bare es q)
    ∙ sym (under_map (eq_by_cmp nat_cmp q e.0) (Some e.1) (find nat_cmp q es))

-- a partition of it is the one that is told, without its chunks
pub get_bare : (covers : Covers) (q : ℕ) → get (bare_state covers) q ≡ option_map bare (get covers q)
get_bare covers q = get-from_entries nat_cmp_total _ q ∙ find_bare (entries covers) q ∙ ap (option_map bare) (sym (get-entries covers q))

-- the parent that is told
abbrev parent_told : Option Leader → Option ℕ
parent_told found = option_map (λ leader. leader.parent) found

of_leader : (found : Option Covered) → parent_of (option_map bare found) ≡ parent_told (option_map leader_of found)
of_leader None = refl
of_leader (Some c) = refl

pub parent_is : (covers : Covers) (q : ℕ) (found : Option Leader) → found ≡ option_map leader_of (get covers q)
    → option_map (λ leader. leader.parent) found ≡ parent_at (bare_state covers) q
parent_is covers q found is = ap parent_told is ∙ sym (of_leader (get covers q)) ∙ ap parent_of (sym (get_bare covers q))

same_parent : (finds : Finds) (secret : List ℕ) (c : Option Covered) (p : Option Partition) → IsCoveredAt finds secret c p → parent_of (option_map bare c) ≡ parent_of p
same_parent finds secret (Some c) (Some p) is = ap Some is.parent
same_parent finds secret (Some c) None is = absurd is
same_parent finds secret None (Some p) is = absurd is
same_parent finds secret None None is = refl

same_parents : (finds : Finds) (secret : List ℕ) (covers : Covers) (state : State) → IsCovering finds secret covers state → HaveSameParents (bare_state covers) state
same_parents finds secret covers state is q = ap parent_of (get_bare covers q) ∙ same_parent finds secret (get covers q) (get state q) (is q)

pub check_covered : (finds : Finds) (secret : List ℕ) (covers : Covers) (state : State) (changes : List Change) → IsCovering finds secret covers state
    → check (bare_state covers) changes ≡ check state changes
check_covered finds secret covers state changes is = first_refusal-HaveSameParents [] (bare_state covers) state changes (same_parents finds secret covers state is)
