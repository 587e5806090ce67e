-- The check, change by change.
use Rattle.std.proofs.Common.{◌≡◌, ℕ, zero, suc, ◌+◌, ◌<◌, ◌==◌, Bool, true, false, cond, List, [], ◌∷◌, ◌++◌, length, get_or, take, drop, Option, Some, None, is_some, refl, sym, ◌∙◌, ap, append_assoc, drop-cons, arith}
use Rattle.std.proofs.lemmas.Bool.{both_ways}
use Rattle.std.proofs.lemmas.List.{take_more, take-append-drop}
use Rattle.std.specs.Cmp.{nat_cmp_total, unsigned_ties, eq_by_cmp_equiv}
use Rattle.std.specs.FinMap.{get}
use Rattle.std.specs.Option.{option_or, option_map}
use Rattle.tdb_model.specs.Apply.{apply, apply_all}
use Rattle.tdb_model.specs.Check.{refusal, first_refusal, check}
use Rattle.tdb_model.specs.Lookup.{parent_at}
use Rattle.tdb_model.specs.Memory.{IsRankInRange, parent_behind}
use Rattle.tdb_model.specs.State.{State}
use Rattle.tdb_model.specs.declared.change.Change.{Change}
use Rattle.tdb_model.specs.declared.change.Change.TheVariants.{Write, Free, Make, Copy, Drop}
use Rattle.tdb_model.specs.declared.error.CommitError.{CommitError}
use Rattle.tdb_model.proofs.ParentLemmas.{parent_at-apply, is_there-parent}
use Rattle.tdb_model.proofs.RangeLemmas.{option_or_none, write_in_range, copy_in_range}

nothing_behind : (earlier : List Change) → earlier ++ [] ≡ earlier
nothing_behind [] = refl
nothing_behind (change ∷ later) = ap (λ (xs : List Change). change ∷ xs) (nothing_behind later)

or_assoc : (a b c : Option CommitError) → option_or a (option_or b c) ≡ option_or (option_or a b) c
or_assoc None b c = refl
or_assoc (Some e) b c = refl

-- The first changes are refused first, and the others against the state after them.
pub first_refusal-append : (earlier : List Change) (state : State) (first later : List Change)
    → first_refusal earlier state (first ++ later) ≡ option_or (first_refusal earlier state first) (first_refusal (earlier ++ first) (apply_all 0 state first) later)
first_refusal-append earlier state [] later = ap (λ (xs : List Change). first_refusal xs state later) (sym (nothing_behind earlier))
first_refusal-append earlier state (change ∷ first) later =
    ap (option_or (refusal earlier state change)) (first_refusal-append (earlier ++ change ∷ []) (apply 0 state change) first later
    ∙ ap (λ (xs : List Change). option_or (first_refusal (earlier ++ change ∷ []) (apply 0 state change) first) (first_refusal xs (apply_all 0 (apply 0 state change) first) later)) (append_assoc earlier (change ∷ []) first))
    ∙ or_assoc (refusal earlier state change) _ _

pub apply_all-push : (count : ℕ) (state : State) (changes : List Change) (change : Change) → apply_all count state (changes ++ change ∷ []) ≡ apply count (apply_all count state changes) change
apply_all-push count state [] change = refl
apply_all-push count state (first ∷ later) change = apply_all-push count (apply count state first) later change

-- What passes writes at ranks that there are.
rank_in_range : (earlier : List Change) (state : State) (change : Change) → refusal earlier state change ≡ None → IsRankInRange change
rank_in_range earlier state (Write part rank bytes) passes = (write_in_range earlier state part rank bytes passes).1
rank_in_range earlier state (Free part rank) passes = tt
rank_in_range earlier state (Make part suite) passes = tt
rank_in_range earlier state (Copy from to) passes = tt
rank_in_range earlier state (Drop part) passes = tt

pub ranks_in_range : (earlier : List Change) (state : State) (changes : List Change) (d : Change) → first_refusal earlier state changes ≡ None → (i : ℕ) → i < length changes → IsRankInRange (get_or changes i d)
ranks_in_range earlier state [] d passes i below = absurd (omega arith)
ranks_in_range earlier state (change ∷ later) d passes zero below = rank_in_range earlier state change (option_or_none (refusal earlier state change) _ passes).0
ranks_in_range earlier state (change ∷ later) d passes (suc i) below =
    ranks_in_range (earlier ++ change ∷ []) (apply 0 state change) later d (option_or_none (refusal earlier state change) _ passes).1 i (omega arith)

take_next : (changes : List Change) (i : ℕ) (change : Change) → i < length changes → change ≡ get_or changes i change → take (i + 1) changes ≡ take i changes ++ change ∷ []
take_next changes i change below is = take_more changes i change below ∙ ap (λ (x : Change). take i changes ++ x ∷ []) (sym is)

-- one change more, as at a step of a loop
pub apply_all-next : (count : ℕ) (state : State) (changes : List Change) (i : ℕ) (change : Change) → i < length changes → change ≡ get_or changes i change
    → apply count (apply_all count state (take i changes)) change ≡ apply_all count state (take (i + 1) changes)
apply_all-next count state changes i change below is =
    sym (apply_all-push count state (take i changes) change) ∙ ap (apply_all count state) (sym (take_next changes i change below is))

-- Each change of a list that passes does so by itself, behind those before it.
passes_behind : (earlier : List Change) (state : State) (changes : List Change) (d : Change) → first_refusal earlier state changes ≡ None → (i : ℕ) → i < length changes
    → refusal (earlier ++ take i changes) (apply_all 0 state (take i changes)) (get_or changes i d) ≡ None
passes_behind earlier state [] d passes i below = absurd (omega arith)
passes_behind earlier state (change ∷ later) d passes zero below =
    ap (λ (xs : List Change). refusal xs state change) (nothing_behind earlier) ∙ (option_or_none (refusal earlier state change) _ passes).0
passes_behind earlier state (change ∷ later) d passes (suc i) below =
    ap (λ (xs : List Change). refusal xs (apply_all 0 (apply 0 state change) (take i later)) (get_or later i d)) (sym (append_assoc earlier (change ∷ []) (take i later)))
    ∙ passes_behind (earlier ++ change ∷ []) (apply 0 state change) later d (option_or_none (refusal earlier state change) _ passes).1 i (omega arith)

pub passes_at : (state : State) (changes : List Change) (i : ℕ) (change : Change) → check state changes ≡ None → i < length changes → change ≡ get_or changes i change
    → refusal (take i changes) (apply_all 0 state (take i changes)) change ≡ None
passes_at state changes i change passes below is =
    ap (refusal (take i changes) (apply_all 0 state (take i changes))) is ∙ passes_behind [] state changes change passes i below

-- those before it and it
pub passes_next : (state : State) (changes : List Change) (i : ℕ) (change : Change) → check state (take i changes) ≡ None → i < length changes → change ≡ get_or changes i change
    → refusal (take i changes) (apply_all 0 state (take i changes)) change ≡ None → check state (take (i + 1) changes) ≡ None
passes_next state changes i change passes below is passed =
    ap (check state) (take_next changes i change below is)
    ∙ first_refusal-append [] state (take i changes) (change ∷ [])
    ∙ ap (λ (o : Option CommitError). option_or o (first_refusal (take i changes) (apply_all 0 state (take i changes)) (change ∷ []))) passes
    ∙ ap (λ (o : Option CommitError). option_or o None) passed

-- The first one that is refused decides.
pub refused_at : (state : State) (changes : List Change) (i : ℕ) (change : Change) (error : CommitError) → check state (take i changes) ≡ None → i < length changes → change ≡ get_or changes i change
    → refusal (take i changes) (apply_all 0 state (take i changes)) change ≡ Some error → check state changes ≡ Some error
refused_at state changes i change error passes below is refused =
    ap (check state) (sym (take-append-drop i changes) ∙ ap (λ (xs : List Change). take i changes ++ xs) (drop-cons changes i change below ∙ ap (λ (x : Change). x ∷ drop (suc i) changes) (sym is)))
    ∙ first_refusal-append [] state (take i changes) (change ∷ drop (suc i) changes)
    ∙ ap (λ (o : Option CommitError). option_or o (first_refusal (take i changes) (apply_all 0 state (take i changes)) (change ∷ drop (suc i) changes))) passes
    ∙ ap (λ (o : Option CommitError). option_or o (first_refusal (take i changes ++ change ∷ []) (apply 0 (apply_all 0 state (take i changes)) change) (drop (suc i) changes))) refused

turned : (a b : ℕ) → (a == b) ≡ (b == a)
turned a b = unsigned_ties a b ∙ (eq_by_cmp_equiv nat_cmp_total).symm a b ∙ sym (unsigned_ties b a)

source_there : (from : ℕ) (found parent : Option ℕ) → is_some found ≡ true → option_or (option_map (λ _. from) found) parent ≡ Some from
source_there from None parent is = absurd (both_ways false refl is)
source_there from (Some p) parent is = refl

pub parent_at-passed : (earlier : List Change) (state : State) (change : Change) (q : ℕ) → refusal earlier state change ≡ None → parent_at (apply 0 state change) q ≡ parent_behind change q (parent_at state q)
parent_at-passed earlier state (Write part rank bytes) q passes = parent_at-apply 0 state (Write part rank bytes) q
parent_at-passed earlier state (Free part rank) q passes = parent_at-apply 0 state (Free part rank) q
parent_at-passed earlier state (Make part suite) q passes = parent_at-apply 0 state (Make part suite) q ∙ ap (λ (b : Bool). cond b (Some 0) (parent_at state q)) (turned q part.0)
parent_at-passed earlier state (Copy from to) q passes =
    let there = (copy_in_range earlier state from to passes).3 in
    parent_at-apply 0 state (Copy from to) q
    ∙ ap (λ (b : Bool). cond b (option_or (option_map (λ _. from.0) (parent_at state from.0)) (parent_at state q)) (parent_at state q)) (turned q to.0)
    ∙ ap (λ (o : Option ℕ). cond (to.0 == q) o (parent_at state q)) (source_there from.0 (parent_at state from.0) (parent_at state q) (sym (is_there-parent (get state from.0)) ∙ there))
parent_at-passed earlier state (Drop part) q passes = parent_at-apply 0 state (Drop part) q ∙ ap (λ (b : Bool). cond b None (parent_at state q)) (turned q part.0)

-- the parent of a partition after one change more of a list that passes
pub parent_at-next : (state : State) (changes : List Change) (i : ℕ) (change : Change) (q : ℕ) → check state changes ≡ None → i < length changes → change ≡ get_or changes i change
    → parent_behind change q (parent_at (apply_all 0 state (take i changes)) q) ≡ parent_at (apply_all 0 state (take (i + 1) changes)) q
parent_at-next state changes i change q passes below is =
    sym (parent_at-passed (take i changes) (apply_all 0 state (take i changes)) change q (passes_at state changes i change passes below is))
    ∙ ap (λ (s : State). parent_at s q) (apply_all-next 0 state changes i change below is)
