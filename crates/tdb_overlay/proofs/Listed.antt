-- What holds of each part of a list.
use Rattle.std.proofs.Common.{inl, inr, ℕ, List, [], ◌∷◌, ◌++◌, arith, subst}
use Rattle.std.specs.Prelude.{All}
use Rattle.std.specs.List.{AllByRecursion}
use Rattle.std.proofs.lemmas.List.Elements.{All-tail}
use Rattle.tdb_append.specs.Placed.{Placed}
use Rattle.tdb_overlay.specs.LaidPieces.{IsOneOf}

pub all_more : {X : Type 0} (P : X → Type 0) (xs : List X) (x : X) → AllByRecursion P xs → P x → AllByRecursion P (xs ++ x ∷ [])
all_more P [] x all is = (is, tt)
all_more P (y ∷ xs) x all is = (all.0, all_more P xs x all.1 is)

pub all_front : {X : Type 0} (P : X → Type 0) (xs ys : List X) → AllByRecursion P (xs ++ ys) → AllByRecursion P xs
all_front P [] ys all = tt
all_front P (x ∷ xs) ys all = (all.0, all_front P xs ys all.1)

pub all_at : {X : Type 0} (P : X → Type 0) (before : List X) (x : X) (after : List X) → AllByRecursion P (before ++ x ∷ after) → P x
all_at P [] x after all = all.0
all_at P (y ∷ before) x after all = all_at P before x after all.1

pub all_weaker : {X : Type 0} (P Q : X → Type 0) (xs : List X) → ((x : X) → P x → Q x) → AllByRecursion P xs → AllByRecursion Q xs
all_weaker P Q [] weaker all = tt
all_weaker P Q (x ∷ xs) weaker all = (weaker x all.0, all_weaker P Q xs weaker all.1)

pub all_listed : {X : Type 0} (P : X → Type 0) (xs : List X) → All P xs → AllByRecursion P xs
all_listed P [] all = tt
all_listed P (x ∷ xs) all = (all 0 x (omega arith), all_listed P xs (All-tail P x xs all))

-- of each laid piece
pub one_of_all : (P : ℕ → List ℕ → Type 0) (ps : List Placed) (place : ℕ) (bytes : List ℕ) → AllByRecursion (λ p. P p.place p.bytes) ps
    → IsOneOf ps place bytes → P place bytes
one_of_all P [] place bytes all is = absurd is
one_of_all P (p ∷ ps) place bytes all (inl here) = subst (λ (k : ℕ). P k bytes) here.0 (subst (λ (b : List ℕ). P p.place b) here.1 all.0)
one_of_all P (p ∷ ps) place bytes all (inr is) = one_of_all P ps place bytes all.1 is

pub one_of_front : (ps qs : List Placed) (place : ℕ) (bytes : List ℕ) → IsOneOf ps place bytes → IsOneOf (ps ++ qs) place bytes
one_of_front [] qs place bytes is = absurd is
one_of_front (p ∷ ps) qs place bytes (inl here) = inl here
one_of_front (p ∷ ps) qs place bytes (inr is) = inr (one_of_front ps qs place bytes is)
