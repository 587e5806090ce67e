-- Lists of ranks that ascend, taken one after another.
use Rattle.std.proofs.Common.{◌≡◌, ◌⊎◌, inl, inr, ℕ, zero, suc, ◌+◌, ◌<◌, ◌≤◌, nat_eq, Bool, true, false, cond, [], ◌∷◌, ◌++◌, length, get_or, take, Option, None, Some, refl, sym, ◌∙◌, ap, subst, arith}
use Rattle.std.proofs.lemmas.Bool.Decides.{nat_tests}
use Rattle.std.proofs.lemmas.List.{take_more}
use Rattle.tdb_base.specs.declared.names.Rank.{Rank}
use Rattle.tdb_base.specs.declared.piece.Piece.{Piece}
use Rattle.tdb_map.specs.Walk.{Ascends, Listed, listed}

-- what stands for the entry at a place that a list doesn't have
abbrev pub no_entry : Rank × Piece
no_entry = (record { 0 = 0 }, record { place = record { 0 = 0 }; length = 0; digest = record { 0 = [] } })

pub ascends_few : (from to : ℕ) (es : Listed) → Ascends from to es → from + length es ≤ to
ascends_few from to [] is = omega (arith, is)
ascends_few from to (e ∷ es) is = let rest = ascends_few (e.0.0 + 1) to es is.1 in omega (arith, rest, is.0)

tests_same : (a b : ℕ) → a ≡ b → nat_eq a b ≡ true
tests_same a b same = grind (arith, nat_tests)

tests_other : (a b : ℕ) → (a ≡ b → ⊥) → nat_eq a b ≡ false
tests_other a b other = grind (arith, nat_tests)

-- the first entry of a list
listed_here : (e : Rank × Piece) (es : Listed) (rank : ℕ) → rank ≡ e.0.0 → listed (e ∷ es) rank ≡ Some e.1
listed_here e es rank same = ap (λ (b : Bool). cond b (Some e.1) (listed es rank)) (tests_same rank e.0.0 same)

listed_later : (e : Rank × Piece) (es : Listed) (rank : ℕ) → (rank ≡ e.0.0 → ⊥) → listed (e ∷ es) rank ≡ listed es rank
listed_later e es rank other = ap (λ (b : Bool). cond b (Some e.1) (listed es rank)) (tests_other rank e.0.0 other)

-- There is none below the first rank, and none from the last on.
pub listed_below : (from to : ℕ) (es : Listed) → Ascends from to es → (rank : ℕ) → rank < from → listed es rank ≡ None
listed_below from to [] is rank below = refl
listed_below from to (e ∷ es) is rank below =
    listed_later e es rank (λ same. omega (arith, same, below, is.0)) ∙ listed_below (e.0.0 + 1) to es is.1 rank (omega (arith, below, is.0))

pub listed_above : (from to : ℕ) (es : Listed) → Ascends from to es → (rank : ℕ) → to ≤ rank → listed es rank ≡ None
listed_above from to [] is rank above = refl
listed_above from to (e ∷ es) is rank above =
    let few = ascends_few (e.0.0 + 1) to es is.1 in
    listed_later e es rank (λ same. omega (arith, same, above, few)) ∙ listed_above (e.0.0 + 1) to es is.1 rank above

-- the entry at a place
pub listed_at : (from to : ℕ) (es : Listed) → Ascends from to es → (i : ℕ) (d : Rank × Piece) → i < length es
    → (from ≤ (get_or es i d).0.0) × (listed es (get_or es i d).0.0 ≡ Some (get_or es i d).1)
listed_at from to [] is i d below = absurd (omega (arith, below))
listed_at from to (e ∷ es) is zero d below = (is.0, listed_here e es e.0.0 refl)
listed_at from to (e ∷ es) is (suc i) d below =
    let rest = listed_at (e.0.0 + 1) to es is.1 i d (omega (arith, below)) in
    (omega (arith, rest.0, is.0), listed_later e es (get_or es i d).0.0 (λ same. omega (arith, same, rest.0)) ∙ rest.1)

-- the entry at a place has a rank from the first one on and before the last
pub entry_within : (from to : ℕ) (es : Listed) → Ascends from to es → (i : ℕ) (d : Rank × Piece) → i < length es
    → (from ≤ (get_or es i d).0.0) × ((get_or es i d).0.0 < to)
entry_within from to [] is i d below = absurd (omega (arith, below))
entry_within from to (e ∷ es) is zero d below = let few = ascends_few (e.0.0 + 1) to es is.1 in (is.0, omega (arith, few))
entry_within from to (e ∷ es) is (suc i) d below =
    let rest = entry_within (e.0.0 + 1) to es is.1 i d (omega (arith, below)) in
    (omega (arith, rest.0, is.0), rest.1)

-- one entry more
listed_push : (es : Listed) (e : Rank × Piece) (rank : ℕ) → (rank ≡ e.0.0 → ⊥) → listed (es ++ e ∷ []) rank ≡ listed es rank
listed_push [] e rank other = listed_later e [] rank other
listed_push (x ∷ es) e rank other = ap (λ (o : Option Piece). cond (nat_eq rank x.0.0) (Some x.1) o) (listed_push es e rank other)

listed_first : (from to : ℕ) (es : Listed) → Ascends from to es → (i : ℕ) (d : Rank × Piece) → i < length es
    → listed (take i es ++ get_or es i d ∷ []) (get_or es i d).0.0 ≡ Some (get_or es i d).1
listed_first from to [] is i d below = absurd (omega (arith, below))
listed_first from to (e ∷ es) is zero d below = listed_here e [] e.0.0 refl
listed_first from to (e ∷ es) is (suc i) d below =
    let rest = listed_at (e.0.0 + 1) to es is.1 i d (omega (arith, below)) in
    listed_later e (take i es ++ get_or es i d ∷ []) (get_or es i d).0.0 (λ same. omega (arith, same, rest.0))
    ∙ listed_first (e.0.0 + 1) to es is.1 i d (omega (arith, below))

pub listed_next : (from to : ℕ) (es : Listed) → Ascends from to es → (i : ℕ) (d : Rank × Piece) → i < length es → (rank : ℕ)
    → ((rank ≡ (get_or es i d).0.0) × (listed (take (i + 1) es) rank ≡ Some (get_or es i d).1))
    ⊎ ((rank ≡ (get_or es i d).0.0 → ⊥) × (listed (take (i + 1) es) rank ≡ listed (take i es) rank))
listed_next from to es is i d below rank =
    let e = get_or es i d in
    let more = ap (λ (l : Listed). listed l rank) (take_more es i d below) in
    elim (nat_eq rank e.0.0) as (λ (b : Bool). nat_eq rank e.0.0 ≡ b → ((rank ≡ e.0.0) × (listed (take (i + 1) es) rank ≡ Some e.1)) ⊎ ((rank ≡ e.0.0 → ⊥) × (listed (take (i + 1) es) rank ≡ listed (take i es) rank))) [
      | true ↦ λ is_it.
          let same : rank ≡ e.0.0 = grind (arith, nat_tests, is_it) in
          inl (same, more ∙ ap (λ (r : ℕ). listed (take i es ++ e ∷ []) r) same ∙ listed_first from to es is i d below)
      | false ↦ λ isnt.
          let other : rank ≡ e.0.0 → ⊥ = λ same. absurd (cc (sym isnt ∙ tests_same rank e.0.0 same)) in
          inr (other, more ∙ listed_push (take i es) e rank other)
    ] refl

-- a first entry of rank 0 is listed there
pub zero_listed : (from to : ℕ) (es : Listed) → Ascends from to es → (e : Rank × Piece) → 0 < length es → e ≡ get_or es 0 e → e.0.0 ≡ 0
    → listed es 0 ≡ Some e.1
zero_listed from to es ascends e some first zero_rank =
    let here : listed es e.0.0 ≡ Some e.1 = subst (λ (x : Rank × Piece). listed es x.0.0 ≡ Some x.1) (sym first) (listed_at from to es ascends 0 e some).1 in
    subst (λ (r : ℕ). listed es r ≡ Some e.1) zero_rank here
