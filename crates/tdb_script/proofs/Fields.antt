-- Fields that single spaces separate.
use Rattle.std.proofs.Common.{◌≡◌, ◌≢◌, ℕ, suc, ◌+◌, ◌<◌, ◌^◌, Bool, true, false, not, cond, eqb, List, [], ◌∷◌, ◌++◌, length, get_or, take, drop, Option, Some, None, All, decimal, refl, sym, ◌∙◌, ap, arith}
use Rattle.std.specs.List.{position, prefix_len}
use Rattle.std.specs.Int.{IsInRange}
use Rattle.std.specs.Str.Parse.{digits_value}
use Rattle.std.proofs.lemmas.Bool.{eqb-true, eqb-false, lt-ltb}
use Rattle.std.proofs.lemmas.List.{take-append-drop, drop_more, get_or-take, length-take-le}
use Rattle.std.proofs.lemmas.List.Elements.{All-head, All-tail, All-from_get_or}
use Rattle.std.proofs.lemmas.List.Quantifiers.{position-Some}
use Rattle.std.proofs.lemmas.Str.Parse.{IsNumeralModel, numerals_by_value, tells_by_index}
use Rattle.std.proofs.lemmas.Fmt.{digits_decimal}

abbrev pub HasNoSpace : List ℕ → Type 0
HasNoSpace = All (λ byte. byte ≢ 32)

by_digits : IsNumeralModel (λ ds. (i : ℕ) → i < length ds → IsInRange 48 57 (get_or ds i 0)) (digits_value 10)
by_digits = numerals_by_value _ tells_by_index

-- a number has no space
pub decimal_has_no_space : (n : ℕ) → n < 2 ^ 64 → HasNoSpace (decimal n)
decimal_has_no_space n small =
    All-from_get_or (λ byte. byte ≢ 32) (decimal n) 0 (λ i lt e. let digit = digits_decimal by_digits n small i lt in absurd (omega (arith, digit, e)))

-- the first field and the rest are determined
pub same_fields : (a b x y : List ℕ) → HasNoSpace a → HasNoSpace b → a ++ 32 ∷ x ≡ b ++ 32 ∷ y → (a ≡ b) × (x ≡ y)
same_fields [] [] x y _ _ e = (refl, ap (λ (l : List ℕ). drop 1 l) e)
same_fields [] (c ∷ b) x y _ none e = absurd (All-head (λ byte. byte ≢ 32) c b none (sym (ap (λ (l : List ℕ). get_or l 0 0) e)))
same_fields (c ∷ a) [] x y none _ e = absurd (All-head (λ byte. byte ≢ 32) c a none (ap (λ (l : List ℕ). get_or l 0 0) e))
same_fields (c ∷ a) (d ∷ b) x y none none' e =
    let rest = same_fields a b x y (All-tail (λ byte. byte ≢ 32) c a none) (All-tail (λ byte. byte ≢ 32) d b none') (ap (λ (l : List ℕ). drop 1 l) e) in
    let head : c ≡ d = ap (λ (l : List ℕ). get_or l 0 0) e in
    (cc (head, rest.0), rest.1)

-- the place of the first space splits the fields
pub split_at_space : (fields : List ℕ) (i : ℕ) → position (λ byte. eqb byte 32) fields ≡ Some i → HasNoSpace (take i fields) × (fields ≡ take i fields ++ 32 ∷ drop (i + 1) fields)
split_at_space fields i is =
    let at = position-Some (λ byte. eqb byte 32) fields i 0 is in
    let space : get_or fields i 0 ≡ 32 = eqb-true _ _ at.1 in (
      All-from_get_or (λ byte. byte ≢ 32) (take i fields) 0 (λ k lt e.
          let below : k < i = omega (arith, lt, length-take-le i fields (omega (arith, at.0))) in
          eqb-false _ _ (at.2 k below) (sym (get_or-take i fields k 0 below) ∙ e)),
      sym (take-append-drop i fields) ∙ ap (λ (l : List ℕ). take i fields ++ l) (drop_more fields i 0 at.0 ∙ ap (λ (b : ℕ). b ∷ drop (i + 1) fields) space),
    )

first_below : (field rest : List ℕ) → prefix_len (λ byte. not (eqb byte 32)) (field ++ 32 ∷ rest) < length (field ++ 32 ∷ rest)
first_below [] rest = omega arith
first_below (b ∷ field) rest =
    let below = first_below field rest in
    elim (eqb b 32) as (λ v. cond (not v) (1 + prefix_len (λ byte. not (eqb byte 32)) (field ++ 32 ∷ rest)) 0 < suc (length (field ++ 32 ∷ rest))) [ true ↦ omega arith | false ↦ omega (arith, below) ]

-- where a space stands, the first one has a place
pub space_has_place : (fields field rest : List ℕ) → fields ≡ field ++ 32 ∷ rest → position (λ byte. eqb byte 32) fields ≡ None → ⊥
space_has_place fields field rest is none =
    let p : List ℕ → Option ℕ = position (λ byte. eqb byte 32) in
    let found : p (field ++ 32 ∷ rest) ≡ Some (prefix_len (λ byte. not (eqb byte 32)) (field ++ 32 ∷ rest)) =
    ap (λ (v : Bool). cond v (Some (prefix_len (λ byte. not (eqb byte 32)) (field ++ 32 ∷ rest))) None) (lt-ltb _ _ (first_below field rest)) in
    absurd (cc (sym found, sym (ap p is), none))
