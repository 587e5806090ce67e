-- A list by its elements.
use Rattle.std.proofs.Common.{◌≡◌, ℕ, zero, suc, ◌+◌, List, [], ◌∷◌, length, get_or, drop, ap, ◌∙◌, arith}
use Rattle.std.proofs.Math.Seq.{drop-cons}
use Rattle.std.proofs.lemmas.List.{length-drop, nil_from_length}

-- the n elements of s from place i on
abbrev pub elements_from : List ℕ → ℕ → ℕ → List ℕ
elements_from s i zero = []
elements_from s i (suc n) = get_or s i 0 ∷ elements_from s (suc i) n

pub drop-elements_from : (s : List ℕ) (i n : ℕ) → length s ≡ i + n → drop i s ≡ elements_from s i n
drop-elements_from s i zero e = nil_from_length (drop i s) (omega (arith, length-drop i s))
drop-elements_from s i (suc n) e =
    drop-cons s i 0 (omega arith) ∙ ap (λ rest. get_or s i 0 ∷ rest) (drop-elements_from s (suc i) n (omega arith))

-- a list of length 16
pub sixteen : (s : List ℕ) → length s ≡ 16 → s ≡ elements_from s 0 16
sixteen s e = drop-elements_from s 0 16 e
