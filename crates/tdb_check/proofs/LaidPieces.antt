-- Pieces that are laid stand apart from one another, and from what was placed before.
use Rattle.std.proofs.Common.{◌≡◌, ◌⊎◌, inl, inr, ℕ, suc, ◌+◌, ◌≤◌, List, [], ◌∷◌, length, sym, ◌∙◌, ap, subst, arith}
use Rattle.std.specs.Prelude.{All, AllPairs}
use Rattle.std.specs.List.{AllByRecursion}
use Rattle.sha2.specs.Sha256.{sha256}
use Rattle.tdb_append.specs.Placed.{IsApart, Placed}
use Rattle.tdb_base.specs.declared.piece.Piece.{Piece}
use Rattle.tdb_base.specs.declared.piece.Place.{Place}
use Rattle.tdb_seg.specs.SegmentSpace.{IsPlacedIn, SegmentSpace}
use Rattle.tdb_overlay.specs.LaidOut.{LaidOut}
use Rattle.tdb_overlay.specs.LaidPieces.{IsLaidPiece, IsOneOf}
use Rattle.tdb_overlay.proofs.Listed.{all_listed, one_of_all}
use Rattle.tdb_overlay.proofs.PlacedLogs.{IsIn}

pairs_head : {X : Type 0} (R : X → X → Type 0) (x : X) (xs : List X) → AllPairs R (x ∷ xs) → All (R x) xs
pairs_head R x xs pairs k d within = pairs 0 (suc k) d (omega arith) (omega (arith, within))

pairs_tail : {X : Type 0} (R : X → X → Type 0) (x : X) (xs : List X) → AllPairs R (x ∷ xs) → AllPairs R xs
pairs_tail R x xs pairs i j d before within = pairs (suc i) (suc j) d (omega (arith, before)) (omega (arith, within))

-- the bytes have a length
abbrev HasSome : ℕ → List ℕ → Type 0
HasSome place bytes = 1 ≤ length bytes

one_piece : (place other : ℕ) (a b : List ℕ) → 1 ≤ length a → 1 ≤ length b → place ≡ other
    → (place + length a ≤ other) ⊎ (other + length b ≤ place) → ⊥
one_piece place other a b some_a some_b same (inl before) = absurd (omega (arith, some_a, same, before))
one_piece place other a b some_a some_b same (inr behind) = absurd (omega (arith, some_b, same, behind))

-- At one place there is one list of bytes.
one_at : (ps : List Placed) → AllByRecursion (λ p. HasSome p.place p.bytes) ps → AllPairs IsApart ps → (place : ℕ) (a b : List ℕ)
    → IsOneOf ps place a → IsOneOf ps place b → a ≡ b
one_at [] some pairs place a b is also = absurd is
one_at (p ∷ ps) some pairs place a b (inl is) (inl also) = sym is.1 ∙ also.1
one_at (p ∷ ps) some pairs place a b (inl is) (inr also) =
    let apart = one_of_all (λ (at : ℕ) (bytes : List ℕ). (p.place + length p.bytes ≤ at) ⊎ (at + length bytes ≤ p.place)) ps place b
    (all_listed (IsApart p) ps (pairs_head IsApart p ps pairs)) also in
    absurd (one_piece p.place place p.bytes b some.0 (one_of_all HasSome ps place b some.1 also) is.0 apart)
one_at (p ∷ ps) some pairs place a b (inr is) (inl also) =
    let apart = one_of_all (λ (at : ℕ) (bytes : List ℕ). (p.place + length p.bytes ≤ at) ⊎ (at + length bytes ≤ p.place)) ps place a
    (all_listed (IsApart p) ps (pairs_head IsApart p ps pairs)) is in
    absurd (one_piece p.place place p.bytes a some.0 (one_of_all HasSome ps place a some.1 is) also.0 apart)
one_at (p ∷ ps) some pairs place a b (inr is) (inr also) = one_at ps some.1 (pairs_tail IsApart p ps pairs) place a b is also

same_piece : (p q : Piece) → p.place ≡ q.place → p.length ≡ q.length → p.digest.0 ≡ q.digest.0 → p ≡ q
same_piece p q place size digest = λ i. record { place = place i; length = size i; digest = record { 0 = digest i } }

module _ (secret : List ℕ) (start space : SegmentSpace) (ps : List Placed) (laid : LaidOut secret start space ps) where
  some_bytes : AllByRecursion (λ p. HasSome p.place p.bytes) ps
  some_bytes = all_listed (λ (p : Placed). HasSome p.place p.bytes) ps (λ k d within. (laid.in_segments k d within).2.some)

  -- No two of them stand at one place.
  pub laid_apart : (p q : Piece) → IsLaidPiece ps p → IsLaidPiece ps q → p.place ≡ q.place → p ≡ q
  laid_apart p q a b same =
      let at : p.place.0 ≡ q.place.0 = ap (λ (r : Place). r.0) same in
      let also : IsOneOf ps p.place.0 b.0 = subst (λ (n : ℕ). IsOneOf ps n b.0) (sym at) b.1.1 in
      let bytes : a.0 ≡ b.0 = one_at ps some_bytes laid.apart p.place.0 a.0 b.0 a.1.1 also in
      same_piece p q same (a.1.2 ∙ ap length bytes ∙ sym b.1.2) (sym a.1.0 ∙ ap sha256 bytes ∙ b.1.0)

  -- None stands where something was placed.
  pub laid_elsewhere : (p old : Piece) → IsLaidPiece ps p → IsIn start old → p.place ≡ old.place → ⊥
  laid_elsewhere p old a is same =
      let at : p.place.0 ≡ old.place.0 = ap (λ (r : Place). r.0) same in
      let fresh = one_of_all
      (λ (place : ℕ) (bytes : List ℕ). (q m : ℕ) → IsPlacedIn start q m → (q + m ≤ place) ⊎ (place + length bytes ≤ q)) ps p.place.0 a.0
      (all_listed (λ (x : Placed). (q m : ℕ) → IsPlacedIn start q m → (q + m ≤ x.place) ⊎ (x.place + length x.bytes ≤ q)) ps laid.fresh)
      a.1.1 in
      let some : 1 ≤ length a.0 = one_of_all HasSome ps p.place.0 a.0 some_bytes a.1.1 in
      by at some (fresh old.place.0 old.length is)
    where
      by : p.place.0 ≡ old.place.0 → 1 ≤ length a.0 → (old.place.0 + old.length ≤ p.place.0) ⊎ (p.place.0 + length a.0 ≤ old.place.0) → ⊥
      by at some (inl before) = absurd (omega (arith, at, before, is.lies.some))
      by at some (inr behind) = absurd (omega (arith, at, behind, some))

  -- Each is placed.
  pub laid_placed : (p : Piece) → IsLaidPiece ps p → IsIn space p
  laid_placed p a =
      subst (λ (n : ℕ). IsPlacedIn space p.place.0 n) (sym a.1.2)
      (one_of_all (λ (place : ℕ) (bytes : List ℕ). IsPlacedIn space place (length bytes)) ps p.place.0 a.0
      (all_listed (λ (x : Placed). IsPlacedIn space x.place (length x.bytes)) ps laid.placed) a.1.1)
