-- A written piece stands at its place, and a write changes nothing else.
use Rattle.std.proofs.Common.{◌≡◌, ⊎_elim, ℕ, ◌+◌, ◌-◌, ◌<◌, ◌≤◌, List, ◌++◌, length, take, drop, get_or, refl, sym, ◌∙◌, ap, arith}
use Rattle.std.proofs.lemmas.List.{length-append, length-take, length-drop, length-replicate, get_or_append_left}
use Rattle.std.proofs.lemmas.List.{get_or-append-add, get_or-drop}
use Rattle.std.proofs.lemmas.Grind.{elements}
use Rattle.std.specs.Prelude.{replicate}
use Rattle.tdb_platform.specs.Image.{Holds, SameExcept, overwritten, written_over}

pub same_itself : (at n : ℕ) (image : List ℕ) → SameExcept at n image image
same_itself at n image = record { bytes = λ k away within. refl; no_shorter = omega arith; no_longer = omega arith }

-- what stands in front of the piece: the old bytes, and one byte all over past their end
front : ℕ → List ℕ → ℕ → List ℕ
front gap image at = take at image ++ replicate (at - length image) gap

length-front : (gap : ℕ) (image : List ℕ) (at : ℕ) → length (front gap image at) ≡ at
unfolding front
length-front gap image at = omega (
  arith,
  length-append (take at image) (replicate (at - length image) gap),
  length-take at image,
  length-replicate {A = ℕ} (at - length image) gap,
)

get_or-front : (gap : ℕ) (image : List ℕ) (at k : ℕ) → k < at → k < length image → get_or (front gap image at) k 0 ≡ get_or image k 0
unfolding front
get_or-front gap image at k before within = grind (arith, elements)

module _ (gap : ℕ) (image : List ℕ) (at : ℕ) (piece : List ℕ) where
  rest : List ℕ
  rest = drop (at + length piece) image

  length-to_rest : length (front gap image at ++ piece) ≡ at + length piece
  length-to_rest = omega (arith, length-append (front gap image at) piece, length-front gap image at)

  written_over_holds : Holds (written_over gap image at piece) at piece
  unfolding front rest
  written_over_holds = record {
    within = omega (arith, length-append (front gap image at ++ piece) rest, length-to_rest);
    bytes = λ k within.
        get_or_append_left (front gap image at ++ piece) rest 0 (at + k) (omega (arith, length-to_rest))
        ∙ ap (λ (n : ℕ). get_or (front gap image at ++ piece) (n + k) 0) (sym (length-front gap image at))
        ∙ get_or-append-add (front gap image at) piece k 0;
  }

  length-written_over : length (written_over gap image at piece) ≡ at + length piece + (length image - (at + length piece))
  unfolding front rest
  length-written_over = omega (
    arith,
    length-append (front gap image at ++ piece) rest,
    length-to_rest,
    length-drop (at + length piece) image,
  )

  before_piece : (k : ℕ) → k < length image → k < at → get_or (written_over gap image at piece) k 0 ≡ get_or image k 0
  unfolding front rest
  before_piece k within before =
      get_or_append_left (front gap image at ++ piece) rest 0 k (omega (arith, length-to_rest))
      ∙ get_or_append_left (front gap image at) piece 0 k (omega (arith, length-front gap image at))
      ∙ get_or-front gap image at k before within

  behind_piece : (k : ℕ) → k < length image → at + length piece ≤ k → get_or (written_over gap image at piece) k 0 ≡ get_or image k 0
  unfolding front rest
  behind_piece k within behind =
      let place : k ≡ length (front gap image at ++ piece) + (k - (at + length piece)) = omega (arith, length-to_rest) in
      ap (λ (n : ℕ). get_or (written_over gap image at piece) n 0) place
      ∙ get_or-append-add (front gap image at ++ piece) rest (k - (at + length piece)) 0
      ∙ get_or-drop (at + length piece) image (k - (at + length piece)) 0
      ∙ ap (λ (n : ℕ). get_or image n 0) (omega arith)

  pub written_over_same : SameExcept at (length piece) image (written_over gap image at piece)
  written_over_same = record {
    bytes = λ k away within. ⊎_elim (before_piece k within) (behind_piece k within) away;
    no_shorter = omega (arith, length-written_over);
    no_longer = omega (arith, length-written_over);
  }

pub overwritten_holds : (image : List ℕ) (at : ℕ) (piece : List ℕ) → Holds (overwritten image at piece) at piece
overwritten_holds image at piece = written_over_holds 0 image at piece

pub overwritten_same : (image : List ℕ) (at : ℕ) (piece : List ℕ) → SameExcept at (length piece) image (overwritten image at piece)
overwritten_same image at piece = written_over_same 0 image at piece
