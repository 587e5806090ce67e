-- A piece that is put into an image which was first made long enough.
use Rattle.std.proofs.Common.{◌≡◌, ℕ, ◌+◌, ◌-◌, ◌≤◌, List, ◌++◌, length, take, drop, max, ◌∙◌, ap, arith}
use Rattle.std.proofs.lemmas.List.{take_all, same_lists}
use Rattle.std.proofs.lemmas.Grind.{elements}
use Rattle.std.specs.Prelude.{replicate}
use Rattle.tdb_platform.specs.Image.{written_over}

-- the image, made n bytes long by one byte all over behind it
grown : ℕ → List ℕ → ℕ → List ℕ
grown gap image n = image ++ replicate (n - length image) gap

take-grown : (gap : ℕ) (image : List ℕ) (at n : ℕ) → at ≤ n → take at (grown gap image n) ≡ take at image ++ replicate (at - length image) gap
unfolding grown
take-grown gap image at n le = same_lists _ _ (grind (arith, elements)) (λ k d within. grind (arith, elements))

drop-grown : (gap : ℕ) (image : List ℕ) (end n : ℕ) → n ≡ max end (length image) → drop end (grown gap image n) ≡ drop end image
unfolding grown
drop-grown gap image end n is = same_lists _ _ (grind (arith, elements)) (λ k d within. grind (arith, elements))

pub put_is_written_over : (gap : ℕ) (image next : List ℕ) (at n len : ℕ) (piece : List ℕ) → len ≡ length image → n ≡ max (at + length piece) len → next ≡ take n image ++ replicate (n - len) gap
    → take at next ++ piece ++ drop (at + length piece) next ≡ written_over gap image at piece
put_is_written_over gap image next at n len piece len_is is made =
    let grown_is : next ≡ grown gap image n = unfold grown in made ∙ ap (λ (i : List ℕ). i ++ replicate (n - len) gap) (take_all n image (omega (arith, is, len_is))) ∙ ap (λ (m : ℕ). image ++ replicate (n - m) gap) len_is in
    ap (λ (i : List ℕ). take at i ++ piece ++ drop (at + length piece) i) grown_is
    ∙ ap (λ (i : List ℕ). i ++ piece ++ drop (at + length piece) (grown gap image n)) (take-grown gap image at n (omega (arith, is)))
    ∙ ap (λ (i : List ℕ). take at image ++ replicate (at - length image) gap ++ piece ++ i) (drop-grown gap image (at + length piece) n (omega (arith, is, len_is)))
