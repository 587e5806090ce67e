-- Bytes that were taken in one call after another.
use Rattle.std.proofs.Common.{◌≡◌, ℕ, ◌-◌, List, ◌++◌, length, take, sym, ◌∙◌, ap, append_assoc, arith, length-append}
use Rattle.tdb_stream.specs.SourceContent.{SourceContent, Takes, taken}
use Rattle.std.proofs.lemmas.List.{take_at}

-- what two spans of calls took, one after the other
pub Takes-append : (a b c : SourceContent) (x y : List ℕ) → Takes a b x → Takes b c y → Takes a c (x ++ y)
Takes-append a b c x y first then_ = first ∙ ap (λ (l : List ℕ). x ++ l) then_ ∙ sym (append_assoc x y c.rest)

-- the bytes taken are determined by the two rests
pub taken-Takes : (a b : SourceContent) (x : List ℕ) → Takes a b x → taken a b ≡ x
taken-Takes a b x h =
    let count : length x ≡ length a.rest - length b.rest = omega (arith, ap length h, length-append x b.rest) in
    ap (λ (l : List ℕ). take (length a.rest - length b.rest) l) h ∙ take_at x b.rest (length a.rest - length b.rest) count
