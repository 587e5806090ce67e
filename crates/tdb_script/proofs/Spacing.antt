-- Numbers that are written one after another.
use Rattle.std.proofs.Common.{◌≡◌, ◌+◌, ◌<◌, List, [], ◌∷◌, ◌++◌, ℕ, decimal, get_or, length, take, sym, ◌∙◌, ap, append_assoc, append-nil}
use Rattle.std.proofs.lemmas.List.{take_more}
use Rattle.tdb_base.specs.declared.names.PartId.{PartId}
use Rattle.tdb_script.specs.ReplySpelling.{spaced}

-- one number more
spaced_more : (parts : List PartId) (part : PartId) → spaced (parts ++ part ∷ []) ≡ spaced parts ++ (32 ∷ decimal part.0)
spaced_more [] part = append-nil (32 ∷ decimal part.0)
spaced_more (p ∷ parts) part =
    ap (λ (l : List ℕ). (32 ∷ decimal p.0) ++ l) (spaced_more parts part)
    ∙ sym (append_assoc (32 ∷ decimal p.0) (spaced parts) (32 ∷ decimal part.0))

-- the number at a place
pub spaced_at : (parts : List PartId) (i : ℕ) (other : PartId) → i < length parts
    → spaced (take (i + 1) parts) ≡ spaced (take i parts) ++ (32 ∷ decimal (get_or parts i other).0)
spaced_at parts i other within = ap spaced (take_more parts i other within) ∙ spaced_more (take i parts) (get_or parts i other)
