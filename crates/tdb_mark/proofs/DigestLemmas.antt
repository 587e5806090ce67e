-- Which written piece has a digest.
use Rattle.std.proofs.Common.{◌≡◌, inl, inr, ℕ, Bool, true, false, cond, List, [], ◌∷◌, ◌++◌, Option, Some, refl, sym, ◌∙◌, ap}
use Rattle.std.specs.Str.{bytes_eq}
use Rattle.std.proofs.lemmas.Slice.Eq.{bytes_eq-Decides}
use Rattle.sha2.specs.Sha256.{sha256}
use Rattle.tdb_base.specs.Trace.{WrittenPiece}
use Rattle.tdb_mark.specs.TextOfDigest.{text_of_digest}
use Rattle.tdb_mark.specs.Unforged.{WasWritten}

-- the first of a list stays the first of a longer one
pub text_of_digest-stays : (ws more : List WrittenPiece) (d t : List ℕ) → text_of_digest ws d ≡ Some t → text_of_digest (ws ++ more) d ≡ Some t
text_of_digest-stays [] more d t h = absurd (cc h)
text_of_digest-stays (x ∷ ws) more d t h =
    (elim (bytes_eq (sha256 x.bytes) d) as (λ b. cond b (Some x.bytes) (text_of_digest ws d) ≡ Some t → cond b (Some x.bytes) (text_of_digest (ws ++ more) d) ≡ Some t) [
      | true ↦ λ e. e
      | false ↦ λ e. text_of_digest-stays ws more d t e
    ]) h

some_is : (p q : List ℕ) → ◌≡◌ {A = Option (List ℕ)} (Some p) (Some q) → p ≡ q
some_is p q h = cc

-- what is found was written and has the digest
pub text_of_digest_is : (ws : List WrittenPiece) (d t : List ℕ) → text_of_digest ws d ≡ Some t → WasWritten ws t × (sha256 t ≡ d)
text_of_digest_is [] d t h = absurd (cc h)
text_of_digest_is (x ∷ ws) d t h =
    (elim (bytes_eq (sha256 x.bytes) d) as (λ b. bytes_eq (sha256 x.bytes) d ≡ b → cond b (Some x.bytes) (text_of_digest ws d) ≡ Some t → WasWritten (x ∷ ws) t × (sha256 t ≡ d)) [
      | true ↦ λ e s. let is = some_is x.bytes t s in (inl is, ap sha256 (sym is) ∙ (bytes_eq-Decides (sha256 x.bytes) d).0 e)
      | false ↦ λ e s. let rest = text_of_digest_is ws d t s in (inr rest.0, rest.1)
    ]) refl h

-- what was written is found, or another piece with its digest
pub text_of_digest_found : (ws : List WrittenPiece) (p d : List ℕ) → WasWritten ws p → sha256 p ≡ d → (t : List ℕ) × (text_of_digest ws d ≡ Some t)
text_of_digest_found [] p d has is = absurd has
text_of_digest_found (x ∷ ws) p d (inl e) is =
    let yes : bytes_eq (sha256 x.bytes) d ≡ true = (bytes_eq-Decides (sha256 x.bytes) d).1 (ap sha256 e ∙ is) in
    (x.bytes, ap (λ (b : Bool). cond b (Some x.bytes) (text_of_digest ws d)) yes)
text_of_digest_found (x ∷ ws) p d (inr has) is =
    let rest = text_of_digest_found ws p d has is in
    elim (bytes_eq (sha256 x.bytes) d) as (λ b. (t : List ℕ) × (cond b (Some x.bytes) (text_of_digest ws d) ≡ Some t)) [ true ↦ (x.bytes, refl) | false ↦ rest ]

pub WasWritten-last : (ws : List WrittenPiece) (w : WrittenPiece) → WasWritten (ws ++ w ∷ []) w.bytes
WasWritten-last [] w = inl refl
WasWritten-last (x ∷ ws) w = inr (WasWritten-last ws w)
