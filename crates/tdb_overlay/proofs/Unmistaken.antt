-- Where there is no collision, what a read gave under a digest is what was written under it.
use Rattle.std.proofs.Common.{◌≡◌, ◌≢◌, ◌⊎◌, inl, inr, ◌+◌, ◌<◌, ℕ, List, [], ◌∷◌, ◌++◌, length, Option, Some, None, sym, ◌∙◌, ap, subst, refl, arith}
use Rattle.std.proofs.lemmas.Bool.Decides.{eqb_tells}
use Rattle.sha2.specs.Sha256.{sha256}
use Rattle.tdb_base.specs.declared.piece.Piece.{Piece}
use Rattle.tdb_base.specs.Trace.{ReadPiece, Trace, with_read, calls_in}
use Rattle.tdb_mark.specs.declared.commit.Commit.{Commit}
use Rattle.tdb_mark.specs.CommitText.{commit_of}
use Rattle.tdb_mark.specs.TextOfDigest.{text_of_digest}
use Rattle.tdb_mark.specs.Unforged.{IsUnforged, WasRead}
use Rattle.tdb_mark.proofs.DigestLemmas.{text_of_digest_is}
use Rattle.tdb_mark.proofs.TextLemmas.{commit_of-other_length}
use Rattle.tdb_overlay.specs.Found.{in_trace}

WasRead-last : (rs : List ReadPiece) (r : ReadPiece) → WasRead (rs ++ r ∷ []) r.bytes
WasRead-last [] r = inl refl
WasRead-last (x ∷ rs) r = inr (WasRead-last rs r)

-- the bytes of the last read
pub was_read : (old new : Trace) (at asked : ℕ) (bytes : List ℕ) → new ≡ with_read old at asked bytes → WasRead new.read bytes
was_read old new at asked bytes is =
    subst (λ (t : Trace). WasRead t.read bytes) (sym is) (WasRead-last old.read (record { bytes = bytes; place = at; call = calls_in old + 1; asked = asked }))

module _ (t : Trace) (grammar : List ℕ → Option Commit) (unforged : IsUnforged t grammar) (bytes : List ℕ) (read : WasRead t.read bytes) where
  pub read_is_text : (mark text : List ℕ) → text_of_digest t.written mark ≡ Some text → sha256 bytes ≡ mark → bytes ≡ text
  read_is_text mark text found is =
      let was = text_of_digest_is t.written mark text found in
      unforged.no_collision bytes text (inr read) (inl was.0) (is ∙ sym was.1)

  -- the bytes of a piece
  pub read_is_piece : (piece : Piece) (sealed : List ℕ) → in_trace t.written piece sealed → sha256 bytes ≡ piece.digest.0 → bytes ≡ sealed
  read_is_piece piece sealed found is = read_is_text piece.digest.0 sealed found.0 is

  -- Fewer bytes than a text has haven't its digest.
  pub text_differs : (mark found text : List ℕ) → text_of_digest t.written mark ≡ Some text → length text ≡ 256 → sha256 bytes ≡ found → (found ≢ mark) ⊎ (length bytes < 256) → found ≢ mark
  text_differs mark found text here whole is (inl differs) = differs
  text_differs mark found text here whole is (inr short) = λ same. absurd (omega (arith, short, whole, ap length (read_is_text mark text here (is ∙ same))))

-- A text has 256 bytes.
pub text_length : (key text : List ℕ) (c : Commit) → commit_of key text ≡ Some c → length text ≡ 256
text_length key text c is = elim (eqb_tells (length text) 256) [
  | inl long ↦ long.1
  | inr other ↦ absurd (none_or_some c (sym (commit_of-other_length key text other.1) ∙ is))
]
  where
    none_or_some : (x : Commit) → ◌≡◌ {A = Option Commit} None (Some x) → ⊥
    none_or_some x same = cc same
