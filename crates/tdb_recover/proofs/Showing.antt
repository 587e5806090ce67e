-- What a read of a whole piece gave, and what it showed.
use Rattle.std.proofs.Common.{◌≡◌, ◌≢◌, ◌⊎◌, inl, inr, ⊎_elim, ℕ, ◌<◌, ◌+◌, List, [], ◌∷◌, ◌++◌, length, Option, Some, None, IsTrue}
use Rattle.std.proofs.Common.{refl, sym, ◌∙◌, ap, subst, arith}
use Rattle.sha2.specs.Sha256.{sha256}
use Rattle.tdb_base.specs.declared.piece.Damage.{Damage}
use Rattle.tdb_base.specs.declared.piece.Digest.{Digest}
use Rattle.tdb_base.specs.declared.piece.Piece.{Piece}
use Rattle.tdb_base.specs.declared.piece.Place.{Place}
use Rattle.tdb_base.specs.Trace.{Trace, ReadPiece, calls_in, with_read}
use Rattle.tdb_mark.specs.declared.commit.Commit.{Commit}
use Rattle.tdb_mark.specs.CommitText.{commit_key_of, commit_of}
use Rattle.tdb_mark.specs.TextOfDigest.{text_of_digest}
use Rattle.tdb_mark.specs.Unforged.{IsUnforged, WasRead, WasWritten}
use Rattle.tdb_mark.proofs.DigestLemmas.{text_of_digest_is}
use Rattle.tdb_mark.proofs.TextLemmas.{commit_of-other_length}
use Rattle.tdb_platform.specs.Outside.{Outside}
use Rattle.tdb_overlay.specs.declared.fetching.FetchError.{FetchError}
use Rattle.tdb_overlay.specs.declared.fetching.FetchError as fetching
use Rattle.tdb_overlay.specs.Images.{StandsIn}
use Rattle.tdb_recover.specs.declared.error.OpenError.{OpenError}
use Rattle.tdb_recover.specs.declared.error.OpenError.TheVariants.{Unformatted, Tampered, Form, Fault, Memory}
use Rattle.tdb_recover.specs.Chain.{IsTextOf}
use Rattle.tdb_recover.specs.Damaged.{IsDamageOf, damaged_piece}
use Rattle.tdb_recover.specs.Explained.{IsExplained, open_error_of}

was_read_last : (rs : List ReadPiece) (r : ReadPiece) → WasRead (rs ++ r ∷ []) r.bytes
was_read_last [] r = inl refl
was_read_last (x ∷ rs) r = inr (was_read_last rs r)

-- What a read gave is the piece of that digest that was written.
pub read_is : (grammar : List ℕ → Option Commit) (t new : Trace) (at asked : ℕ) (bytes text digest : List ℕ) → new ≡ with_read t at asked bytes → IsUnforged new grammar
    → text_of_digest t.written digest ≡ Some text → sha256 bytes ≡ digest → bytes ≡ text
read_is grammar t new at asked bytes text digest is unforged found same =
    let was = text_of_digest_is t.written digest text found in
    let r : ReadPiece = record { bytes = bytes; place = at; call = calls_in t + 1; asked = asked } in
    let read : WasRead new.read bytes = subst (λ (u : Trace). WasRead u.read bytes) (sym is) (was_read_last t.read r) in
    let written : WasWritten new.written text = subst (λ (u : Trace). WasWritten u.written text) (sym is) was.0 in
    unforged.no_collision bytes text (inr read) (inl written) (same ∙ sym was.1)

-- what the grammar makes of a text that was read
pub text_read : (t new : Trace) (at asked : ℕ) (secret mark bytes : List ℕ) (c : Commit) → new ≡ with_read t at asked bytes → sha256 bytes ≡ mark → IsTextOf t.written new secret mark c
    → commit_of (commit_key_of secret) bytes ≡ Some c
text_read t new at asked secret mark bytes c is same of =
    ap (commit_of (commit_key_of secret)) (read_is (commit_of (commit_key_of secret)) t new at asked bytes of.text mark is of.unforged of.found same) ∙ of.reads

-- a read of other bytes is damage
pub damage_shown : (old new : Outside) (needed : Piece → Type 0) (damage : Damage) (piece : Piece) (bytes : List ℕ) → damage.place ≡ piece.place → damage.expected ≡ piece.digest → needed piece
    → new.trace ≡ with_read old.trace piece.place.0 piece.length bytes → sha256 bytes ≡ damage.found.0 → (damage.found ≢ piece.digest)
    → (IsTrue old.honest → StandsIn old.image piece → ⊥) → IsDamageOf old new needed damage
damage_shown old new needed damage piece bytes at expected is_needed is found differs hidden =
    let same : piece ≡ damaged_piece damage piece.length =
    ap (λ (p : Place). let q : Piece = record { place = p; length = piece.length; digest = piece.digest } in q) (sym at)
    ∙ ap (λ (d : Digest). let q : Piece = record { place = damage.place; length = piece.length; digest = d } in q) (sym expected) in
    record {
      size = piece.length;
      is_needed = subst needed same is_needed;
      read = record { more = record { bytes = bytes; place = piece.place.0; call = calls_in old.trace + 1; asked = piece.length } ∷ []; read = ap (λ (u : Trace). u.read) is };
      shown = record {
        earlier = [];
        last = record { bytes = bytes; place = piece.place.0; call = calls_in old.trace + 1; asked = piece.length };
        later = [];
        in_order = refl;
        of_piece = (ap (λ (p : Place). p.0) (sym at), refl);
        no_later = tt;
        digest = found;
        differs = λ (e : damage.found.0 ≡ damage.expected.0). differs (ap (λ (l : List ℕ). let d : Digest = record { 0 = l } in d) e ∙ expected);
      };
      hidden = λ honest stands. hidden honest (subst (λ (p : Piece). StandsIn old.image p) (sym same) stands);
    }

pub some_none : {A : Type 0} (x : A) → None ≡ Some x → ⊥
some_none x e = cc

-- where a text has the mark, bytes that are fewer than a text's haven't
short_differs : (t new : Trace) (at asked : ℕ) (secret mark bytes : List ℕ) (c : Commit) → new ≡ with_read t at asked bytes → IsTextOf t.written new secret mark c → length bytes < 256 → sha256 bytes ≡ mark → ⊥
short_differs t new at asked secret mark bytes c is of short same =
    some_none c (sym (commit_of-other_length (commit_key_of secret) bytes (λ (e : length bytes ≡ 256). omega (arith, e, short))) ∙ text_read t new at asked secret mark bytes c is same of)

-- an error of reading a text, where one has the mark
pub text_error : (old new : Outside) (secret : List ℕ) (piece : Piece) (c : Commit) (error : FetchError)
    → ((damage : Damage) → error ≡ fetching.TheVariants.Tampered damage → (damage.place ≡ piece.place) × (damage.expected ≡ piece.digest)
    × ((bytes : List ℕ) × (new.trace ≡ with_read old.trace piece.place.0 piece.length bytes) × (sha256 bytes ≡ damage.found.0) × ((damage.found ≢ piece.digest) ⊎ (length bytes < 256))))
    → (IsTrue old.honest → StandsIn old.image piece → (damage : Damage) → error ≢ fetching.TheVariants.Tampered damage)
    → IsTextOf old.trace.written new.trace secret piece.digest.0 c → IsExplained old new (λ p. p ≡ piece) (open_error_of error)
text_error old new secret piece c (fetching.TheVariants.Tampered damage) tampered stands of =
    let h = tampered damage refl in
    let shown = h.2 in
    damage_shown old new (λ p. p ≡ piece) damage piece shown.0 h.0 h.1 refl shown.1 shown.2
    (⊎_elim (λ differs. differs) (λ short same. short_differs old.trace new.trace piece.place.0 piece.length secret piece.digest.0 shown.0 c shown.1 of short (shown.2 ∙ ap (λ (d : Digest). d.0) same)) shown.3)
    (λ honest held. stands honest held damage refl)
text_error old new secret piece c fetching.TheVariants.Fault tampered stands of = tt
text_error old new secret piece c fetching.TheVariants.Memory tampered stands of = tt

-- an error of reading a piece
pub piece_error : (old new : Outside) (piece : Piece) (error : FetchError)
    → ((damage : Damage) → error ≡ fetching.TheVariants.Tampered damage → (damage.place ≡ piece.place) × (damage.expected ≡ piece.digest)
    × ((bytes : List ℕ) × (new.trace ≡ with_read old.trace piece.place.0 piece.length bytes) × (sha256 bytes ≡ damage.found.0) × (damage.found ≢ piece.digest)))
    → (IsTrue old.honest → StandsIn old.image piece → (damage : Damage) → error ≢ fetching.TheVariants.Tampered damage)
    → IsExplained old new (λ p. p ≡ piece) (open_error_of error)
piece_error old new piece (fetching.TheVariants.Tampered damage) tampered stands =
    let h = tampered damage refl in
    let shown = h.2 in
    damage_shown old new (λ p. p ≡ piece) damage piece shown.0 h.0 h.1 refl shown.1 shown.2 shown.3
    (λ honest held. stands honest held damage refl)
piece_error old new piece fetching.TheVariants.Fault tampered stands = tt
piece_error old new piece fetching.TheVariants.Memory tampered stands = tt

-- an error is explained where what is needed by one account is so by another
pub explained_as : (old new : Outside) (needed other : Piece → Type 0) (error : OpenError) → ((piece : Piece) → needed piece → other piece) → IsExplained old new needed error → IsExplained old new other error
explained_as old new needed other Unformatted weaker is = is
explained_as old new needed other (Tampered damage) weaker is = record {
  size = is.size;
  is_needed = weaker (damaged_piece damage is.size) is.is_needed;
  read = is.read;
  shown = is.shown;
  hidden = is.hidden;
}
explained_as old new needed other (Form place) weaker is = is
explained_as old new needed other Fault weaker is = tt
explained_as old new needed other Memory weaker is = tt
