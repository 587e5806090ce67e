-- Reading pieces of a device, one by one.
use Rattle.std.proofs.Common.{◌≡◌, inl, inr, ℕ, List, [], ◌∷◌, ◌++◌, ◌+◌, IsTrue, Bool, append-nil, refl, sym, ◌∙◌, ap, subst}
use Rattle.sha2.specs.Sha256.{sha256}
use Rattle.tdb_base.specs.Trace.{ReadPiece, Trace, calls_in, with_read}
use Rattle.tdb_base.specs.declared.piece.Piece.{Piece}
use Rattle.tdb_map.specs.Nodes.{Grows}
use Rattle.tdb_map.specs.Shown.{AsksOneOf, EachShown, IsShownLast, ShowsOneOf}
use Rattle.tdb_mark.specs.Unforged.{WasRead}
use Rattle.tdb_platform.specs.CrashStates.{CrashStates}
use Rattle.tdb_platform.specs.Outside.{Outside}
use Rattle.tdb_overlay.specs.Reading.{OnlyReads, ReadsImage, held, known_texts}

read_more : (reads more : List ReadPiece) (bytes : List ℕ) → WasRead reads bytes → WasRead (reads ++ more) bytes
read_more [] more bytes is = absurd is
read_more (r ∷ reads) more bytes (inl here) = inl here
read_more (r ∷ reads) more bytes (inr later) = inr (read_more reads more bytes later)

last_read : (reads : List ReadPiece) (r : ReadPiece) → WasRead (reads ++ r ∷ []) r.bytes
last_read [] r = inl refl
last_read (x ∷ reads) r = inr (last_read reads r)

pub texts_grow : {D : Type 0} (outside : D → Outside) (crash_states : D → CrashStates) (old new : D) → OnlyReads outside crash_states old new
    → Grows (known_texts (outside old)) (known_texts (outside new))
texts_grow outside crash_states old new reads = record {
  each = λ digest bytes known. (
    known.0,
    λ tells.
        let told : IsTrue (outside old).tells = subst (λ (b : Bool). IsTrue b) reads.tells tells in
        let grows = reads.grows told in
        subst (λ (rs : List ReadPiece). WasRead rs bytes) (sym grows.read)
        (read_more (outside old).trace.read grows.more_read bytes (known.1 told)),
  );
}

-- the read of a piece is the last one
module _ (old new : Trace) (piece : Piece) (bytes : List ℕ) (is : new ≡ with_read old piece.place.0 piece.length bytes) where
  pub was_last : WasRead new.read bytes
  was_last = subst (λ (t : Trace). WasRead t.read bytes) (sym is) (last_read old.read _)

  pub shown_last : (tells told : Bool) (f g : ℕ) → IsShownLast (record { tells = tells; read = old.read; faults = f })
      (record { tells = told; read = new.read; faults = g }) piece bytes
  shown_last tells told f g = record { before = []; call = _; is = ap (λ (t : Trace). t.read) is }

  read_is : new.read ≡ old.read ++ record { bytes = bytes; place = piece.place.0; call = calls_in old + 1; asked = piece.length } ∷ []
  read_is = ap (λ (t : Trace). t.read) is

  pub asks_it : (tells : Bool) (f g : ℕ) → EachShown (record { tells = tells; read = old.read; faults = f })
      (record { tells = tells; read = new.read; faults = g }) (AsksOneOf (λ p. p ≡ piece))
  asks_it tells f g told = (_, read_is, (record { piece = piece; is_one = refl; place = refl; asked = refl }, tt))

  pub shows_it : sha256 bytes ≡ piece.digest.0 → (tells : Bool) (f g : ℕ) → EachShown (record { tells = tells; read = old.read; faults = f })
      (record { tells = tells; read = new.read; faults = g }) (ShowsOneOf (λ p. p ≡ piece))
  shows_it digest tells f g told =
      (_, read_is, (record { piece = piece; is_one = refl; place = refl; asked = refl; digest = digest }, tt))

-- what an honest device showed in one read
pub image_one : (old new : Outside) (piece : Piece) (bytes : List ℕ)
    → (IsTrue old.tells → new.trace ≡ with_read old.trace piece.place.0 piece.length bytes)
    → (IsTrue old.honest → bytes ≡ held old.image piece.place.0 piece.length) → ReadsImage old new
image_one old new piece bytes wrote shows honest tells = (
  record {
    more = record { bytes = bytes; place = piece.place.0; call = calls_in old.trace + 1; asked = piece.length } ∷ [];
    read = ap (λ (t : Trace). t.read) (wrote tells);
  },
  (shows honest, tt),
)

-- and in none
pub image_none : (old new : Outside) → (IsTrue old.tells → new.trace ≡ old.trace) → ReadsImage old new
image_none old new same honest tells =
    (record { more = []; read = ap (λ (t : Trace). t.read) (same tells) ∙ sym (append-nil old.trace.read) }, tt)
