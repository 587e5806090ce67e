-- What was read, one part after another.
use Rattle.std.proofs.Common.{◌≡◌, ◌+◌, ℕ, List, [], ◌∷◌, ◌++◌, refl, sym, ◌∙◌, ap, append_assoc, append-nil}
use Rattle.std.specs.List.{AllByRecursion}
use Rattle.tdb_base.specs.declared.piece.Piece.{Piece}
use Rattle.tdb_base.specs.Trace.{Trace, ReadPiece, calls_in, with_read}
use Rattle.tdb_platform.specs.Outside.{Outside}
use Rattle.tdb_overlay.specs.Required.{IsReadOf}
use Rattle.tdb_recover.specs.Reads.{ReadsOnly}

all_append : (P : ReadPiece → Type 0) (first second : List ReadPiece) → AllByRecursion P first → AllByRecursion P second → AllByRecursion P (first ++ second)
all_append P [] second all more = more
all_append P (r ∷ first) second all more = (all.0, all_append P first second all.1 more)

all_as : (P Q : ReadPiece → Type 0) (reads : List ReadPiece) → ((r : ReadPiece) → P r → Q r) → AllByRecursion P reads → AllByRecursion Q reads
all_as P Q [] weaker all = tt
all_as P Q (r ∷ reads) weaker all = (weaker r all.0, all_as P Q reads weaker all.1)

-- nothing was read
pub only_none : (old new : Outside) (pieces : Piece → Type 0) → new.trace.read ≡ old.trace.read → ReadsOnly pieces old new
only_none old new pieces same = record { read = record { more = []; read = same ∙ sym (append-nil old.trace.read) }; each = tt }

-- one piece was read
pub only_one : (old new : Outside) (piece : Piece) (bytes : List ℕ) → new.trace ≡ with_read old.trace piece.place.0 piece.length bytes → ReadsOnly (λ p. p ≡ piece) old new
only_one old new piece bytes is = record {
  read = record { more = record { bytes = bytes; place = piece.place.0; call = calls_in old.trace + 1; asked = piece.length } ∷ []; read = ap (λ (u : Trace). u.read) is };
  each = ((piece, refl, (refl, refl)), tt);
}

pub only_then : (old mid new : Outside) (pieces : Piece → Type 0) → ReadsOnly pieces old mid → ReadsOnly pieces mid new → ReadsOnly pieces old new
only_then old mid new pieces first second = record {
  read = record { more = first.read.more ++ second.read.more; read = second.read.read ∙ ap (λ (l : List ReadPiece). l ++ second.read.more) first.read.read ∙ append_assoc old.trace.read first.read.more second.read.more };
  each = all_append (λ r. (piece : Piece) × pieces piece × IsReadOf piece r) first.read.more second.read.more first.each second.each;
}

pub only_as : (old new : Outside) (pieces other : Piece → Type 0) → ((piece : Piece) → pieces piece → other piece) → ReadsOnly pieces old new → ReadsOnly other old new
only_as old new pieces other weaker is = record {
  read = is.read;
  each = all_as (λ r. (piece : Piece) × pieces piece × IsReadOf piece r) (λ r. (piece : Piece) × other piece × IsReadOf piece r) is.read.more (λ r one. (one.0, weaker one.0 one.1, one.2)) is.each;
}
