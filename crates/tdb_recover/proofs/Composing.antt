-- Calls that only read, one after another, and what their errors say.
use Rattle.std.proofs.Common.{◌≡◌, inl, inr, ℕ, ◌≤◌, List, ◌∷◌, ◌++◌, IsTrue, sym, ◌∙◌, ap, subst, arith, append_assoc}
use Rattle.tdb_base.specs.declared.piece.Piece.{Piece}
use Rattle.tdb_base.specs.Trace.{Trace, ReadPiece, WrittenPiece, Extends, IsNumbered}
use Rattle.tdb_mark.specs.CommitText.{commit_key_of, commit_of}
use Rattle.tdb_mark.proofs.UnforgedLemmas.{IsUnforged-before}
use Rattle.tdb_platform.specs.Outside.{Outside}
use Rattle.tdb_platform.specs.CrashStates.{CrashStates}
use Rattle.tdb_overlay.specs.Images.{StandsIn}
use Rattle.tdb_overlay.specs.Reading.{HasRead, OnlyReads}
use Rattle.tdb_recover.specs.Chain.{IsGiven, WholeLog}
use Rattle.tdb_recover.specs.Damaged.{IsDamageOf, damaged_piece}
use Rattle.tdb_recover.specs.Explained.{IsCaused, IsExplained}
use Rattle.tdb_recover.specs.declared.error.OpenError.{OpenError}
use Rattle.tdb_recover.specs.declared.error.OpenError.TheVariants.{Unformatted, Tampered, Form, Fault, Memory}

-- what was given at the end was so before
pub given_before : (written : List WrittenPiece) (mid new : Trace) (secret : List ℕ) (log : WholeLog) → IsNumbered mid → Extends mid new → IsGiven written new secret log → IsGiven written mid secret log
given_before written mid new secret log numbered grows given = record {
  keys = given.keys;
  unforged = IsUnforged-before mid new (commit_of (commit_key_of secret)) numbered grows given.unforged;
  ends = given.ends;
  tells = given.tells;
}

-- an honest device is so later, with the same image
abbrev StaysHonest : Outside → Outside → Type 0
StaysHonest old mid = IsTrue old.honest → IsTrue mid.honest × (mid.image ≡ old.image)

-- damage that a later call was shown
damage_later : (old mid new : Outside) (needed : Piece → Type 0) (damage : _) → HasRead old mid → StaysHonest old mid
    → IsDamageOf mid new needed damage → IsDamageOf old new needed damage
damage_later old mid new needed damage first stays is = record {
  size = is.size;
  is_needed = is.is_needed;
  read = record { more = first.more ++ is.read.more; read = is.read.read ∙ ap (λ (l : List ReadPiece). l ++ is.read.more) first.read ∙ append_assoc old.trace.read first.more is.read.more };
  shown = record {
    earlier = first.more ++ is.shown.earlier;
    last = is.shown.last;
    later = is.shown.later;
    in_order = ap (λ (l : List ReadPiece). first.more ++ l) is.shown.in_order ∙ sym (append_assoc first.more is.shown.earlier (is.shown.last ∷ is.shown.later));
    of_piece = is.shown.of_piece;
    no_later = is.shown.no_later;
    digest = is.shown.digest;
    differs = is.shown.differs;
  };
  hidden = λ honest stands.
      let then = stays honest in
      is.hidden then.0 (subst (λ (image : List ℕ). StandsIn image (damaged_piece damage is.size)) (sym then.1) stands);
}

explained_later : (old mid new : Outside) (needed : Piece → Type 0) (error : OpenError) → HasRead old mid → StaysHonest old mid
    → IsExplained mid new needed error → IsExplained old new needed error
explained_later old mid new needed Unformatted first stays is = is
explained_later old mid new needed (Tampered damage) first stays is = damage_later old mid new needed damage first stays is
explained_later old mid new needed (Form place) first stays is = is
explained_later old mid new needed Fault first stays is = tt
explained_later old mid new needed Memory first stays is = tt

pub caused_later : (old mid new : Outside) (error : OpenError) → old.faults ≤ mid.faults → IsCaused mid new error → IsCaused old new error
caused_later old mid new Unformatted first is = is
caused_later old mid new (Tampered damage) first is = tt
caused_later old mid new (Form place) first is = tt
caused_later old mid new Fault first (inl rose) = inl (omega (arith, first, rose))
caused_later old mid new Fault first (inr full) = inr full
caused_later old mid new Memory first is = tt

module _ {D : Type 0} (outside : D → Outside) (crash_states : D → CrashStates) (old mid : D) (first : OnlyReads outside crash_states old mid) (t : IsTrue (outside old).tells) where
  pub tells_then : IsTrue (outside mid).tells
  tells_then = subst IsTrue (sym first.tells) t

  -- an error of a later call
  pub explained_then : (new : D) (needed : Piece → Type 0) (error : OpenError) → IsExplained (outside mid) (outside new) needed error → IsExplained (outside old) (outside new) needed error
  explained_then new needed error is = explained_later (outside old) (outside mid) (outside new) needed error
      (record { more = (first.grows t).more_read; read = (first.grows t).read })
      (λ honest. (subst IsTrue (sym first.honest) honest, first.image honest)) is

  -- a later call has the same pieces
  pub given_then : (trace : Trace) (secret : List ℕ) (log : WholeLog) → IsGiven (outside old).trace.written trace secret log → IsGiven (outside mid).trace.written trace secret log
  given_then trace secret log given = subst (λ (ws : List WrittenPiece). IsGiven ws trace secret log) (sym (first.written t)) given

  pub written_then : (P : List WrittenPiece → Type 0) → P (outside old).trace.written → P (outside mid).trace.written
  written_then P holds = subst P (sym (first.written t)) holds

  pub written_back : (P : List WrittenPiece → Type 0) → P (outside mid).trace.written → P (outside old).trace.written
  written_back P holds = subst P (first.written t) holds
