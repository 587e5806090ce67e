-- Reading ahead, one step after another.
use Rattle.std.proofs.Common.{◌≡◌, ◌≢◌, inl, inr, ⊎_elim, ℕ, zero, suc, ◌+◌, ◌<◌, ◌≤◌, ◌==◌, Bool, true, false, cond, List, [], ◌∷◌, ◌++◌, length, get_or, take, drop, Result, IsErr, IsTrue, refl, sym, ◌∙◌, ap, subst, append_assoc, append-nil, arith}
use Rattle.std.specs.List.{AllByRecursion}
use Rattle.std.proofs.lemmas.Bool.{eq-eqb}
use Rattle.std.proofs.lemmas.List.{get_or-drop, get_or-take, length-drop, length-take}
use Rattle.sha2.specs.Sha256.{sha256}
use Rattle.tdb_base.specs.declared.piece.Piece.{Piece}
use Rattle.tdb_base.specs.Trace.{Trace, ReadPiece, calls_in, with_read}
use Rattle.tdb_list.specs.declared.entry.Entry.{Entry}
use Rattle.tdb_mark.specs.declared.commit.Commit.{Commit}
use Rattle.tdb_platform.specs.Outside.{Anchor, Outside, Rose, Told}
use Rattle.tdb_platform.specs.CrashStates.{CrashStates, Elapses, LeavesNoMore}
use Rattle.tdb_seal.specs.SealedRecord.{IsSealedRecord}
use Rattle.tdb_seal.proofs.RecordSpelling.{same_plain}
use Rattle.tdb_overlay.specs.Changes.{named_records}
use Rattle.tdb_overlay.specs.Images.{StandsIn}
use Rattle.tdb_overlay.specs.Keys.{system_key}
use Rattle.tdb_overlay.specs.Required.{IsReadOf}
use Rattle.tdb_overlay.specs.declared.recovered.Recovered.{Recovered}
use Rattle.tdb_overlay.proofs.ReadingLaws.{reads_none, reads_nothing, reads_one, reads_then}
use Rattle.tdb_recover.specs.Ahead.{Asked, HasSeen, HasStopped, IsMemberList, StoodIn}
use Rattle.tdb_recover.specs.declared.error.OpenError.{OpenError}
use Rattle.tdb_recover.specs.declared.error.OpenError.TheVariants.{Fault, Memory}

all_append : (P : ReadPiece → Type 0) (first second : List ReadPiece) → AllByRecursion P first → AllByRecursion P second → AllByRecursion P (first ++ second)
all_append P [] second all more = more
all_append P (r ∷ first) second all more = (all.0, all_append P first second all.1 more)

module _ {D : Type 0} (outside : D → Outside) (crash_states : D → CrashStates)
    (counts : (p : D) (t u : ℕ) (i : List ℕ) (a : Anchor) → t ≤ u → u ≤ (outside p).clock → crash_states p u i a → crash_states p t i a) where
  pub seen_nothing : (p : D) → HasSeen outside crash_states p p []
  seen_nothing p = record {
    only = reads_nothing outside crash_states counts p;
    told = λ t. sym (append-nil (outside p).trace.read);
    stood = λ h. tt;
    quiet = refl;
  }

  pub seen_then : (old mid new : D) (first second : List ReadPiece) → HasSeen outside crash_states old mid first → HasSeen outside crash_states mid new second
      → HasSeen outside crash_states old new (first ++ second)
  seen_then old mid new first second one two = record {
    only = reads_then outside crash_states counts old mid new one.only two.only;
    told = λ t. two.told (subst IsTrue (sym one.only.tells) t) ∙ ap (λ (l : List ReadPiece). l ++ second) (one.told t)
        ∙ append_assoc (outside old).trace.read first second;
    stood = λ h. all_append (StoodIn (outside old).image) first second (one.stood h)
        (subst (λ (i : List ℕ). AllByRecursion (StoodIn i) second) (one.only.image h) (two.stood (subst IsTrue (sym one.only.honest) h)));
    quiet = two.quiet ∙ one.quiet;
  }

  pub stopped_then : (old mid new : D) (reads : List ReadPiece) (e : OpenError) → HasSeen outside crash_states old mid reads
      → HasStopped outside crash_states mid new e → HasStopped outside crash_states old new e
  stopped_then old mid new reads e one stop = record {
    only = reads_then outside crash_states counts old mid new one.only stop.only;
    cause = ⊎_elim (λ fault. inl (fault.0, subst (λ (n : ℕ). Rose n (outside new).faults) one.quiet fault.1))
        (λ memory. inr (memory.0, memory.1 ∙ one.quiet)) stop.cause;
  }

  -- memory ran out, and nothing was read
  pub stopped_memory : (p : D) → HasStopped outside crash_states p p Memory
  stopped_memory p = record { only = reads_nothing outside crash_states counts p; cause = inr (refl, refl) }

  -- the one read failed
  pub stopped_fault : {T E : Type 0} (old new : D) (result : Result T E) → IsErr result
      → (IsTrue (outside old).tells → (outside new).trace ≡ (outside old).trace)
      → (IsTrue (outside old).honest → (outside new).image ≡ (outside old).image)
      → (IsTrue (outside old).tells → (outside new).anchor ≡ (outside old).anchor)
      → LeavesNoMore outside crash_states old new → Elapses (outside old) (outside new) (crash_states old) (crash_states new) → Told (outside old) (outside new) result
      → HasStopped outside crash_states old new Fault
  stopped_fault old new result failed trace image anchor left time told = record {
    only = reads_none outside crash_states counts old new result trace image anchor left time told;
    cause = inl (refl, told.cause failed);
  }

  -- the one read gave these bytes
  pub seen_one : {T E : Type 0} (old new : D) (result : Result T E) (at asked : ℕ) (bytes : List ℕ)
      → (IsTrue (outside old).tells → (outside new).trace ≡ with_read (outside old).trace at asked bytes)
      → (IsTrue (outside old).honest → bytes ≡ take asked (drop at (outside old).image))
      → (IsTrue (outside old).honest → (outside new).image ≡ (outside old).image)
      → (IsTrue (outside old).tells → (outside new).anchor ≡ (outside old).anchor)
      → LeavesNoMore outside crash_states old new → Elapses (outside old) (outside new) (crash_states old) (crash_states new) → Told (outside old) (outside new) result
      → (outside new).faults ≡ (outside old).faults
      → HasSeen outside crash_states old new (record { bytes = bytes; place = at; call = calls_in (outside old).trace + 1; asked = asked } ∷ [])
  seen_one old new result at asked bytes trace piece image anchor left time told quiet = record {
    only = reads_one outside crash_states counts old new result at asked bytes trace image anchor left time told;
    told = λ t. ap (λ (u : Trace). u.read) (trace t);
    stood = λ h. (piece h, tt);
    quiet = quiet;
  }

-- each of the pieces was asked for and shown with its digest
abbrev pub AllShown : List Piece → List ReadPiece → Type 0
AllShown [] reads = reads ≡ []
AllShown (p ∷ pieces) [] = ⊥
AllShown (p ∷ pieces) (r ∷ reads) = IsReadOf p r × (sha256 r.bytes ≡ p.digest.0) × AllShown pieces reads

pub shown_all : (pieces : List Piece) (reads : List ReadPiece) → AllShown pieces reads → Asked pieces reads true
shown_all [] reads shown = (shown, refl)
shown_all (p ∷ pieces) [] shown = absurd shown
shown_all (p ∷ pieces) (r ∷ reads) shown = (shown.0, inl (shown.1, shown_all pieces reads shown.2))

pub shown_next : (pieces : List Piece) (reads : List ReadPiece) (p : Piece) (r : ReadPiece) → AllShown pieces reads → IsReadOf p r
    → sha256 r.bytes ≡ p.digest.0 → AllShown (pieces ++ p ∷ []) (reads ++ r ∷ [])
shown_next [] [] p r shown is digest = (is, digest, refl)
shown_next [] (q ∷ reads) p r shown is digest = absurd (cc shown)
shown_next (q ∷ pieces) [] p r shown is digest = absurd shown
shown_next (q ∷ pieces) (s ∷ reads) p r shown is digest = (shown.0, shown.1, shown_next pieces reads p r shown.2 is digest)

-- the first that wasn't
pub shown_up_to : (pieces rest : List Piece) (reads : List ReadPiece) (p : Piece) (r : ReadPiece) → AllShown pieces reads → IsReadOf p r
    → sha256 r.bytes ≢ p.digest.0 → Asked (pieces ++ p ∷ rest) (reads ++ r ∷ []) false
shown_up_to [] rest [] p r shown is differs = (is, inr (differs, (refl, refl)))
shown_up_to [] rest (q ∷ reads) p r shown is differs = absurd (cc shown)
shown_up_to (q ∷ pieces) rest [] p r shown is differs = absurd shown
shown_up_to (q ∷ pieces) rest (s ∷ reads) p r shown is differs = (shown.0, inl (shown.1, shown_up_to pieces rest reads p r shown.2 is differs))

-- The bytes of a list have one plain text, and that one list of entries.
pub list_is_one : (secret : List ℕ) (log : Recovered) (c : Commit) (bytes plain : List ℕ) (entries : List Entry)
    → IsSealedRecord (system_key secret) (record { kind = 5; suite = c.suite; home = 0; rank = 0 }) plain bytes
    → (given : IsMemberList secret log c bytes entries) → plain ≡ given.plain
list_is_one secret log c bytes plain entries opened given =
    same_plain (system_key secret) (record { kind = 5; suite = c.suite; home = 0; rank = 0 }) plain given.plain bytes opened given.opened

-- A piece that an honest device showed whole stands in its image.
pub stands_shown : (image : List ℕ) (piece : Piece) (r : ReadPiece) → IsReadOf piece r → StoodIn image r → sha256 r.bytes ≡ piece.digest.0
    → length r.bytes ≡ piece.length → 1 ≤ piece.length → StandsIn image piece
stands_shown image piece r is stood digest size some = record {
  bytes = r.bytes;
  digest = digest;
  size = size;
  holds = record {
    within = omega (arith, length-take piece.length (drop piece.place.0 image), length-drop piece.place.0 image, ap length asked, size, some);
    bytes = λ k below. sym (ap (λ (l : List ℕ). get_or l k 0) asked ∙ get_or-take piece.length (drop piece.place.0 image) k 0 (omega (arith, below, size))
        ∙ get_or-drop piece.place.0 image k 0);
  };
}
  where
    asked : r.bytes ≡ take piece.length (drop piece.place.0 image)
    asked = stood ∙ ap (λ (n : ℕ). take n (drop r.place image)) is.1 ∙ ap (λ (n : ℕ). take piece.length (drop n image)) is.0

-- an entry that names a record, with what the list names before it and behind it
pub named_from : (entries : List Entry) (i : ℕ) (d : Entry) → i < length entries → (get_or entries i d).kind ≡ 1
    → (rest : List Piece) × (named_records entries ≡ named_records (take i entries) ++ (get_or entries i d).piece ∷ rest)
named_from [] i d below kind = absurd (omega arith)
named_from (x ∷ xs) zero d below kind =
    (named_records xs, ap (λ (b : Bool). cond b (x.piece ∷ named_records xs) (named_records xs)) (eq-eqb x.kind 1 kind))
named_from (x ∷ xs) (suc i) d below kind =
    let later = named_from xs i d (omega arith) kind in (
      later.0,
      elim (x.kind == 1) as (λ (b : Bool). cond b (x.piece ∷ named_records xs) (named_records xs)
          ≡ cond b (x.piece ∷ named_records (take i xs)) (named_records (take i xs)) ++ (get_or xs i d).piece ∷ later.0) [
            | true ↦ ap (λ (l : List Piece). x.piece ∷ l) later.1
            | false ↦ later.1
          ],
    )
