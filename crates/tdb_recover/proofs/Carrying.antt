-- Calls that only read or write nothing, one after another, and what is given over them.
use Rattle.std.proofs.Common.{◌≡◌, ◌≢◌, ◌⊎◌, ⊎_elim, ℕ, ◌≤◌, List, IsTrue, Result, Ok, Err, IfErr, sym, ◌∙◌, ap, subst, arith}
use Rattle.tdb_base.specs.Trace.{Extends, IsNumbered, WrittenPiece}
use Rattle.tdb_base.proofs.Tracing.{extends_along}
use Rattle.tdb_mark.specs.declared.commit.Commit.{Commit}
use Rattle.tdb_mark.specs.CommitText.{commit_key_of, commit_of}
use Rattle.tdb_mark.specs.Unforged.{WasWritten}
use Rattle.tdb_mark.proofs.UnforgedLemmas.{IsUnforged-before}
use Rattle.tdb_model.specs.Apply.{History}
use Rattle.tdb_platform.specs.Outside.{Anchor, Outside}
use Rattle.tdb_platform.specs.CrashStates.{CrashStates, LeavesOnly, Pairs, now}
use Rattle.tdb_platform.proofs.Moments.{goes_on_by}
use Rattle.tdb_overlay.specs.Found.{Store}
use Rattle.tdb_overlay.specs.Log.{IsLog}
use Rattle.tdb_overlay.specs.Reading.{OnlyReads}
use Rattle.tdb_overlay.specs.StoreState.{StoreState}
use Rattle.tdb_overlay.specs.WellFormedLog.{IsAccepted, IsWellFormedTrace}
use Rattle.tdb_overlay.specs.declared.recovered.Recovered.{Recovered}
use Rattle.tdb_recover.specs.Premises.{Premises}
use Rattle.tdb_recover.specs.Unwritten.{IsSure, WritesNothing}
use Rattle.tdb_recover.specs.declared.error.OpenError.{OpenError}
use Rattle.tdb_recover.specs.declared.error.OpenError.TheVariants.{Fault, Memory}
use Rattle.tdb_recover.proofs.Composing.{tells_then}

-- What is given at the end was so before.
pub premises_before : (old mid new : Outside) (secret : List ℕ) (store : Store) (history : History) (from : StoreState)
    → IsNumbered mid.trace → Extends mid.trace new.trace
    → Premises old new secret store history from → Premises old mid secret store history from
premises_before old mid new secret store history from numbered grows given = record {
  tells = given.tells;
  keys = given.keys;
  unforged = IsUnforged-before mid.trace new.trace (commit_of (commit_key_of store.secret)) numbered grows given.unforged;
  formed = given.formed;
  log = given.log;
  first = given.first;
}

module _ {D : Type 0} (outside : D → Outside) (crash_states : D → CrashStates) where
  pub writes_reads : (old new : D) → OnlyReads outside crash_states old new → WritesNothing outside crash_states old new
  writes_reads old new reads = record {
    grows = reads.grows;
    written = reads.written;
    image = reads.image;
    images = record {
      later = reads.left.later;
      each = λ i a left. (a, reads.left.each i a left);
      before = reads.left.before;
      keeps = reads.left.keeps;
    };
    tells = reads.tells;
    honest = reads.honest;
    faults = reads.faults;
  }

  -- what is said of the pieces that were written and of the anchor
  module _ (old mid : D) (first : OnlyReads outside crash_states old mid) (t : IsTrue (outside old).tells)
      (P : List WrittenPiece → Anchor → Type 0) where
    pub kept_then : P (outside old).trace.written (outside old).anchor → P (outside mid).trace.written (outside mid).anchor
    kept_then holds =
        subst (λ (ws : List WrittenPiece). P ws (outside mid).anchor) (sym (first.written t))
        (subst (λ (a : Anchor). P (outside old).trace.written a) (sym (first.anchor t)) holds)

    pub kept_back : P (outside mid).trace.written (outside mid).anchor → P (outside old).trace.written (outside old).anchor
    kept_back holds =
        subst (λ (ws : List WrittenPiece). P ws (outside old).anchor) (first.written t)
        (subst (λ (a : Anchor). P (outside mid).trace.written a) (first.anchor t) holds)

  -- What is given at the start is so behind calls that only read.
  pub premises_then : (old mid : D) (new : Outside) (secret : List ℕ) (store : Store) (history : History) (from : StoreState)
      → OnlyReads outside crash_states old mid → Premises (outside old) new secret store history from
      → Premises (outside mid) new secret store history from
  premises_then old mid new secret store history from first given =
      let t = given.tells in
      record {
        tells = tells_then outside crash_states old mid first t;
        keys = given.keys;
        unforged = given.unforged;
        formed = kept_then old mid first t (λ (ws : List WrittenPiece) (a : Anchor). IsWellFormedTrace ws store.secret) given.formed;
        log = kept_then old mid first t (λ (ws : List WrittenPiece) (a : Anchor). IsLog ws store a history from) given.log;
        first = kept_then old mid first t
            (λ (ws : List WrittenPiece) (a : Anchor). a.0 ≡ 0
            → (text : List ℕ) (c : Commit) → WasWritten ws text → IsAccepted store.secret text c → c.count ≤ 1) given.first;
      }

  -- An error of a call behind reads is a fault, or it is of memory and the call did nothing.
  pub reads_unless_fault : (old then new : D) → OnlyReads outside crash_states old then → (result : Result Recovered OpenError)
      → IfErr result (λ e. (e ≡ Fault) ⊎ (e ≡ Memory)) → (result ≡ Err Memory → new ≡ then)
      → IfErr result (λ e. e ≢ Fault → OnlyReads outside crash_states old new)
  reads_unless_fault old then new reads (Ok r) errors memory = tt
  reads_unless_fault old then new reads (Err e) errors memory = λ no_fault. ⊎_elim (λ fault. absurd (no_fault fault))
      (λ is. subst (λ (p : D). OnlyReads outside crash_states old p) (sym (memory (ap (λ (x : OpenError). Err x) is))) reads) errors

module _ {D : Type 0} (outside : D → Outside) (crash_states : D → CrashStates)
    (counts : (p : D) (t u : ℕ) (i : List ℕ) (a : Anchor) → t ≤ u → u ≤ (outside p).clock → crash_states p u i a
    → crash_states p t i a) where
  -- Calls that only read, and others that write nothing after them.
  pub writes_then : (old mid new : D) → OnlyReads outside crash_states old mid → WritesNothing outside crash_states mid new
      → WritesNothing outside crash_states old new
  writes_then old mid new first then = record {
    grows = λ t. extends_along (outside old).trace (outside mid).trace (outside new).trace (first.grows t)
        (then.grows (subst IsTrue (sym first.tells) t));
    written = λ t. then.written (subst IsTrue (sym first.tells) t) ∙ first.written t;
    image = λ h. then.image (subst IsTrue (sym first.honest) h) ∙ first.image h;
    images =
        let P : Pairs = λ i a. (was : Anchor) × now outside crash_states old i was in
        let after : LeavesOnly outside crash_states mid new P = record {
          later = then.images.later;
          each = λ i a left.
              let was = then.images.each i a left in (
                was.0,
                first.left.each i was.0
                    (counts mid (outside old).clock (outside mid).clock i was.0 first.left.later (omega arith) was.1),
              );
          before = then.images.before;
          keeps = then.images.keeps;
        } in
        goes_on_by outside crash_states counts old mid new P (writes_reads outside crash_states old mid first).images after;
    tells = then.tells ∙ first.tells;
    honest = then.honest ∙ first.honest;
    faults = omega (arith, first.faults, then.faults);
  }

  pub sure_then : (old new : D) → OnlyReads outside crash_states old new → IsSure outside crash_states old
      → IsSure outside crash_states new
  sure_then old new reads sure h i a left =
      let honest : IsTrue (outside old).honest = subst IsTrue reads.honest h in
      sure honest i a
      (reads.left.each i a (counts new (outside old).clock (outside new).clock i a reads.left.later (omega arith) left))
      ∙ sym (reads.image honest)
