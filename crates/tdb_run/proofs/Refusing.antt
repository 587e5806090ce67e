-- Why the partitions of a run weren't made.
use Rattle.std.proofs.Common.{◌≡◌, ◌≢◌, false, Option, Some, None, Err, refl, sym, ◌∙◌, subst, arith}
use Rattle.std.proofs.lemmas.Bool.{false≢true}
use Rattle.tdb_base.specs.declared.piece.Place.{Place}
use Rattle.tdb_base.specs.declared.suite.Suite.{Suite}
use Rattle.tdb_model.specs.Apply.{History, made}
use Rattle.tdb_model.specs.Check.{check_commit}
use Rattle.tdb_model.specs.HasCommitted.{CommitCause}
use Rattle.tdb_model.specs.Opening.{opening_changes}
use Rattle.tdb_model.specs.State.{State}
use Rattle.tdb_model.specs.declared.error.CommitError.{CommitError}
use Rattle.tdb_model.specs.declared.error.CommitError.TheVariants.{Stopped, TooManyChanges, PartitionNumber, NoPartition, PartitionExists, PartitionTwice, Frozen, RankTooLarge, ChunkTooLong, RingFull, CounterEnd, NoRoom, Memory, Fault}
use Rattle.tdb_model.proofs.MapLemmas.{get_inserted}
use Rattle.tdb_platform.specs.CrashStates.{CrashStates}
use Rattle.tdb_platform.specs.Outside.{Anchor, Outside}
use Rattle.tdb_overlay.specs.Found.{Store}
use Rattle.tdb_overlay.specs.Log.{IsLog}
use Rattle.tdb_overlay.specs.Sound.{IsSound}
use Rattle.tdb_overlay.specs.StoreState.{StoreState, commit_on}
use Rattle.tdb_chunk.specs.Standing.{IsInState, IsReady, StandsAt}
use Rattle.tdb_chunk.specs.StoreMeans.{RefusesNow, store_means}
use Rattle.tdb_chunk.specs.StoreView.{StoreView, head_in, store_in, written_in}
use Rattle.tdb_run.specs.Ends.{stop_of_commit}
use Rattle.tdb_run.specs.Opened.{IsRefusedThere, IsWhyNot, refusal_of}
use Rattle.tdb_run.specs.Opens.{HasNone}
use Rattle.tdb_run.specs.declared.status.Refusal.{Refusal}
use Rattle.tdb_run.specs.declared.status.Refusal.TheVariants.{Counter, Full, Ring}

not_both : {T : Type 0} (o : Option T) (x : T) → o ≡ Some x → o ≡ None → ⊥
not_both o x some none = cc

-- Where neither partition is there, both may be made.
pub opening_passes : (suite : Suite) (state : State) → HasNone state → check_commit state (opening_changes suite) ≡ None
opening_passes suite state none = rw (none.0, get_inserted state 1 (made 0 1 suite) 2, none.1) refl

module _ {D : Type 0} (outside : D → Outside) (crash_states : D → CrashStates) (old new : StoreView D)
    (same : store_in new ≡ store_in old) (running : old.stopped ≡ false)
    (sound : IsSound new.secret (outside new.platform)) (history : History) (from : StoreState) (stands : StandsAt outside old history from)
    (none : HasNone from.chunks) where
  -- The commit is refused in the state that the store is in.
  refused_there : (refusal : Refusal) → IsReady outside crash_states new → new.stopped ≡ false → IsInState outside new from.chunks
      → RefusesNow outside new (opening_changes old.log.suite) (refusal_of refusal)
      → IsRefusedThere (store_in old) (outside new.platform) from.chunks refusal
  refused_there refusal ready goes_on at refuses = record {
    history = at.0;
    last = at.1;
    log = subst (λ (a : Anchor). IsLog (written_in outside new) (store_in old) a at.0 at.1) (sym (ready.at_head goes_on sound.tells))
        (subst (λ (s : Store). IsLog (written_in outside new) s (head_in new) at.0 at.1) same at.2.log);
    same = at.3;
    refused = subst (λ (s : Store). commit_on s at.1 (opening_changes old.log.suite) ≡ Err (refusal_of refusal)) same
        (refuses sound at.0 at.1 at.2);
  }

  module _ (ready : IsReady outside crash_states new) (earlier : Outside) (slot : Place) where
    -- No answer is about the partitions.
    unrefused : (e : CommitError)
        → (IsSound new.secret (outside new.platform) → (s : State) → IsInState outside old s
        → check_commit s (opening_changes old.log.suite) ≡ Some e) → ⊥
    unrefused e refused =
        let is = refused sound from.chunks (history, from, stands, refl) in
        let passes = opening_passes old.log.suite from.chunks none in
        not_both (check_commit from.chunks (opening_changes old.log.suite)) e is passes

    -- Each answer but a fault leaves the store as it was.
    pub why_refused : (e : CommitError) → (e ≢ Fault → new.stopped ≡ false) → (e ≢ Fault → IsInState outside new from.chunks)
        → CommitCause (store_means outside crash_states) (opening_changes old.log.suite) old new e
        → IsWhyNot (store_in old) earlier (outside new.platform) from (stop_of_commit e slot)
    why_refused Stopped goes_on at cause = absurd (false≢true (sym running ∙ cause))
    why_refused (TooManyChanges number) goes_on at cause = absurd (omega (arith, cause.1))
    why_refused PartitionNumber goes_on at cause = absurd (unrefused PartitionNumber cause)
    why_refused (NoPartition part) goes_on at cause = absurd (unrefused (NoPartition part) cause)
    why_refused (PartitionExists part) goes_on at cause = absurd (unrefused (PartitionExists part) cause)
    why_refused (PartitionTwice part) goes_on at cause = absurd (unrefused (PartitionTwice part) cause)
    why_refused (Frozen part) goes_on at cause = absurd (unrefused (Frozen part) cause)
    why_refused RankTooLarge goes_on at cause = absurd (unrefused RankTooLarge cause)
    why_refused ChunkTooLong goes_on at cause = absurd (unrefused ChunkTooLong cause)
    why_refused RingFull goes_on at cause = (none, refused_there Ring ready (goes_on (λ is. cc is)) (at (λ is. cc is)) cause)
    why_refused CounterEnd goes_on at cause = (none, refused_there Counter ready (goes_on (λ is. cc is)) (at (λ is. cc is)) cause.0)
    why_refused (NoRoom room) goes_on at cause = (none, refused_there (Full room) ready (goes_on (λ is. cc is)) (at (λ is. cc is)) cause)
    why_refused Memory goes_on at cause = tt
    why_refused Fault goes_on at cause = tt
