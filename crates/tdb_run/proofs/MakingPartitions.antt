-- The commit that makes partitions 1 and 2 was not made.
use Rattle.std.proofs.Common.{◌≡◌, ◌≢◌, ◌⊎◌, inl, inr, ⊎_elim, ℕ, ◌≤◌, false, List, [], ◌∷◌, Result, Err, IsTrue, refl, sym, ◌∙◌, ap, subst}
use Rattle.tdb_base.specs.declared.piece.Place.{Place}
use Rattle.tdb_base.specs.Trace.{IsNumbered}
use Rattle.tdb_model.specs.Apply.{History}
use Rattle.tdb_model.specs.HasCommitted.{HasCommitted}
use Rattle.tdb_model.specs.Opening.{opening_changes}
use Rattle.tdb_model.specs.declared.error.CommitError.{CommitError}
use Rattle.tdb_model.specs.declared.error.CommitError.TheVariants.{Stopped, TooManyChanges, PartitionNumber, NoPartition, PartitionExists, PartitionTwice, Frozen, RankTooLarge, ChunkTooLong, RingFull, CounterEnd, NoRoom, Memory, Fault}
use Rattle.tdb_platform.specs.CrashStates.{CrashStates}
use Rattle.tdb_platform.specs.Outside.{Anchor, Outside}
use Rattle.tdb_overlay.specs.Sound.{IsSound}
use Rattle.tdb_overlay.specs.StoreState.{StoreState}
use Rattle.tdb_overlay.specs.Found.{Store}
use Rattle.tdb_overlay.proofs.RanLaws.{sound_earlier}
use Rattle.tdb_chunk.specs.Standing.{IsReady, StandsAt, StoreRan}
use Rattle.tdb_chunk.specs.StoreMeans.{store_means}
use Rattle.tdb_chunk.specs.StoreView.{StoreView, store_in}
use Rattle.tdb_run.specs.Calls.{Calls}
use Rattle.tdb_run.specs.Ends.{stop_of_commit}
use Rattle.tdb_run.specs.Opened.{HasNotOpened, InItsState, IsWhyNot}
use Rattle.tdb_run.specs.Opens.{HasNone}
use Rattle.tdb_run.proofs.OpeningLaws.{begun_by, calls_ran, refused_by}
use Rattle.tdb_run.proofs.Refusing.{why_refused}

fault_or : (e : CommitError) → (e ≡ Fault) ⊎ (e ≢ Fault)
fault_or Stopped = inr (λ is. cc is)
fault_or (TooManyChanges number) = inr (λ is. cc is)
fault_or PartitionNumber = inr (λ is. cc is)
fault_or (NoPartition part) = inr (λ is. cc is)
fault_or (PartitionExists part) = inr (λ is. cc is)
fault_or (PartitionTwice part) = inr (λ is. cc is)
fault_or (Frozen part) = inr (λ is. cc is)
fault_or RankTooLarge = inr (λ is. cc is)
fault_or ChunkTooLong = inr (λ is. cc is)
fault_or RingFull = inr (λ is. cc is)
fault_or CounterEnd = inr (λ is. cc is)
fault_or (NoRoom room) = inr (λ is. cc is)
fault_or Memory = inr (λ is. cc is)
fault_or Fault = inl refl

module _ {D T : Type 0} (outside : D → Outside) (crash_states : D → CrashStates)
    (counts : (p : D) (t u : ℕ) (i : List ℕ) (a : Anchor) → t ≤ u → u ≤ (outside p).clock → crash_states p u i a → crash_states p t i a)
    (numbered : (p : D) → IsTrue (outside p).tells → IsNumbered (outside p).trace) (old new : StoreView D)
    (ready : IsReady outside crash_states old) (running : old.stopped ≡ false) (e : CommitError)
    (h : HasCommitted {C = StoreView D} (store_means outside crash_states) (opening_changes old.log.suite) old new {T = T} (Err e))
    (missing : InItsState outside old HasNone) (end : D) (is_end : end ≡ new.platform) where
  same_error : ◌≡◌ {A = Result T CommitError} (Err e) (Err Fault) → e ≡ Fault
  same_error is = cc is

  -- at most that commit was begun
  runs_on : (maybe : History) × StoreRan outside crash_states old [] maybe new
  runs_on = ⊎_elim
      (λ fault. let begun = h.begun (ap Err fault) in ((begun.count, opening_changes old.log.suite) ∷ [], begun.runs))
      (λ isnt. ([], (h.refused isnt).runs)) (fault_or e)

  pub calls_not_made : Calls outside crash_states old.secret old.platform end
  calls_not_made = subst (λ (p : D). Calls outside crash_states old.secret old.platform p) (sym is_end)
      (calls_ran outside crash_states counts numbered old new [] runs_on.0 runs_on.1)

  module _ (sound_end : IsSound old.secret (outside end)) (history : History) (from : StoreState)
      (stands : StandsAt outside old history from) where
    sound : IsSound old.secret (outside new.platform)
    sound = subst (λ (p : D). IsSound old.secret (outside p)) is_end sound_end

    none : HasNone from.chunks
    none = missing (sound_earlier outside crash_states counts numbered (store_in old) old.platform new.platform runs_on.1.tells
        runs_on.1.grows sound) history from stands

    pub not_made : HasNotOpened outside crash_states (store_in old) old.platform end from
    not_made = subst (λ (p : D). HasNotOpened outside crash_states (store_in old) old.platform p from) (sym is_end)
        (⊎_elim
        (λ fault. begun_by outside crash_states counts numbered old new ready running sound history from stands none
        (h.begun (ap Err fault)))
        (λ isnt. refused_by outside crash_states counts numbered old new ready running sound history from stands (h.refused isnt).runs)
        (fault_or e))

    sound_new : IsSound new.secret (outside new.platform)
    sound_new = subst (λ (s : List ℕ). IsSound s (outside new.platform)) (sym (ap (λ (s : Store). s.secret) runs_on.1.same)) sound

    pub why_not_made : IsReady outside crash_states new → (earlier : Outside) (slot : Place)
        → IsWhyNot (store_in old) earlier (outside end) from (stop_of_commit e slot)
    why_not_made ready_new earlier slot = subst (λ (p : D). IsWhyNot (store_in old) earlier (outside p) from (stop_of_commit e slot)) (sym is_end)
        (why_refused outside crash_states old new runs_on.1.same running sound_new history from stands none ready_new earlier slot e
        (λ isnt. h.goes_on (λ is. isnt (same_error is)) ∙ running)
        (λ isnt. (h.refused isnt).state sound_new from.chunks (history, from, stands, refl))
        h.cause)
