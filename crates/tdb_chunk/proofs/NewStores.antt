-- What the start of a log on a platform makes of it, whose anchor was told before.
use Rattle.std.proofs.Common.{◌≡◌, ⊎_elim, ℕ, ◌≤◌, List, [], Some, Ok, Err, Result, Bool, IsTrue, refl, sym, subst}
use Rattle.std.proofs.lemmas.Bool.{false≢true}
use Rattle.std.specs.Prelude.{IfErr, OnOk}
use Rattle.tdb_base.specs.Trace.{IsNumbered}
use Rattle.tdb_mark.specs.CommitChain.{commit_chain}
use Rattle.tdb_mark.specs.CommitText.{commit_key_of, commit_of}
use Rattle.tdb_model.specs.Apply.{History}
use Rattle.tdb_platform.specs.CrashStates.{CrashStates, LeavesOnly, now}
use Rattle.tdb_platform.specs.Outside.{Anchor, Outside}
use Rattle.tdb_overlay.specs.Found.{Store}
use Rattle.tdb_overlay.specs.Growth.{HasGrownBy, IsSettled, UnlessErr}
use Rattle.tdb_overlay.specs.Log.{IsLog}
use Rattle.tdb_overlay.specs.Ran.{RanOn, RanStep}
use Rattle.tdb_overlay.specs.Reading.{OnlyReads}
use Rattle.tdb_overlay.specs.Sound.{IsSound}
use Rattle.tdb_overlay.specs.StoreState.{StoreState, first_state, formatted_state}
use Rattle.tdb_overlay.proofs.RanLaws.{ran_reads, ran_then}
use Rattle.tdb_chunk.specs.Formatting.{Formatted}
use Rattle.tdb_recover.specs.Settled.{RanSettled}
use Rattle.tdb_chunk.proofs.Growing.{leaves_weaker}

-- Where the anchor counts nothing, it has the log without a text.
no_text : (o : Outside) (store : Store) → o.anchor.0 ≡ 0 → IsLog o.trace.written store o.anchor [] first_state
no_text o store none = record {
  chain = [];
  ends = subst (λ (n : ℕ). commit_chain o.trace.written (commit_of (commit_key_of store.secret)) n o.anchor.1 ≡ Some []) (sym none) refl;
  tells = (refl, refl);
}

-- The start of a log behind no text is the log.
pub new_log : {T E : Type 0} (old new : Outside) (store : Store) (segments : ℕ) (result : Result T E) (x : T) → result ≡ Ok x → old.anchor.0 ≡ 0
    → HasGrownBy store old new (UnlessErr (Formatted store segments) result) new.anchor → IsSound store.secret new
    → IsLog new.trace.written store new.anchor [] (formatted_state store segments)
new_log {T} {E} old new store segments result x is none grown sound =
    let g = subst (λ (r : Result T E). HasGrownBy store old new (UnlessErr (Formatted store segments) r) new.anchor) is grown
    sound.unforged [] first_state (no_text old store none) in
    ⊎_elim
    (λ made. subst (λ (last : StoreState). IsLog new.trace.written store new.anchor [] last) made.2
    (subst (λ (history : History). IsLog new.trace.written store new.anchor history g.1) made.0 g.3))
    (λ failed. absurd (false≢true failed.0)) g.2

module _ {D : Type 0} (outside : D → Outside) (crash_states : D → CrashStates) (store : Store) (old mid new : D)
    (reads : OnlyReads outside crash_states old mid) (settled : IsSettled outside crash_states mid) where
  -- A step that adds nothing, whatever it answers, behind calls that only read.
  pub step_settled : {T E : Type 0} (result : Result T E) → RanStep outside crash_states store [] mid new result
      → RanSettled outside crash_states store old [] [] new
  step_settled (Ok x) step = record { mid = mid; reads = reads; settled = settled; rest = step.ok }
  step_settled (Err e) step = record { mid = mid; reads = reads; settled = settled; rest = step.begun }

module _ {D : Type 0} (outside : D → Outside) (crash_states : D → CrashStates)
    (counts : (p : D) (t u : ℕ) (i : List ℕ) (a : Anchor) → t ≤ u → u ≤ (outside p).clock → crash_states p u i a → crash_states p t i a)
    (numbered : (p : D) → IsTrue (outside p).tells → IsNumbered (outside p).trace) (store : Store) (old new : D) where
  -- What was made from such a moment on was made.
  pub settled_ran : (surely maybe : History) → RanSettled outside crash_states store old surely maybe new
      → RanOn outside crash_states store old surely maybe new
  settled_ran surely maybe r = ran_then outside crash_states counts numbered store old r.mid new [] surely maybe
      (ran_reads outside crash_states counts numbered store old r.mid r.reads) r.rest

  pub settled_moments : (surely maybe : History) → RanSettled outside crash_states store old surely maybe new
      → LeavesOnly outside crash_states old new (λ i a. Unit {0})
  settled_moments surely maybe r = leaves_weaker outside crash_states old new _ _ (settled_ran surely maybe r).moments (λ i a left. tt)

  -- a stop leaves the anchor that was told
  pub told_settled : (mid : D) → (outside mid).tells ≡ (outside old).tells
      → (IsTrue (outside old).tells → (i : List ℕ) (a : Anchor) → now outside crash_states mid i a → a ≡ (outside mid).anchor)
      → IsSettled outside crash_states mid
  told_settled mid same settles tells = settles (subst (λ (t : Bool). IsTrue t) same tells)

-- what holds whatever is answered
pub whatever_ok : {T E : Type 0} (r : Result T E) {Q : Type 0} → Q → OnOk r Q
whatever_ok (Ok x) q = q
whatever_ok (Err e) q = tt

pub whatever_err : {T E : Type 0} (r : Result T E) {Q : E → Type 0} → ((e : E) → Q e) → IfErr r Q
whatever_err (Ok x) q = tt
whatever_err (Err e) q = q e
