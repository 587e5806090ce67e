-- What a commit call does, by what became of its put, and of one that was refused.
use Rattle.std.proofs.Common.{◌≡◌, ◌≢◌, inl, ◌+◌, ◌<◌, ℕ, List, [], ◌∷◌, ◌++◌, Some, Result, Ok, Err, IsTrue, refl, sym, ◌∙◌, ap, subst, arith, replicate}
use Rattle.std.specs.Prelude.{IfOk, OnOk}
use Rattle.std.specs.List.{AllByRecursion}
use Rattle.std.proofs.lemmas.Bool.{false≢true}
use Rattle.tdb_append.specs.declared.head.Head.{Head}
use Rattle.tdb_append.specs.Placed.{Placed, with_all_written}
use Rattle.tdb_append.specs.Put.{Puts}
use Rattle.tdb_base.specs.declared.failed.Failed.{Failed}
use Rattle.tdb_base.specs.Trace.{Extends}
use Rattle.tdb_list.specs.declared.entry.Entry.{Entry}
use Rattle.tdb_list.specs.ChangeList.{IsList}
use Rattle.tdb_list.specs.Entry.{IsEntryValue}
use Rattle.tdb_mark.specs.declared.commit.Commit.{Commit}
use Rattle.tdb_mark.specs.CommitText.{commit_key_of, commit_of}
use Rattle.sha2.specs.Sha256.{sha256}
use Rattle.tdb_mark.specs.Unforged.{IsUnforged}
use Rattle.tdb_base.specs.declared.suite.Suite.{Suite}
use Rattle.tdb_model.specs.declared.change.Change.{Change}
use Rattle.tdb_model.specs.declared.error.CommitError.{CommitError}
use Rattle.tdb_model.specs.declared.error.CommitError.TheVariants.{Fault, Memory, NoRoom}
use Rattle.tdb_model.specs.Apply.{History}
use Rattle.tdb_platform.specs.Outside.{Anchor, Outside, Told}
use Rattle.tdb_platform.specs.CrashStates.{CrashStates, LeavesOnly, Pairs, now}
use Rattle.tdb_platform.proofs.Moments.{started}
use Rattle.tdb_seg.specs.SegmentSpace.{SegmentSpace}
use Rattle.tdb_overlay.specs.Covering.{noted_all}
use Rattle.tdb_overlay.specs.Found.{Store}
use Rattle.tdb_overlay.specs.Growth.{IsSettled, OneCommit}
use Rattle.tdb_overlay.specs.Log.{IsLog}
use Rattle.tdb_overlay.specs.SealedOnly.{OnlySealed}
use Rattle.tdb_overlay.specs.StoreState.{StoreState, commit_on, committed}
use Rattle.tdb_mark.specs.CommitChain.{commit_chain}
use Rattle.tdb_chunk.specs.Committing.{AddedFrom, IsCommitCall, IsLonger, is_refusal}
use Rattle.tdb_chunk.specs.Known.{IsAtHead, Knows, store_of}
use Rattle.tdb_chunk.specs.Preparing.{IsNext, IsPrepared, refused_by}
use Rattle.tdb_overlay.specs.PutStep.{IsPutStep}
use Rattle.tdb_chunk.specs.Stepping.{HasKnownLog}
use Rattle.tdb_overlay.specs.Sound.{IsSound}
use Rattle.tdb_base.specs.declared.piece.NoRoom as room
use Rattle.tdb_overlay.specs.declared.batch.LayError.{LayError}
use Rattle.tdb_overlay.specs.declared.batch.LayError.TheVariants as lay
use Rattle.tdb_overlay.specs.Text.{anchor_of, next_head, text_in_slot, text_of}
use Rattle.tdb_chunk.specs.declared.open_log.OpenLog.{OpenLog}
use Rattle.tdb_chunk.proofs.Committing.{allowed_on, next_known, next_step}
use Rattle.tdb_chunk.proofs.Growing.{Counts, Steps, added_err, added_ok, none_added, put_added}
use Rattle.tdb_overlay.proofs.SealedPuts.{sealed_none}
use Rattle.tdb_overlay.proofs.PutLogs.{found_in_put, grows_all, longer_chain, follows_is, unread_by}
use Rattle.tdb_chunk.proofs.Logs.{put_adds}
use Rattle.tdb_chunk.proofs.Stepping.{commit_goes_on}
use Rattle.tdb_overlay.proofs.StepResults.{none_step, step_err, step_ok}
use Rattle.tdb_overlay.specs.Ran.{RanStep}
use Rattle.std.proofs.lemmas.List.{append-nil}

no_fault : (e : CommitError) → ◌≡◌ {A = CommitError} e Fault → IsTrue (is_refusal e) → ⊥
no_fault e is refusal = false≢true (sym (ap is_refusal is) ∙ refusal)

fault_of : {T : Type 0} (e : CommitError) → ◌≡◌ {A = Result T CommitError} (Err e) (Err Fault) → e ≡ Fault
fault_of e is = cc

ok_is_no_err : {T : Type 0} (x : T) → ◌≡◌ {A = Result T CommitError} (Ok x) (Err Fault) → ⊥
ok_is_no_err x is = cc

-- what a stop may leave, with nothing said of it
any_time : {D : Type 0} (outside : D → Outside) (crash_states : D → CrashStates) (old new : D) {Q : Pairs} → LeavesOnly outside crash_states old new Q
    → LeavesOnly outside crash_states old new (λ i a. Unit {0})
any_time outside crash_states old new m = record { later = m.later; each = λ i a left. tt; before = m.before; keeps = m.keeps }

-- a commit that was refused, or wanted memory, before anything was written
pub refused_call : {D : Type 0} (outside : D → Outside) (crash_states : D → CrashStates) (counts : Counts outside crash_states) (changes : List Change) (was now_is : OpenLog) (p : D) (e : CommitError) → IsSettled outside crash_states p → e ≢ Fault
    → now_is ≡ was → ((last : StoreState) → Knows (outside p) was last → IsTrue (is_refusal e) → commit_on (store_of was) last changes ≡ Err e)
    → IsCommitCall {T = Unit {0}} outside crash_states changes was now_is p p (Err e)
refused_call {D} outside crash_states counts changes was now_is p e settled isnt kept refuses = record {
  added = λ tells. none_added {T = Unit {0}} {E = CommitError} outside crash_states counts (Knows (outside p) was) (OneCommit (store_of was) changes) (store_of was) p (Err e) tells settled refl;
  knows = λ tells. tt;
  refused = λ last known refusal. refuses last known refusal;
  allowed = λ last known. tt;
  fault_allowed = λ is. absurd (isnt (fault_of {T = Unit {0}} e is));
  kept = kept;
  platform_stays = λ is. refl;
  at_head = tt;
  same_store = tt;
  count = tt;
  settled = tt;
  cause = λ is. absurd (isnt (fault_of {T = Unit {0}} e is));
  tells = refl;
  honest = refl;
  faults = omega arith;
  moments = started outside crash_states counts p (λ i a. Unit {0}) (λ i a left. tt);
  quiet = tt;
  unread = λ tells. refl;
  sealed = λ tells. sealed_none was.keys (outside p).trace;
  steps = λ has. none_step outside crash_states (store_of was) ((was.log.head.count + 1, changes) ∷ []) p e;
}

-- what the put of a commit says
pub record PutCommit {D : Type 0} (outside : D → Outside) (crash_states : D → CrashStates) (secret : List ℕ) (head : Head) (c : Commit) (ps : List Placed) (old new : D) (result : Result Head Failed) : Type 0 where
  pub puts : Puts outside crash_states old new (ps ++ text_in_slot secret c ∷ []) (anchor_of secret c) result
  pub advanced : IsTrue (outside old).tells → OnOk result ((outside new).anchor ≡ anchor_of secret c)
  pub only : IsTrue (outside old).tells → OnOk result ((i : List ℕ) (a : Anchor) → now outside crash_states new i a → a ≡ anchor_of secret c)
  pub head_is : IfOk result (λ next. next ≡ next_head secret head c)
  pub reads : commit_of (commit_key_of secret) (text_of secret c) ≡ Some c
  pub told : Told (outside old) (outside new) result
  pub quiet : OnOk result ((outside new).faults ≡ (outside old).faults)
  pub sealed : OnlySealed secret (outside old) (outside new)
  pub steps : IsPutStep outside crash_states secret c ps old new result

module _ {D : Type 0} (outside : D → Outside) (crash_states : D → CrashStates) (counts : Counts outside crash_states) (was : OpenLog) (keep : ℕ) (entries : List Entry) (before : List Placed) (behind : SegmentSpace) (changes : List Change) (old new : D)
    (prepared : IsPrepared (outside old) was keep entries before behind changes) (list : IsList entries) (values : AllByRecursion IsEntryValue entries) (not_full : was.log.head.count ≢ was.log.head.base + 1000) (counts_on : was.log.head.count < 18446744073709551615)
    (c : Commit) (ps : List Placed) (space : SegmentSpace) (next : IsNext was keep entries before behind c ps space) (at_head : IsAtHead (outside old) was) (settled : IsSettled outside crash_states old) where
  abbrev secret : List ℕ
  secret = was.keys

  abbrev store : Store
  store = store_of was

  steps : Steps (Knows (outside old) was) store (outside old) ps c (OneCommit store changes)
  steps before_h from is known = (
    (from.count + 1, changes) ∷ [],
    committed from changes space,
    (refl, allowed_on (outside old) was keep entries before behind changes prepared list not_full counts_on from known c ps space next values),
    next_step (outside old) was keep entries before behind changes prepared list not_full counts_on from known c ps space next values,
  )

  counted : c.count ≡ was.log.head.count + 1
  counted = ap (λ (k : Commit). k.count) next.commit

  prev : c.prev.0 ≡ was.log.head.mark.0
  prev = ap (λ (k : Commit). k.prev.0) next.commit

  some : was.log.head.count ≡ 0 → was.log.head.mark.0 ≡ replicate 32 0
  some zero = absurd (omega (arith, zero, was.counts.some, was.counts.base))

  at_count : IsTrue (outside old).tells → (outside old).anchor.0 ≡ was.log.head.count
  at_count tells = ap (λ (a : Anchor). a.0) (at_head tells)

  added_by : (result : Result Head Failed) → PutCommit outside crash_states secret was.log.head c ps old new result → IsTrue (outside old).tells
      → AddedFrom outside crash_states (Knows (outside old) was) store old new (OneCommit store changes) result
  added_by result put tells =
      put_added outside crash_states counts (Knows (outside old) was) (OneCommit store changes) store old new was.log.head.count was.log.head.mark.0 (text_in_slot secret c) ps c put.reads counted prev some steps tells (at_count tells) (inl (at_head tells))
      settled result put.puts (put.advanced tells) (put.only tells)

  step_by : (result : Result Head Failed) → PutCommit outside crash_states secret was.log.head c ps old new result
      → (IsSound secret (outside old) → HasKnownLog (outside old) was)
      → RanStep outside crash_states store ((was.log.head.count + 1, changes) ∷ []) old new result
  step_by result put has = put.steps was.log.suite ((was.log.head.count + 1, changes) ∷ []) settled
      (λ sound. commit_goes_on (outside old) was keep entries before behind changes prepared list values not_full counts_on c ps space next
      at_head sound.tells (has sound))

  pub fault_call : (now_is : OpenLog) (x : Failed) → PutCommit outside crash_states secret was.log.head c ps old new (Err x) → now_is ≡ was → IsCommitCall {T = Unit {0}} outside crash_states changes was now_is old new (Err Fault)
  fault_call now_is x put kept = record {
    added = λ tells. added_err outside crash_states (Knows (outside old) was) (OneCommit store changes) store old new (Err x) (Err Fault) refl (added_by (Err x) put tells);
    knows = λ tells. tt;
    refused = λ last known refusal. absurd (false≢true refusal);
    allowed = λ last known. tt;
    fault_allowed = λ is last known. (committed last changes space, allowed_on (outside old) was keep entries before behind changes prepared list not_full counts_on last known c ps space next values);
    kept = kept;
    platform_stays = λ isnt. absurd (isnt refl);
    at_head = tt;
    same_store = tt;
    count = tt;
    settled = tt;
    cause = λ is. put.told.cause refl;
    tells = put.told.tells;
    honest = put.told.honest;
    faults = put.told.no_fewer_faults;
    moments = any_time outside crash_states old new put.puts.any_moment;
    quiet = tt;
    unread = λ tells. unread_by (outside old).trace (outside new).trace put.puts.done (put.puts.wrote.trace tells);
    sealed = put.sealed;
    steps = λ has. step_err outside crash_states store ((was.log.head.count + 1, changes) ∷ []) old new (Err x) x Fault refl
        (step_by (Err x) put has);
  }

  module _ (now_is : OpenLog) (x : Unit {0}) (head : Head) (put : PutCommit outside crash_states secret was.log.head c ps old new (Ok head)) (keys : now_is.keys ≡ was.keys) (suite : now_is.log.suite ≡ was.log.suite) (head_is : now_is.log.head ≡ head) (segments : now_is.log.segments ≡ space)
      (overlay : now_is.log.overlay ≡ noted_all c.count was.log.overlay entries) (tree : now_is.log.tree ≡ was.log.tree) where
    head_next : now_is.log.head ≡ next_head secret was.log.head c
    head_next = head_is ∙ put.head_is

    whole : ps ++ text_in_slot secret c ∷ [] ≡ put.puts.done
    whole = put.puts.in_order ∙ ap (λ (l : List Placed). put.puts.done ++ l) (put.puts.complete refl) ∙ append-nil put.puts.done

    same_as : store_of now_is ≡ store
    same_as =
        ap (λ (s : List ℕ). let y : Store = record { secret = s; suite = now_is.log.suite } in y) keys
        ∙ ap (λ (s : Suite). let y : Store = record { secret = was.keys; suite = s } in y) suite

    -- the chain of the new anchor is one text longer
    chain_of : (outside new).trace ≡ with_all_written (outside old).trace (ps ++ text_in_slot secret c ∷ []) → (outside new).anchor ≡ (was.log.head.count + 1, sha256 (text_of secret c)) → IsUnforged (outside new).trace (commit_of (commit_key_of secret))
        → (chain : List Commit) → (outside old).anchor ≡ (was.log.head.count, was.log.head.mark.0) → commit_chain (outside old).trace.written (commit_of (commit_key_of secret)) (outside old).anchor.0 (outside old).anchor.1 ≡ Some chain
        → commit_chain (outside new).trace.written (commit_of (commit_key_of secret)) (outside new).anchor.0 (outside new).anchor.1 ≡ Some (chain ++ c ∷ [])
    chain_of all at unforged chain at_old ends =
        subst (λ (a : Anchor). commit_chain (outside new).trace.written (commit_of (commit_key_of secret)) a.0 a.1 ≡ Some (chain ++ c ∷ [])) (sym at)
        (longer_chain store (outside old).trace (outside new).trace was.log.head.count was.log.head.mark.0 (text_in_slot secret c) ps c chain put.reads prev (follows_is was.log.head.count c counted (λ zero. prev ∙ some zero)) all unforged
        (subst (λ (a : Anchor). commit_chain (outside old).trace.written (commit_of (commit_key_of secret)) a.0 a.1 ≡ Some chain) at_old ends))

    longer : IsTrue (outside old).tells → IsUnforged (outside new).trace (commit_of (commit_key_of secret)) → (before_h : History) (from : StoreState) → IsLog (outside old).trace.written store (outside old).anchor before_h from → Knows (outside old) was from
        → IsLonger (outside old) (outside new) was now_is changes before_h from
    longer tells unforged before_h from is known =
        let wrote = put.puts.wrote.trace tells in
        let all = wrote ∙ ap (with_all_written (outside old).trace) (sym whole) in
        let finer = found_in_put (commit_of (commit_key_of secret)) (outside old).trace (outside new).trace ps (text_in_slot secret c) all unforged in
        let at : (outside new).anchor ≡ (was.log.head.count + 1, sha256 (text_of secret c)) = put.advanced tells ∙ ap (λ (n : ℕ). (n, sha256 (text_of secret c))) counted in
        record {
          to = committed from changes space;
          allowed = allowed_on (outside old) was keep entries before behind changes prepared list not_full counts_on from known c ps space next values;
          log =
              put_adds store (outside old) (outside new) was.log.head.count was.log.head.mark.0 (text_in_slot secret c) ps put.puts.done put.puts.rest c before_h ((from.count + 1, changes) ∷ []) from (committed from changes space) (outside new).anchor
              put.reads counted prev some (next_step (outside old) was keep entries before behind changes prepared list not_full counts_on from known c ps space next values) put.puts.in_order wrote (at_count tells) (inl (at_head tells))
              (put.puts.complete refl) at unforged is;
          knows =
              next_known (outside old) was keep entries before behind changes prepared list not_full counts_on from known c ps space next values (outside new) is.chain before_h
              (subst (Extends (outside old).trace) (sym wrote) (grows_all (outside old).trace put.puts.done)) finer is.ends is.tells
              (chain_of all at unforged is.chain (at_head tells) is.ends) now_is same_as (ap (λ (h : Head). h.count) head_next)
              (ap (λ (h : Head). h.base) head_next) segments overlay tree;
        }

    pub done_call : IsCommitCall {T = Unit {0}} outside crash_states changes was now_is old new (Ok x)
    done_call = record {
      added = λ tells. added_ok outside crash_states (Knows (outside old) was) (OneCommit store changes) store old new (Ok head) (Ok x) head refl (added_by (Ok head) put tells);
      knows = longer;
      refused = λ last known. tt;
      allowed = λ last known. (committed last changes space, allowed_on (outside old) was keep entries before behind changes prepared list not_full counts_on last known c ps space next values);
      fault_allowed = λ is. absurd (ok_is_no_err x is);
      kept = tt;
      platform_stays = tt;
      at_head = λ tells. put.advanced (subst IsTrue put.told.tells tells) ∙ sym (ap (λ (h : Head). (h.count, h.mark.0)) head_next);
      same_store = same_as;
      count = (ap (λ (h : Head). h.count) head_next ∙ counted, ap (λ (h : Head). h.base) head_next);
      settled = λ tells i a left. put.only (subst IsTrue put.told.tells tells) i a left ∙ sym (put.advanced (subst IsTrue put.told.tells tells));
      cause = λ is. absurd (ok_is_no_err x is);
      tells = put.told.tells;
      honest = put.told.honest;
      faults = put.told.no_fewer_faults;
      moments = any_time outside crash_states old new put.puts.any_moment;
      quiet = put.quiet;
      unread = λ tells. unread_by (outside old).trace (outside new).trace put.puts.done (put.puts.wrote.trace tells);
      sealed = put.sealed;
      steps = λ has. step_ok outside crash_states store ((was.log.head.count + 1, changes) ∷ []) old new (Ok head) head x refl
          (step_by (Ok head) put has);
    }

-- a record that got no place is no fault of the platform
pub refused_is_no_fault : (error : LayError) (e : CommitError) → e ≡ refused_by error → e ≢ Fault
refused_is_no_fault lay.Memory e is fault = let no_memory : ◌≡◌ {A = CommitError} Memory Fault = sym is ∙ fault in cc
refused_is_no_fault (lay.NoRoom refusal) e is fault = let no_room : ◌≡◌ {A = CommitError} (NoRoom refusal) Fault = sym is ∙ fault in cc

-- where it is a refusal, it is that of the placing
pub if_no_room : (store : Store) (last : StoreState) (changes : List Change) (error : LayError) (e : CommitError) → e ≡ refused_by error → IsTrue (is_refusal e) → ((refusal : room.NoRoom) → error ≡ lay.NoRoom refusal → commit_on store last changes ≡ Err (NoRoom refusal))
    → commit_on store last changes ≡ Err e
if_no_room st last changes lay.Memory e is refusal refuses = absurd (false≢true (sym (ap is_refusal is) ∙ refusal))
if_no_room st last changes (lay.NoRoom r) e is refusal refuses = refuses r refl ∙ ap (λ (x : CommitError). let y : Result StoreState CommitError = Err x in y) (sym is)

-- a refusal is no fault
pub refusal_is_no_fault : (e : CommitError) → IsTrue (is_refusal e) → e ≢ Fault
refusal_is_no_fault e refusal is = absurd (no_fault e is refusal)
