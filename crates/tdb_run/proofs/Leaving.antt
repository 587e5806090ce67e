-- What a stop leaves of a run that was told its anchor, and which texts that run wrote.
use Rattle.std.proofs.Common.{◌≡◌, ◌⊎◌, inl, inr, ⊎_elim, ℕ, ◌≤◌, List, [], ◌++◌, IsTrue, Bool, sym, ◌∙◌, ap, subst, arith}
use Rattle.tdb_base.specs.Trace.{Extends, IsNumbered, WrittenPiece}
use Rattle.tdb_mark.specs.declared.commit.Commit.{Commit}
use Rattle.tdb_mark.specs.Unforged.{WasWritten}
use Rattle.tdb_model.specs.Apply.{History}
use Rattle.tdb_platform.specs.CrashStates.{CrashStates, now}
use Rattle.tdb_platform.specs.Outside.{Anchor, Outside, Rose}
use Rattle.tdb_overlay.specs.Found.{Store}
use Rattle.tdb_overlay.specs.Images.{IsIntactUnder, IsReliable, IsReliableUnder}
use Rattle.tdb_overlay.specs.Log.{IsLog}
use Rattle.tdb_overlay.specs.Ran.{EachHasLog, EndsBehind, FromLeft, RanOn}
use Rattle.tdb_overlay.specs.Sound.{IsSound}
use Rattle.tdb_overlay.specs.StoreState.{StoreState}
use Rattle.tdb_overlay.specs.WellFormedLog.{IsAccepted, IsAnchored, IsWellFormedLog, IsWellFormedTrace}
use Rattle.tdb_overlay.proofs.OneLog.{log_names}
use Rattle.tdb_overlay.proofs.RanLaws.{anchor_after, ran_reads, ran_then, reliable_after, reliable_of, sound_before, still_intact}
use Rattle.tdb_overlay.proofs.TextsRan.{no_rise}
use Rattle.tdb_recover.specs.Premises.{Premises}
use Rattle.tdb_recover.specs.Settled.{RanSettled}
use Rattle.tdb_run.specs.Ran.{HasAllOf, HasFirstTexts, IsCaughtUp, Leaves}

module _ {D : Type 0} (outside : D → Outside) (crash_states : D → CrashStates)
    (counts : (p : D) (t u : ℕ) (i : List ℕ) (a : Anchor) → t ≤ u → u ≤ (outside p).clock → crash_states p u i a → crash_states p t i a)
    (numbered : (p : D) → IsTrue (outside p).tells → IsNumbered (outside p).trace) (secret : List ℕ) (store : Store) (old new : D)
    (history surely maybe : History) (from : StoreState) (sound : IsSound store.secret (outside new))
    (given : Premises (outside old) (outside new) secret store history from)
    (r : RanSettled outside crash_states store old surely maybe new) where
  abbrev before : List WrittenPiece
  before = (outside old).trace.written

  abbrev mid_written : List WrittenPiece
  mid_written = (outside r.mid).trace.written

  abbrev after : List WrittenPiece
  after = (outside new).trace.written

  mid_sound : IsSound store.secret (outside r.mid)
  mid_sound = sound_before outside crash_states counts numbered store r.mid new surely maybe r.rest sound

  told : IsTrue (outside old).tells
  told = given.tells

  same : mid_written ≡ before
  same = r.reads.written told

  at_start : (outside r.mid).anchor ≡ (outside old).anchor
  at_start = r.reads.anchor told

  mid_log : IsLog mid_written store (outside r.mid).anchor history from
  mid_log = subst (λ (a : Anchor). IsLog mid_written store a history from) (sym at_start)
      (subst (λ (ws : List WrittenPiece). IsLog ws store (outside old).anchor history from) (sym same) given.log)

  -- what a stop could leave then is the anchor that was told
  at_mid : (i : List ℕ) (a : Anchor) → now outside crash_states r.mid i a → a ≡ (outside r.mid).anchor
  at_mid i a here = r.settled mid_sound.tells i a here

  log_of : (i : List ℕ) (a : Anchor) → now outside crash_states r.mid i a → IsLog mid_written store a history from
  log_of i a here = subst (λ (b : Anchor). IsLog mid_written store b history from) (sym (at_mid i a here)) mid_log

  each_log : EachHasLog outside crash_states store r.mid
  each_log i a here = (history, from, log_of i a here)

  kept_then : IsWellFormedLog mid_written store.secret (outside r.mid).anchor
  kept_then = record {
    trace = subst (λ (ws : List WrittenPiece). IsWellFormedTrace ws store.secret) (sym same) given.formed;
    anchored = log_names mid_written store (outside r.mid).anchor history from mid_log;
  }

  -- an anchor that comes from it is one of the trace
  kept_from : (some rest : History) (i : List ℕ) (a : Anchor) → FromLeft outside crash_states store r.mid new some rest i a
      → IsWellFormedLog after store.secret a
  kept_from some rest i a f = record {
    trace = r.rest.formed sound kept_then;
    anchored = f.anchored (subst (IsAnchored mid_written store.secret) (sym (at_mid f.image f.anchor f.left)) kept_then.anchored);
  }

  by_left : (some rest : History) (i : List ℕ) (a : Anchor) → FromLeft outside crash_states store r.mid new some rest i a
      → HasAllOf after store history some rest a
  by_left some rest i a f = f.leads history from (log_of f.image f.anchor f.left)

  -- what could be left then could be left at the start
  earlier : (i : List ℕ) (a : Anchor) → now outside crash_states r.mid i a → now outside crash_states old i a
  earlier i a here = r.reads.left.each i a
      (counts r.mid (outside old).clock (outside r.mid).clock i a r.reads.left.later (omega arith) here)

  reliable_then : IsReliableUnder outside crash_states store.secret old → IsReliable outside crash_states store r.mid
  reliable_then reliable = reliable_of outside crash_states counts numbered store r.mid each_log (record {
    honest = subst (λ (b : Bool). IsTrue b) (sym r.reads.honest) reliable.honest;
    intact = λ i a here. subst (λ (ws : List WrittenPiece). IsIntactUnder i ws store.secret a) (sym same)
        (reliable.intact i a (earlier i a here));
  })

  -- Where the platform was reliable, it is, and each pair that a stop may leave since the start is intact.
  pub reliable_now : IsReliableUnder outside crash_states store.secret old → IsReliable outside crash_states store new
  reliable_now reliable =
      reliable_after outside crash_states counts numbered store r.mid new surely maybe r.rest sound (reliable_then reliable)

  whole : RanOn outside crash_states store old surely maybe new
  whole = ran_then outside crash_states counts numbered store old r.mid new [] surely maybe
      (ran_reads outside crash_states counts numbered store old r.mid r.reads) r.rest

  intact_then : IsReliableUnder outside crash_states store.secret old → (i : List ℕ) (a : Anchor)
      → crash_states new (outside old).clock i a → IsIntactUnder i after store.secret a
  intact_then reliable i a since = ⊎_elim
      (λ past.
      let is = reliable.intact i a (r.reads.left.each i a past) in
      (is.0, still_intact (record { secret = store.secret; suite = is.0 }) (outside old).trace (outside new).trace (whole.grows told) a i is.1))
      (λ later.
      let f = r.rest.moments.each i a later sound in
      let were = reliable_then reliable in
      (store.suite, f.spares were.honest (were.intact f.image f.anchor f.left)))
      (r.rest.moments.before (outside old).clock i a r.reads.left.later since)

  -- While the anchor counts nothing, or a stop may leave one that does, no text counts more than 1.
  first_now : (outside new).anchor.0 ≡ 0 → HasFirstTexts store.secret (outside new)
  first_now none text c was accepted =
      let less = r.rest.counts sound history from mid_log in
      let at = ap (λ (b : Anchor). b.0) at_start in
      ⊎_elim
      (λ past. given.first (omega (arith, less, at, none)) text c (subst (λ (ws : List WrittenPiece). WasWritten ws text) same past) accepted)
      (λ le. omega (arith, le, none))
      ((r.rest.texts sound).near_own history from mid_log text c was accepted)

  first_left : (i : List ℕ) (a : Anchor) → now outside crash_states new i a → a.0 ≡ 0 → HasFirstTexts store.secret (outside new)
  first_left i a here none text c was accepted =
      let f = r.rest.left sound i a here in
      let less = f.counts history from (log_of f.image f.anchor f.left) in
      let at = ap (λ (b : Anchor). b.0) (at_mid f.image f.anchor f.left ∙ at_start) in
      ⊎_elim
      (λ past. given.first (omega (arith, less, at, none)) text c (subst (λ (ws : List WrittenPiece). WasWritten ws text) same past) accepted)
      (λ bound. let le = bound i a here in omega (arith, le, none))
      ((r.rest.texts sound).near each_log text c was accepted)

  -- Where no text counted more than the anchor, it is so again if no call failed.
  pub caught_up_still : IsCaughtUp store.secret (outside old) → (Rose (outside old).faults (outside new).faults → ⊥)
      → IsCaughtUp store.secret (outside new)
  caught_up_still caught none text c was accepted =
      let quiet = no_rise (outside old).faults (outside r.mid).faults (outside new).faults r.reads.faults r.rest.faults none in
      let more = r.rest.counts sound history from mid_log in
      let at = ap (λ (b : Anchor). b.0) at_start in
      ⊎_elim
      (λ past.
      let le = caught text c (subst (λ (ws : List WrittenPiece). WasWritten ws text) same past) accepted in
      omega (arith, le, more, at))
      (λ le. le)
      ((r.rest.texts sound).reached history from mid_log quiet.1 text c was accepted)

  -- Each text was there, or it ends a log behind the anchor's.
  pub text_behind : (text : List ℕ) (c : Commit) → WasWritten after text → IsAccepted store.secret text c
      → WasWritten before text ⊎ EndsBehind after store history (surely ++ maybe) text c
  text_behind text c was accepted = ⊎_elim
      (λ past. inl (subst (λ (ws : List WrittenPiece). WasWritten ws text) same past)) (λ ends. inr ends)
      ((r.rest.texts sound).behind history from mid_log text c was accepted)

  -- what is well formed then
  pub formed_still : IsWellFormedTrace after store.secret
  formed_still = r.rest.formed sound kept_then

  pub grows_on : Extends (outside old).trace (outside new).trace
  grows_on = whole.grows told

  pub leaves : Leaves outside crash_states store old new history surely maybe
  leaves = record {
    moment = (outside r.mid).clock;
    within = (r.reads.left.later, r.rest.moments.later);
    before = λ i a since. ⊎_elim (λ past. inl (r.reads.left.each i a past)) inr
        (r.rest.moments.before (outside old).clock i a r.reads.left.later since);
    since = λ i a since. by_left [] (surely ++ maybe) i a (r.rest.moments.each i a since sound);
    left = λ i a here. by_left surely maybe i a (r.rest.left sound i a here);
    anchor = r.rest.leads sound history from mid_log;
    kept = record {
      anchor = anchor_after outside crash_states counts numbered store r.mid new surely maybe r.rest sound kept_then;
      left = λ i a here. kept_from surely maybe i a (r.rest.left sound i a here);
    };
    kept_since = λ i a since. kept_from [] (surely ++ maybe) i a (r.rest.moments.each i a since sound);
    reliable = reliable_now;
    intact_since = intact_then;
    first = record { anchor = first_now; left = first_left };
  }
