-- Runs one after another over a device that nobody altered.
use Rattle.std.proofs.Common.{◌≡◌, inl, inr, ⊎_elim, ℕ, ◌≤◌, List, [], ◌∷◌, ◌++◌, IsTrue, Bool, refl, sym, ◌∙◌, ap, subst, append-nil, arith}
use Rattle.tdb_base.specs.Rose.{Rose}
use Rattle.tdb_base.specs.Trace.{IsNumbered, Trace, WrittenPiece}
use Rattle.tdb_base.specs.declared.suite.Suite.{Suite}
use Rattle.tdb_mark.specs.Unforged.{WasWritten}
use Rattle.tdb_model.specs.Apply.{History}
use Rattle.tdb_platform.specs.CrashStates.{CrashStates}
use Rattle.tdb_platform.specs.Outside.{Anchor, Outside}
use Rattle.tdb_overlay.specs.Images.{IsIntactIn, IsIntactUnder, IsReliableUnder}
use Rattle.tdb_overlay.specs.Log.{IsLog}
use Rattle.tdb_overlay.specs.Reading.{OnlyReads}
use Rattle.tdb_overlay.specs.Sound.{IsSound}
use Rattle.tdb_overlay.specs.StoreState.{StoreState}
use Rattle.tdb_overlay.proofs.OneLog.{log_is_one}
use Rattle.tdb_run.specs.Opens.{IsOpened}
use Rattle.tdb_run.specs.Ran.{HasAllOf, IsCaughtUp, Leaves}
use Rattle.tdb_run.specs.Runs.{IsKept, OneRun, Runs, StartsAgain, StartsBehind, last_of}
use Rattle.tdb_run.specs.UnalteredRuns.{EachGoesOn, GoesOn, StartsUnaltered, UnalteredRuns, history_after}
use Rattle.tdb_run.proofs.Following.{first_holds, holds_on, none_made, sound_back, starts}

module _ {D : Type 0} (outside : D → Outside) (crash_states : D → CrashStates)
    (counts : (p : D) (t u : ℕ) (i : List ℕ) (a : Anchor) → t ≤ u → u ≤ (outside p).clock → crash_states p u i a → crash_states p t i a)
    (numbered : (p : D) → IsTrue (outside p).tells → IsNumbered (outside p).trace) (secret : List ℕ) where
  abbrev written : D → List WrittenPiece
  written p = (outside p).trace.written

  -- What is kept between runs: the anchor's log is this one.
  record Stays (history : History) (last : StoreState) (p : D) : Type 0 where
    kept : IsKept outside crash_states secret p
    reliable : IsReliableUnder outside crash_states secret p
    caught : IsCaughtUp secret (outside p)
    suite : Suite
    log : IsLog (written p) (record { secret = secret; suite = suite }) (outside p).anchor history last

  starts_again : (p q : D) → StartsUnaltered outside crash_states p q → StartsAgain outside crash_states p q
  starts_again p q is = record {
    tells = is.tells;
    trace = is.trace;
    anchor = inl is.anchor;
    left = λ i a here. inr (i, is.left i a here);
  }

  module _ (p q r : D) (history : History) (from : StoreState) (stays : Stays history from p)
      (begins : StartsUnaltered outside crash_states p q) (run : OneRun outside crash_states secret q r) where
    same : written p ≡ written q
    same = ap (λ (t : Trace). t.written) (sym begins.trace)

    reliable_there : IsReliableUnder outside crash_states secret q
    reliable_there = record {
      honest = subst (λ (b : Bool). IsTrue b) (sym begins.honest) stays.reliable.honest;
      intact = λ i a here. subst (λ (ws : List WrittenPiece). IsIntactUnder i ws secret a) same
          (stays.reliable.intact i a (begins.left i a here));
    }

    caught_there : IsCaughtUp secret (outside q)
    caught_there text c was accepted = subst (λ (a : Anchor). c.count ≤ a.0) (sym begins.anchor)
        (stays.caught text c (subst (λ (ws : List WrittenPiece). WasWritten ws text) (sym same) was) accepted)

    log_there : IsLog (written q) (record { secret = secret; suite = stays.suite }) (outside q).anchor history from
    log_there = subst (λ (a : Anchor). IsLog (written q) (record { secret = secret; suite = stays.suite }) a history from) (sym begins.anchor)
        (subst (λ (ws : List WrittenPiece). IsLog ws (record { secret = secret; suite = stays.suite }) (outside p).anchor history from) same
        stays.log)

    -- where it begins, and that this is where the last one ended
    module _ (s : StartsBehind outside crash_states secret q r run (λ text c. WasWritten (written p) text) [])
        (unfailed : Rose (outside q).faults (outside r).faults → ⊥) where
      one_log : (s.history ≡ history) × (s.from ≡ from)
      one_log =
          let one = log_is_one (written q) s.store (record { secret = secret; suite = stays.suite }) s.given.keys (outside q).anchor s.history
          history s.from from s.given.log log_there in
          (one.0, one.1)

      abbrev made : History
      made = s.over.ran.opening ++ (s.over.ran.added ++ s.over.ran.own)

      reliable_its : IsReliableUnder outside crash_states s.store.secret q
      reliable_its = subst (λ (k : List ℕ). IsReliableUnder outside crash_states k q) (sym s.given.keys) reliable_there

      caught_its : IsCaughtUp s.store.secret (outside q)
      caught_its = subst (λ (k : List ℕ). IsCaughtUp k (outside q)) (sym s.given.keys) caught_there

      by_reads : OnlyReads outside crash_states q r → made ≡ []
          → HasAllOf (written r) s.store s.history made s.over.ran.maybe (outside r).anchor
      by_reads reads none = (
        [],
        s.from,
        (s.over.ran.maybe, refl),
        subst (λ (h : History). IsLog (written r) s.store (outside r).anchor h s.from)
            (sym (ap (λ (h : History). s.history ++ (h ++ [])) none ∙ append-nil s.history))
            (subst (λ (a : Anchor). IsLog (written r) s.store a s.history s.from) (sym (reads.anchor s.given.tells))
            (subst (λ (ws : List WrittenPiece). IsLog ws s.store (outside q).anchor s.history s.from) (sym (reads.written s.given.tells))
            s.given.log)),
      )

      reliable_by_leaves : Leaves outside crash_states s.store q r s.history made s.over.ran.maybe
          → IsReliableUnder outside crash_states secret r
      reliable_by_leaves l =
          let is = l.reliable reliable_its in
          record {
            honest = is.honest;
            intact = λ i a here. (
              s.store.suite,
              subst (λ (k : List ℕ). IsIntactIn i (written r) (record { secret = k; suite = s.store.suite }) a) s.given.keys
                  (is.intact i a here),
            );
          }

      reliable_by_reads : OnlyReads outside crash_states q r → IsReliableUnder outside crash_states secret r
      reliable_by_reads reads = record {
        honest = subst (λ (b : Bool). IsTrue b) (sym reads.honest) reliable_there.honest;
        intact = λ i a here. subst (λ (ws : List WrittenPiece). IsIntactUnder i ws secret a) (sym (reads.written s.given.tells))
            (reliable_there.intact i a (reads.left.each i a
            (counts r (outside q).clock (outside r).clock i a reads.left.later (omega arith) here)));
      }

      goes_on : GoesOn outside crash_states secret q r run s.history s.from
      goes_on = record {
        store = s.store;
        given = s.given;
        over = s.over;
        takes_none = s.over.takes_none caught_its;
        undamaged = s.over.undamaged reliable_its (subst (λ (k : List ℕ). IsOpened k (written q)) (sym s.given.keys) s.opened);
        ends = ⊎_elim (λ l. l.anchor)
            (λ read. by_reads read.0 (none_made s.over.ran.opening (s.over.ran.added ++ s.over.ran.own) s.over.ran.maybe read.1))
            s.over.stops;
        caught_up = subst (λ (k : List ℕ). IsCaughtUp k (outside r)) s.given.keys (s.over.caught_up caught_its unfailed);
      }

      stays_again : Stays (history_after goes_on) goes_on.ends.1 r
      unfolding goes_on
      stays_again = record {
        kept = (holds_on outside crash_states counts numbered secret p q r (λ text c. WasWritten (written p) text) []
            (first_holds outside crash_states counts numbered secret p stays.kept) (starts_again p q begins) run s).kept;
        reliable = ⊎_elim (λ l. reliable_by_leaves l) (λ read. reliable_by_reads read.0) s.over.stops;
        caught = goes_on.caught_up;
        suite = s.store.suite;
        log = subst (λ (k : List ℕ). IsLog (written r) (record { secret = k; suite = s.store.suite }) (outside r).anchor
            (history_after goes_on) goes_on.ends.1) s.given.keys goes_on.ends.3;
      }

      next : (g : GoesOn outside crash_states secret q r run history from) × Stays (history_after g) g.ends.1 r
      next = subst (λ (f : StoreState). (g : GoesOn outside crash_states secret q r run history f) × Stays (history_after g) g.ends.1 r)
          one_log.1
          (subst (λ (h : History). (g : GoesOn outside crash_states secret q r run h s.from) × Stays (history_after g) g.ends.1 r) one_log.0
          (goes_on, stays_again))

  -- each of these runs is one over a device that shows what it likes
  runs_of : (p : D) (rs : List (D × D)) → UnalteredRuns outside crash_states secret p rs → Runs outside crash_states secret p rs
  runs_of p [] ran = tt
  runs_of p (r ∷ rest) ran = (starts_again p r.0 ran.0, ran.1, runs_of r.1 rest ran.3)

  each_goes_on : (p : D) (rs : List (D × D)) (history : History) (from : StoreState) → Stays history from p
      → (ran : UnalteredRuns outside crash_states secret p rs) → IsSound secret (outside (last_of p rs))
      → EachGoesOn outside crash_states secret p rs ran history from
  each_goes_on p [] history from stays ran sound = tt
  each_goes_on p (r ∷ rest) history from stays ran sound =
      let then = sound_back outside crash_states counts numbered secret r.1 rest (runs_of r.1 rest ran.3) sound in
      let s = starts outside crash_states counts numbered secret p r.0 r.1 (λ text c. WasWritten (written p) text) []
      (first_holds outside crash_states counts numbered secret p stays.kept) (starts_again p r.0 ran.0) ran.1 then in
      let one = next p r.0 r.1 history from stays ran.0 ran.1 s ran.2 in (
        one.0,
        each_goes_on r.1 rest (history_after one.0) one.0.ends.1 one.1 ran.3 sound,
      )

  -- Each run goes on where the one before it ended.
  pub go_on : (p : D) (rs : List (D × D)) (suite : Suite) (history : History) (from : StoreState) → IsKept outside crash_states secret p
      → IsReliableUnder outside crash_states secret p → IsCaughtUp secret (outside p)
      → IsLog (written p) (record { secret = secret; suite = suite }) (outside p).anchor history from
      → (ran : UnalteredRuns outside crash_states secret p rs) → IsSound secret (outside (last_of p rs))
      → EachGoesOn outside crash_states secret p rs ran history from
  go_on p rs suite history from kept reliable caught log ran sound = each_goes_on p rs history from
      (record { kept = kept; reliable = reliable; caught = caught; suite = suite; log = log }) ran sound
