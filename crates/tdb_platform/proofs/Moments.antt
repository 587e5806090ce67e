-- How a run of a platform's calls goes on, from what a stop since its start may leave.
use Rattle.std.proofs.Common.{inl, inr, ⊎_elim, ℕ, ◌≤◌, List, arith}
use Rattle.tdb_platform.specs.Outside.{Outside, Anchor}
use Rattle.tdb_platform.specs.CrashStates.{CrashStates, Pairs, Elapses, now, LeavesOnly, Settles}

module _ {D : Type 0} (outside : D → Outside) (crash_states : D → CrashStates)
    (counts : (p : D) (t u : ℕ) (i : List ℕ) (a : Anchor) → t ≤ u → u ≤ (outside p).clock → crash_states p u i a → crash_states p t i a) where
  -- before the first call
  pub started : (old : D) (P : Pairs) → ((i : List ℕ) (a : Anchor) → now outside crash_states old i a → P i a) → LeavesOnly outside crash_states old old P
  started old P here = record {
    later = omega arith;
    each = here;
    before = λ t i a within left. inl left;
    keeps = λ t i a within left. left;
  }

  -- one call more, after which a stop leaves only pairs that have P
  pub goes_on : (old mid new : D) (P : Pairs) → LeavesOnly outside crash_states old mid P → Elapses (outside mid) (outside new) (crash_states mid) (crash_states new)
      → ((i : List ℕ) (a : Anchor) → now outside crash_states new i a → P i a) → LeavesOnly outside crash_states old new P
  goes_on old mid new P so_far time here = record {
    later = omega (arith, so_far.later, time.later);
    each = λ i a left. ⊎_elim (so_far.each i a) (here i a) (time.nothing_else (outside old).clock i a so_far.later left);
    before = λ t i a within left. ⊎_elim
        (λ earlier. ⊎_elim (λ at_start. inl at_start) (λ after. inr (time.keeps (outside old).clock i a so_far.later after)) (so_far.before t i a within earlier))
        (λ at_end. inr (counts new (outside old).clock (outside new).clock i a (omega (arith, so_far.later, time.later)) (omega arith) at_end))
        (time.nothing_else t i a (omega (arith, within, so_far.later)) left);
    keeps = λ t i a within left. time.keeps t i a (omega (arith, within, so_far.later)) (so_far.keeps t i a within left);
  }

  -- a call of a layer below, which leaves only pairs that have P
  pub goes_on_by : (old mid new : D) (P : Pairs) → LeavesOnly outside crash_states old mid P → LeavesOnly outside crash_states mid new P → LeavesOnly outside crash_states old new P
  goes_on_by old mid new P so_far then = record {
    later = omega (arith, so_far.later, then.later);
    each = λ i a left. ⊎_elim (so_far.each i a) (then.each i a) (then.before (outside old).clock i a so_far.later left);
    before = λ t i a within left. ⊎_elim
        (λ earlier. ⊎_elim (λ at_start. inl at_start) (λ after. inr (then.keeps (outside old).clock i a so_far.later after)) (so_far.before t i a within earlier))
        (λ since_mid. inr (counts new (outside old).clock (outside mid).clock i a so_far.later then.later since_mid))
        (then.before t i a (omega (arith, within, so_far.later)) left);
    keeps = λ t i a within left. then.keeps t i a (omega (arith, within, so_far.later)) (so_far.keeps t i a within left);
  }

  -- first calls after which a stop leaves no more than before, and then a call that leaves only pairs that have P
  pub settles : (old mid new : D) (P : Pairs) → LeavesOnly outside crash_states old mid (now outside crash_states old) → LeavesOnly outside crash_states mid new P
      → Settles outside crash_states old new P
  settles old mid new P first then = record {
    moment = (outside mid).clock;
    later = (first.later, then.later);
    first = λ i a left. ⊎_elim (λ earlier. inl (first.each i a earlier)) (λ since_mid. inr since_mid) (then.before (outside old).clock i a first.later left);
    rest = then.each;
  }
