-- Steps of a run, told by another result.
use Rattle.std.proofs.Common.{◌≡◌, Result, Ok, Err, IsErr, subst}
use Rattle.std.proofs.lemmas.Bool.{false≢true}
use Rattle.tdb_model.specs.Apply.{History}
use Rattle.tdb_platform.specs.Outside.{Outside}
use Rattle.tdb_platform.specs.CrashStates.{CrashStates}
use Rattle.tdb_overlay.specs.Found.{Store}
use Rattle.tdb_overlay.specs.Ran.{RanStep}
use Rattle.tdb_overlay.proofs.RanLaws.{ran_none}

module _ {D : Type 0} (outside : D → Outside) (crash_states : D → CrashStates) (store : Store) (added : History) where
  module _ (p : D) where
    -- A call that did nothing, and failed.
    pub none_step : {T E : Type 0} (e : E) → RanStep {T = T} outside crash_states store added p p (Err e)
    none_step e = record { ok = tt; begun = ran_none outside crash_states store p added }

    pub none_by : {T E : Type 0} (r : Result T E) → IsErr r → RanStep outside crash_states store added p p r
    none_by (Ok x) err = absurd (false≢true err)
    none_by (Err e) err = none_step e

  module _ (old new : D) where
    -- The same step, after a result that is as good
    pub step_ok : {T E V F : Type 0} (r : Result T E) (x : T) (y : V) → r ≡ Ok x → RanStep outside crash_states store added old new r
        → RanStep {E = F} outside crash_states store added old new (Ok y)
    step_ok r x y is step = record {
      ok = (subst (λ (q : Result _ _). RanStep outside crash_states store added old new q) is step).ok;
      begun = tt;
    }

    -- or as bad.
    pub step_err : {T E V F : Type 0} (r : Result T E) (x : E) (y : F) → r ≡ Err x → RanStep outside crash_states store added old new r
        → RanStep {T = V} outside crash_states store added old new (Err y)
    step_err r x y is step = record {
      ok = tt;
      begun = (subst (λ (q : Result _ _). RanStep outside crash_states store added old new q) is step).begun;
    }
