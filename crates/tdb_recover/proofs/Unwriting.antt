-- Calls that write nothing.
use Rattle.std.proofs.Common.{◌≡◌, ◌⊎◌, inl, inr, ⊎_elim, ℕ, ◌≤◌, List, IsTrue, Result, refl, sym, ap, subst, arith}
use Rattle.tdb_base.specs.Trace.{Extends, Trace}
use Rattle.tdb_base.proofs.Tracing.{extends_itself}
use Rattle.tdb_platform.specs.Outside.{Anchor, Outside, Told}
use Rattle.tdb_platform.specs.CrashStates.{CrashStates, Elapses, now}
use Rattle.tdb_recover.specs.Unwritten.{WritesNothing}

module _ {D : Type 0} (outside : D → Outside) (crash_states : D → CrashStates)
    (counts : (p : D) (t u : ℕ) (i : List ℕ) (a : Anchor) → t ≤ u → u ≤ (outside p).clock → crash_states p u i a
    → crash_states p t i a) where
  -- no call
  pub unwritten_nothing : (p : D) → WritesNothing outside crash_states p p
  unwritten_nothing p = record {
    grows = λ tells. extends_itself (outside p).trace;
    written = λ tells. refl;
    image = λ honest. refl;
    images = record {
      later = omega arith;
      each = λ i a left. (a, left);
      before = λ t i a within left. inl left;
      keeps = λ t i a within left. left;
    };
    tells = refl;
    honest = refl;
    faults = omega arith;
  }

  -- one exchange of the anchor
  pub unwritten_advance : {T E : Type 0} (old new : D) (next : Anchor) (result : Result T E)
      → (IsTrue (outside old).tells → (outside new).trace ≡ (outside old).trace)
      → (IsTrue (outside old).honest → (outside new).image ≡ (outside old).image)
      → ((i : List ℕ) (a : Anchor) → now outside crash_states new i a
      → (was : Anchor) × now outside crash_states old i was × ((a ≡ was) ⊎ (a ≡ next)))
      → Elapses (outside old) (outside new) (crash_states old) (crash_states new) → Told (outside old) (outside new) result
      → WritesNothing outside crash_states old new
  unwritten_advance old new next result trace image pairs time told = record {
    grows = λ tells. subst (Extends (outside old).trace) (sym (trace tells)) (extends_itself (outside old).trace);
    written = λ tells. ap (λ (t : Trace). t.written) (trace tells);
    image = image;
    images = record {
      later = time.later;
      each = λ i a since. ⊎_elim (λ past. (a, past)) (λ here. let left = pairs i a here in (left.0, left.1))
          (time.nothing_else (outside old).clock i a (omega arith) since);
      before = λ t i a within since. ⊎_elim
          (λ past. inl past)
          (λ here. inr (counts new (outside old).clock (outside new).clock i a time.later (omega arith) here))
          (time.nothing_else t i a within since);
      keeps = time.keeps;
    };
    tells = told.tells;
    honest = told.honest;
    faults = told.no_fewer_faults;
  }
