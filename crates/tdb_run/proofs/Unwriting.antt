-- Calls that write nothing, and what such calls keep.
use Rattle.std.proofs.Common.{ℕ, ◌≤◌, List, [], IsTrue, sym, ◌∙◌, subst, arith, append-nil}
use Rattle.tdb_base.proofs.Tracing.{extends_along}
use Rattle.tdb_platform.specs.CrashStates.{CrashStates, now}
use Rattle.tdb_platform.specs.Outside.{Anchor, Outside}
use Rattle.tdb_platform.proofs.Moments.{goes_on_by}
use Rattle.tdb_overlay.specs.Reading.{OnlyReads}
use Rattle.tdb_recover.specs.Unwritten.{WritesNothing}
use Rattle.tdb_run.specs.Calls.{Calls}

module _ {D : Type 0} (outside : D → Outside) (crash_states : D → CrashStates)
    (counts : (p : D) (t u : ℕ) (i : List ℕ) (a : Anchor) → t ≤ u → u ≤ (outside p).clock → crash_states p u i a
    → crash_states p t i a) where
  -- Where nothing was written, only sealed pieces were.
  pub calls_unwritten : (secret : List ℕ) (old new : D) → WritesNothing outside crash_states old new
      → Calls outside crash_states secret old new
  calls_unwritten secret old new w = record {
    tells = w.tells;
    honest = w.honest;
    grows = w.grows;
    sealed = λ tells. record {
      more = [];
      written = w.written tells ∙ sym (append-nil (outside old).trace.written);
      each = λ k d within. absurd (omega (arith, within));
    };
    faults = w.faults;
    moments = record { later = w.images.later; each = λ i a left. tt; before = w.images.before; keeps = w.images.keeps };
  }

  -- Calls that only read, behind others that write nothing.
  pub unwritten_then : (old mid new : D) → WritesNothing outside crash_states old mid → OnlyReads outside crash_states mid new
      → WritesNothing outside crash_states old new
  unwritten_then old mid new first then = record {
    grows = λ t. extends_along (outside old).trace (outside mid).trace (outside new).trace (first.grows t)
        (then.grows (subst IsTrue (sym first.tells) t));
    written = λ t. then.written (subst IsTrue (sym first.tells) t) ∙ first.written t;
    image = λ h. then.image (subst IsTrue (sym first.honest) h) ∙ first.image h;
    images = goes_on_by outside crash_states counts old mid new (λ i a. (was : Anchor) × now outside crash_states old i was) first.images
        (record {
          later = then.left.later;
          each = λ i a left. first.images.each i a
              (counts mid (outside old).clock (outside mid).clock i a first.images.later (omega arith) (then.left.each i a left));
          before = then.left.before;
          keeps = then.left.keeps;
        });
    tells = then.tells ∙ first.tells;
    honest = then.honest ∙ first.honest;
    faults = omega (arith, first.faults, then.faults);
  }
