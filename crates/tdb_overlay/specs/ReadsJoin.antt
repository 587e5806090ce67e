-- Calls that only read, one after another.
use Rattle.std.proofs.Common.{◌≡◌, ℕ, ◌≤◌, List, [], ◌∷◌, ◌++◌, IsTrue, append-nil, append_assoc, refl, sym, ◌∙◌, ap, subst, arith}
use Rattle.std.specs.List.{AllByRecursion}
use Rattle.tdb_base.specs.Trace.{ReadPiece}
use Rattle.tdb_base.proofs.Tracing.{extends_along, extends_itself}
use Rattle.tdb_platform.specs.CrashStates.{CrashStates, LeavesOnly, now}
use Rattle.tdb_platform.specs.Outside.{Anchor, Outside}
use Rattle.tdb_platform.proofs.Moments.{goes_on_by, started}
use Rattle.tdb_overlay.specs.Reading.{OnlyReads, ReadsImage, held}

module _ {D : Type 0} (outside : D → Outside) (crash_states : D → CrashStates)
    (counts : (p : D) (t u : ℕ) (i : List ℕ) (a : Anchor) → t ≤ u → u ≤ (outside p).clock → crash_states p u i a
    → crash_states p t i a) where
  -- no call
  pub reads_nothing : (p : D) → OnlyReads outside crash_states p p
  reads_nothing p = record {
    grows = λ t. extends_itself (outside p).trace;
    written = λ t. refl;
    anchor = λ t. refl;
    image = λ h. refl;
    left = started outside crash_states counts p (now outside crash_states p) (λ i a left. left);
    tells = refl;
    honest = refl;
    faults = omega arith;
  }

  -- some calls, and others after them
  pub reads_then : (old mid new : D) → OnlyReads outside crash_states old mid → OnlyReads outside crash_states mid new
      → OnlyReads outside crash_states old new
  reads_then old mid new first then = record {
    grows = λ t. extends_along (outside old).trace (outside mid).trace (outside new).trace (first.grows t)
        (then.grows (subst IsTrue (sym first.tells) t));
    written = λ t. then.written (subst IsTrue (sym first.tells) t) ∙ first.written t;
    anchor = λ t. then.anchor (subst IsTrue (sym first.tells) t) ∙ first.anchor t;
    image = λ h. then.image (subst IsTrue (sym first.honest) h) ∙ first.image h;
    left =
        let before = now outside crash_states old in
        let after : LeavesOnly outside crash_states mid new before = record {
          later = then.left.later;
          each = λ i a left. first.left.each i a
              (counts mid (outside old).clock (outside mid).clock i a first.left.later (omega arith) (then.left.each i a left));
          before = then.left.before;
          keeps = then.left.keeps;
        } in
        goes_on_by outside crash_states counts old mid new before first.left after;
    tells = then.tells ∙ first.tells;
    honest = then.honest ∙ first.honest;
    faults = omega (arith, first.faults, then.faults);
  }

-- the same of what an honest device showed
pub image_nothing : (o : Outside) → ReadsImage o o
image_nothing o honest tells = (record { more = []; read = sym (append-nil o.trace.read) }, tt)

all_both : {A : Type 0} (Q : A → Type 0) (xs ys : List A) → AllByRecursion Q xs → AllByRecursion Q ys → AllByRecursion Q (xs ++ ys)
all_both Q [] ys all more = more
all_both Q (x ∷ xs) ys all more = (all.0, all_both Q xs ys all.1 more)

pub image_then : {D : Type 0} (outside : D → Outside) (crash_states : D → CrashStates) (old mid new : D)
    → OnlyReads outside crash_states old mid → ReadsImage (outside old) (outside mid) → ReadsImage (outside mid) (outside new)
    → ReadsImage (outside old) (outside new)
image_then outside crash_states old mid new reads first then honest tells =
    let a = first honest tells in
    let b = then (subst IsTrue (sym reads.honest) honest) (subst IsTrue (sym reads.tells) tells) in
    let same : (outside mid).image ≡ (outside old).image = reads.image honest in
    let rest = subst (λ (image : List ℕ). AllByRecursion (λ r. r.bytes ≡ held image r.place r.asked) b.0.more) same b.1 in (
      record {
        more = a.0.more ++ b.0.more;
        read = b.0.read ∙ ap (λ (l : List ReadPiece). l ++ b.0.more) a.0.read ∙ append_assoc (outside old).trace.read a.0.more b.0.more;
      },
      all_both (λ r. r.bytes ≡ held (outside old).image r.place r.asked) a.0.more b.0.more a.1 rest,
    )
