-- Calls that only read, one after another.
use Rattle.std.proofs.Common.{◌≡◌, ℕ, ◌≤◌, List, IsTrue, Result, sym, ◌∙◌, ap, arith, subst, take, drop, length}
use Rattle.std.proofs.lemmas.List.{ext_get_or, get_or-drop, get_or-take, length-drop, length-take}
use Rattle.tdb_base.specs.Trace.{Trace, Extends, with_read}
use Rattle.tdb_base.proofs.Tracing.{extends_itself, extends_read}
use Rattle.tdb_platform.specs.Outside.{Outside, Anchor, Told}
use Rattle.tdb_platform.specs.CrashStates.{CrashStates, Elapses, now, LeavesNoMore}
use Rattle.tdb_platform.specs.Image.{Holds}
use Rattle.tdb_platform.proofs.Moments.{started, goes_on}
use Rattle.tdb_overlay.specs.Growth.{IsSettled}
use Rattle.tdb_overlay.specs.Reading.{OnlyReads}
pub use Rattle.tdb_overlay.specs.ReadsJoin.{reads_nothing, reads_then}

-- A read of a piece that stands gives it.
pub shows_held : (image : List ℕ) (at : ℕ) (bytes : List ℕ) → Holds image at bytes → take (length bytes) (drop at image) ≡ bytes
shows_held image at bytes held =
    let size : length (take (length bytes) (drop at image)) ≡ length bytes =
    omega (arith, length-take (length bytes) (drop at image), length-drop at image, held.within) in
    ext_get_or 0 (take (length bytes) (drop at image)) bytes size
    (λ k within. get_or-take (length bytes) (drop at image) k 0 (omega (arith, within, size)) ∙ get_or-drop at image k 0
    ∙ held.bytes k (omega (arith, within, size)))

module _ {D : Type 0} (outside : D → Outside) (crash_states : D → CrashStates)
    (counts : (p : D) (t u : ℕ) (i : List ℕ) (a : Anchor) → t ≤ u → u ≤ (outside p).clock → crash_states p u i a → crash_states p t i a) where
  reads_by_call : {T E : Type 0} (old new : D) (result : Result T E) → (IsTrue (outside old).tells → Extends (outside old).trace (outside new).trace)
      → (IsTrue (outside old).tells → (outside new).trace.written ≡ (outside old).trace.written)
      → (IsTrue (outside old).honest → (outside new).image ≡ (outside old).image)
      → (IsTrue (outside old).tells → (outside new).anchor ≡ (outside old).anchor)
      → LeavesNoMore outside crash_states old new → Elapses (outside old) (outside new) (crash_states old) (crash_states new) → Told (outside old) (outside new) result
      → OnlyReads outside crash_states old new
  reads_by_call old new result grows written image anchor no_more time told = record {
    grows = grows;
    written = written;
    anchor = anchor;
    image = image;
    left = goes_on outside crash_states counts old old new (now outside crash_states old) (started outside crash_states counts old (now outside crash_states old) (λ i a left. left)) time no_more;
    tells = told.tells;
    honest = told.honest;
    faults = told.no_fewer_faults;
  }

  -- one call of the platform that read nothing, wrote nothing and left the anchor
  pub reads_none : {T E : Type 0} (old new : D) (result : Result T E) → (IsTrue (outside old).tells → (outside new).trace ≡ (outside old).trace)
      → (IsTrue (outside old).honest → (outside new).image ≡ (outside old).image)
      → (IsTrue (outside old).tells → (outside new).anchor ≡ (outside old).anchor)
      → LeavesNoMore outside crash_states old new → Elapses (outside old) (outside new) (crash_states old) (crash_states new) → Told (outside old) (outside new) result
      → OnlyReads outside crash_states old new
  reads_none old new result trace image anchor no_more time told = reads_by_call old new result
      (λ t. subst (λ (u : Trace). Extends (outside old).trace u) (sym (trace t)) (extends_itself (outside old).trace))
      (λ t. ap (λ (u : Trace). u.written) (trace t))
      image anchor no_more time told

  -- one call that read some bytes
  pub reads_one : {T E : Type 0} (old new : D) (result : Result T E) (at asked : ℕ) (bytes : List ℕ)
      → (IsTrue (outside old).tells → (outside new).trace ≡ with_read (outside old).trace at asked bytes)
      → (IsTrue (outside old).honest → (outside new).image ≡ (outside old).image)
      → (IsTrue (outside old).tells → (outside new).anchor ≡ (outside old).anchor)
      → LeavesNoMore outside crash_states old new → Elapses (outside old) (outside new) (crash_states old) (crash_states new) → Told (outside old) (outside new) result
      → OnlyReads outside crash_states old new
  reads_one old new result at asked bytes trace image anchor no_more time told = reads_by_call old new result
      (λ t. subst (λ (u : Trace). Extends (outside old).trace u) (sym (trace t)) (extends_read (outside old).trace at asked bytes))
      (λ t. ap (λ (u : Trace). u.written) (trace t))
      image anchor no_more time told

  -- An anchor that was settled is so behind them.
  pub reads_settled : (old new : D) → OnlyReads outside crash_states old new → IsSettled outside crash_states old → IsSettled outside crash_states new
  reads_settled old new reads settled t i a left =
      let told : IsTrue (outside old).tells = subst IsTrue reads.tells t in
      settled told i a (reads.left.each i a (counts new (outside old).clock (outside new).clock i a reads.left.later (omega arith) left)) ∙ sym (reads.anchor told)
