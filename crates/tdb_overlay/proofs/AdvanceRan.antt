-- An advance of the anchor alone, to a text that was written before, is a step of a run.
use Rattle.std.proofs.Common.{◌≡◌, ◌⊎◌, inl, inr, ⊎_elim, ℕ, ◌≤◌, List, [], ◌++◌, IsTrue, Result, Ok, Err, refl, sym, ap, subst, append-nil, arith}
use Rattle.std.specs.Prelude.{OnErr, OnOk}
use Rattle.tdb_base.specs.Trace.{Extends, IsNumbered, Trace, WrittenPiece}
use Rattle.tdb_base.proofs.Tracing.{extends_itself}
use Rattle.tdb_model.specs.Apply.{History}
use Rattle.tdb_platform.specs.Outside.{Anchor, Outside, Told}
use Rattle.tdb_platform.specs.CrashStates.{CrashStates, Elapses, now}
use Rattle.tdb_overlay.specs.Found.{Store}
use Rattle.tdb_overlay.specs.Growth.{IsSettled}
use Rattle.tdb_overlay.specs.Images.{IsIntactIn}
use Rattle.tdb_overlay.specs.Ran.{CountsOn, FromLeft, Leads, RanOn, RanStep}
use Rattle.tdb_overlay.specs.SealedOnly.{WritesOnlySealed}
use Rattle.tdb_overlay.specs.Sound.{IsSound}
use Rattle.tdb_overlay.specs.WellFormedLog.{IsAnchored, IsWellFormedTrace}
use Rattle.tdb_overlay.proofs.RanLaws.{from_itself, leads_part, sound_earlier, still_anchored, still_leads}
use Rattle.tdb_overlay.proofs.SealedPuts.{sealed_none}
use Rattle.tdb_overlay.proofs.TextsRan.{writes_none}

module _ {D : Type 0} (outside : D → Outside) (crash_states : D → CrashStates)
    (counts : (p : D) (t u : ℕ) (i : List ℕ) (a : Anchor) → t ≤ u → u ≤ (outside p).clock → crash_states p u i a → crash_states p t i a)
    (numbered : (p : D) → IsTrue (outside p).tells → IsNumbered (outside p).trace) (store : Store) (old new : D) (next : Anchor)
    (added : History) (settled : IsSettled outside crash_states old)
    (leads : IsSound store.secret (outside old)
    → Leads store (outside old).trace.written (outside old).trace.written added [] (outside old).anchor next)
    (named : IsSound store.secret (outside old) → IsAnchored (outside old).trace.written store.secret next)
    (more : IsSound store.secret (outside old) → CountsOn store (outside old).trace.written (outside old).anchor next)
    (stand : IsSound store.secret (outside old) → IsTrue (outside old).honest → (i : List ℕ)
    → now outside crash_states old i (outside old).anchor → IsIntactIn i (outside old).trace.written store (outside old).anchor
    → IsIntactIn i (outside old).trace.written store next)
    (trace : IsTrue (outside old).tells → (outside new).trace ≡ (outside old).trace)
    (pairs : (i : List ℕ) (a : Anchor) → now outside crash_states new i a → (was : Anchor) × now outside crash_states old i was
    × ((a ≡ was) ⊎ (a ≡ next)))
    (time : Elapses (outside old) (outside new) (crash_states old) (crash_states new)) where
  abbrev head : Anchor
  head = (outside old).anchor

  abbrev before : List WrittenPiece
  before = (outside old).trace.written

  abbrev after : List WrittenPiece
  after = (outside new).trace.written

  grows : IsTrue (outside old).tells → Extends (outside old).trace (outside new).trace
  grows tells = subst (Extends (outside old).trace) (sym (trace tells)) (extends_itself (outside old).trace)

  module _ {T E : Type 0} (result : Result T E) (told : Told (outside old) (outside new) result) where
    module _ (sound : IsSound store.secret (outside new)) where
      was_sound : IsSound store.secret (outside old)
      was_sound = sound_earlier outside crash_states counts numbered store old new told.tells grows sound

      same : before ≡ after
      same = ap (λ (t : Trace). t.written) (sym (trace was_sound.tells))

      next_leads : (a : Anchor) → a ≡ next → Leads store before after added [] head a
      next_leads a is = subst (λ (b : Anchor). Leads store before after added [] head b) (sym is)
          (subst (λ (ws : List WrittenPiece). Leads store before ws added [] head next) same (leads was_sound))

      next_anchored : (a : Anchor) → a ≡ next → IsAnchored after store.secret a
      next_anchored a is = subst (IsAnchored after store.secret) (sym is)
          (subst (λ (ws : List WrittenPiece). IsAnchored ws store.secret next) same (named was_sound))

      next_counts : (a : Anchor) → a ≡ next → CountsOn store before head a
      next_counts a is = subst (λ (b : Anchor). CountsOn store before head b) (sym is) (more was_sound)

      next_from : (i : List ℕ) (a was : Anchor) → now outside crash_states old i was → a ≡ next
          → FromLeft outside crash_states store old new added [] i a
      next_from i a was left is =
          let at : was ≡ head = settled was_sound.tells i was left in
          record {
            image = i;
            anchor = was;
            left = left;
            leads = subst (λ (b : Anchor). Leads store before after added [] b a) (sym at) (next_leads a is);
            anchored = λ _. next_anchored a is;
            counts = subst (λ (b : Anchor). CountsOn store before b a) (sym at) (next_counts a is);
            spares = λ honest intact.
                subst (λ (b : Anchor). IsIntactIn i after store b) (sym is)
                (subst (λ (ws : List WrittenPiece). IsIntactIn i ws store next) same
                (stand was_sound honest i (subst (λ (b : Anchor). now outside crash_states old i b) at left)
                (subst (λ (b : Anchor). IsIntactIn i before store b) at intact)));
          }

      begun_part : (a b : Anchor) → Leads store before after added [] a b → Leads store before after [] added a b
      begun_part a b led = subst (λ (h : History). Leads store before after [] h a b) (append-nil added)
          (leads_part store before after a b added [] led)

      next_begun : (i : List ℕ) (a : Anchor) → FromLeft outside crash_states store old new added [] i a
          → FromLeft outside crash_states store old new [] added i a
      next_begun i a f = record { image = f.image; anchor = f.anchor; left = f.left; leads = begun_part f.anchor a f.leads; anchored = f.anchored; counts = f.counts; spares = f.spares }

      old_stays : (i : List ℕ) (a : Anchor) → now outside crash_states old i a → FromLeft outside crash_states store old new [] added i a
      old_stays i a left = from_itself outside crash_states store old new (grows was_sound.tells) added i a left

      either : (i : List ℕ) (a : Anchor) → (was : Anchor) × now outside crash_states old i was × ((a ≡ was) ⊎ (a ≡ next))
          → FromLeft outside crash_states store old new [] added i a
      either i a left = ⊎_elim
          (λ stays. old_stays i a (subst (λ (b : Anchor). now outside crash_states old i b) (sym stays) left.1))
          (λ is. next_begun i a (next_from i a left.0 left.1 is)) left.2

    ran_by : (surely maybe : History) → surely ++ maybe ≡ added
        → (IsSound store.secret (outside new) → Leads store before after surely maybe head (outside new).anchor)
        → (IsSound store.secret (outside new) → IsAnchored before store.secret head
        → IsAnchored after store.secret (outside new).anchor)
        → (IsSound store.secret (outside new) → (i : List ℕ) (a : Anchor) → now outside crash_states new i a
        → FromLeft outside crash_states store old new surely maybe i a)
        → (IsSound store.secret (outside new) → CountsOn store before head (outside new).anchor)
        → RanOn outside crash_states store old surely maybe new
    ran_by surely maybe all led anchored left counted = record {
      tells = told.tells;
      honest = told.honest;
      grows = grows;
      faults = told.no_fewer_faults;
      sealed = λ tells. subst (WritesOnlySealed store.secret (outside old).trace) (sym (trace tells))
          (sealed_none store.secret (outside old).trace);
      formed = λ sound kept. subst (λ (ws : List WrittenPiece). IsWellFormedTrace ws store.secret) (same sound) kept.trace;
      texts = λ sound. writes_none outside crash_states store old new (surely ++ maybe) (sym (same sound));
      counts = counted;
      leads = led;
      anchored = anchored;
      left = left;
      moments = record {
        later = time.later;
        each = λ i a since sound. subst (λ (h : History). FromLeft outside crash_states store old new [] h i a) (sym all)
            (⊎_elim (λ past. old_stays sound i a past) (λ here. either sound i a (pairs i a here))
            (time.nothing_else (outside old).clock i a (omega arith) since));
        before = λ t i a within since. ⊎_elim
            (λ past. inl past)
            (λ here. inr (counts new (outside old).clock (outside new).clock i a time.later (omega arith) here))
            (time.nothing_else t i a within since);
        keeps = time.keeps;
      };
    }

    begun : (IsTrue (outside old).tells → ((outside new).anchor ≡ head) ⊎ ((outside new).anchor ≡ next))
        → RanOn outside crash_states store old [] added new
    begun anchor = ran_by [] added refl
        (λ sound. ⊎_elim
        (λ stays. subst (λ (b : Anchor). Leads store before after [] added head b) (sym stays)
        (still_leads store (outside old).trace (outside new).trace (grows (was_sound sound).tells) head added))
        (λ is. begun_part sound head (outside new).anchor (next_leads sound (outside new).anchor is)) (anchor (was_sound sound).tells))
        (λ sound was. ⊎_elim
        (λ stays. subst (IsAnchored after store.secret) (sym stays)
        (still_anchored store (outside old).trace (outside new).trace (grows (was_sound sound).tells) head was))
        (λ is. next_anchored sound (outside new).anchor is) (anchor (was_sound sound).tells))
        (λ sound i a here. either sound i a (pairs i a here))
        (λ sound. ⊎_elim
        (λ stays. λ was from log. let e = ap (λ (b : Anchor). b.0) stays in omega (arith, e))
        (λ is. next_counts sound (outside new).anchor is) (anchor (was_sound sound).tells))

    made : (IsTrue (outside old).tells → (outside new).anchor ≡ next)
        → (IsTrue (outside old).tells → (i : List ℕ) (a : Anchor) → now outside crash_states new i a → a ≡ next)
        → RanOn outside crash_states store old added [] new
    made advanced only = ran_by added [] (append-nil added)
        (λ sound. next_leads sound (outside new).anchor (advanced (was_sound sound).tells))
        (λ sound was. next_anchored sound (outside new).anchor (advanced (was_sound sound).tells))
        (λ sound i a here. let left = pairs i a here in next_from sound i a left.0 left.1 (only (was_sound sound).tells i a here))
        (λ sound. next_counts sound (outside new).anchor (advanced (was_sound sound).tells))

  -- An advance to a text whose log leads on from the anchor's, and all of whose needs stand, is a step.
  pub advance_ran : {T E : Type 0} (result : Result T E) → Told (outside old) (outside new) result
      → (IsTrue (outside old).tells → OnOk result ((outside new).anchor ≡ next))
      → (IsTrue (outside old).tells → OnOk result ((i : List ℕ) (a : Anchor) → now outside crash_states new i a → a ≡ next))
      → (IsTrue (outside old).tells → OnErr result (((outside new).anchor ≡ head) ⊎ ((outside new).anchor ≡ next)))
      → RanStep outside crash_states store added old new result
  advance_ran (Ok x) told advanced only failed = record { ok = made (Ok x) told advanced only; begun = tt }
  advance_ran (Err e) told advanced only failed = record { ok = tt; begun = begun (Err e) told failed }
