-- The laws of what a store tells of itself.
use Rattle.std.proofs.Common.{◌≡◌, inl, inr, ⊎_elim, ℕ, ◌≤◌, List, [], ◌++◌, IsTrue, refl, sym, ◌∙◌, ap, subst}
use Rattle.std.proofs.Common.{append-nil, append_assoc, arith}
use Rattle.tdb_base.specs.declared.piece.Damage.{Damage}
use Rattle.tdb_base.specs.Trace.{Extends, IsNumbered}
use Rattle.tdb_base.proofs.Tracing.{extends_along, extends_itself}
use Rattle.tdb_model.specs.Apply.{History}
use Rattle.tdb_model.specs.IsLawful.{IsLawful}
use Rattle.tdb_model.specs.Meanings.{Target}
use Rattle.tdb_model.specs.Meanings.Target.{OfBase, OfCheckpoint, OfChunk, OfPartition}
use Rattle.tdb_platform.specs.CrashStates.{CrashStates}
use Rattle.tdb_platform.specs.Outside.{Anchor, Outside}
use Rattle.tdb_platform.proofs.Moments.{goes_on_by, started}
use Rattle.tdb_overlay.specs.Found.{Store}
use Rattle.tdb_overlay.specs.Images.{IsReliable}
use Rattle.tdb_overlay.specs.Log.{IsLog}
use Rattle.tdb_overlay.specs.Ran.{RanOn}
use Rattle.tdb_overlay.specs.SealedOnly.{OnlySealed}
use Rattle.tdb_overlay.specs.Sound.{IsSound}
use Rattle.tdb_overlay.proofs.RanLaws.{ran_after, ran_itself, ran_then, ran_wider, reliable_after, sound_earlier}
use Rattle.tdb_overlay.proofs.SealedPuts.{only_sealed_along, only_sealed_none}
use Rattle.tdb_chunk.specs.Shown.{Between}
use Rattle.tdb_chunk.specs.Standing.{StandsAt, StoreGoes, StoreRan}
use Rattle.tdb_chunk.specs.StoreMeans.{ShowsDamage, Tells, store_means}
use Rattle.tdb_chunk.specs.StoreView.{StoreView, store_in}

module _ {P : Type 0} (outside : P → Outside) (crash_states : P → CrashStates)
    (counts : (p : P) (t u : ℕ) (i : List ℕ) (a : Anchor) → t ≤ u → u ≤ (outside p).clock → crash_states p u i a → crash_states p t i a)
    (numbered : (p : P) → IsTrue (outside p).tells → IsNumbered (outside p).trace) where
  abbrev Ran : StoreView P → History → History → StoreView P → Type 0
  Ran old surely maybe new = StoreRan outside crash_states old surely maybe new

  abbrev Goes : StoreView P → StoreView P → Type 0
  Goes old new = StoreGoes outside crash_states old new

  -- a later value of the same store
  module _ (a b : StoreView P) (same : store_in b ≡ store_in a) where
    secrets : b.secret ≡ a.secret
    secrets = ap (λ (s : Store). s.secret) same

    sound_of_later : (o : Outside) → IsSound a.secret o → IsSound b.secret o
    sound_of_later o sound = subst (λ (s : List ℕ). IsSound s o) (sym secrets) sound

    sound_of_earlier : (o : Outside) → IsSound b.secret o → IsSound a.secret o
    sound_of_earlier o sound = subst (λ (s : List ℕ). IsSound s o) secrets sound

    -- What is sound at the end was sound before.
    sound_was : (outside b.platform).tells ≡ (outside a.platform).tells
        → (IsTrue (outside a.platform).tells → Extends (outside a.platform).trace (outside b.platform).trace)
        → IsSound a.secret (outside b.platform) → IsSound a.secret (outside a.platform)
    sound_was tells grows sound = sound_earlier outside crash_states counts numbered (store_in a) a.platform b.platform tells grows sound

  -- No call.
  pub store_itself : (a : StoreView P) → Ran a [] [] a
  store_itself a = record {
    same = refl;
    tells = refl;
    honest = refl;
    grows = λ _. extends_itself (outside a.platform).trace;
    sealed = only_sealed_none a.secret (outside a.platform);
    faults = omega arith;
    count = omega arith;
    base = omega arith;
    kept = λ _. refl;
    moments = started outside crash_states counts a.platform (λ i x. Unit {0}) (λ i x left. tt);
    ran = λ sound history last at. ran_itself outside crash_states counts numbered (store_in a) a.platform;
    stands = λ sound history last at. (last, subst (λ (h : History). StandsAt outside a h last) (sym (append-nil history)) at);
  }

  -- More commits may have been begun.
  pub store_wider : (a b : StoreView P) (xs maybe : History) → Ran a xs [] b → Ran a xs maybe b
  store_wider a b xs maybe first = record {
    same = first.same;
    tells = first.tells;
    honest = first.honest;
    grows = first.grows;
    sealed = first.sealed;
    faults = first.faults;
    count = first.count;
    base = first.base;
    kept = first.kept;
    moments = first.moments;
    ran = λ sound history last at. ran_wider outside crash_states counts numbered (store_in a) a.platform b.platform xs maybe
        (first.ran sound history last at);
    stands = first.stands;
  }

  module _ (a b c : StoreView P) where
    grows_on : (outside b.platform).tells ≡ (outside a.platform).tells
        → (IsTrue (outside a.platform).tells → Extends (outside a.platform).trace (outside b.platform).trace)
        → (IsTrue (outside b.platform).tells → Extends (outside b.platform).trace (outside c.platform).trace)
        → IsTrue (outside a.platform).tells → Extends (outside a.platform).trace (outside c.platform).trace
    grows_on tells first then was = extends_along (outside a.platform).trace (outside b.platform).trace (outside c.platform).trace
        (first was) (then (subst (λ (t : _). IsTrue t) (sym tells) was))

    kept_on : a.log.head.count ≤ b.log.head.count → b.log.head.count ≤ c.log.head.count
        → (b.log.head.count ≡ a.log.head.count → b.log ≡ a.log) → (c.log.head.count ≡ b.log.head.count → c.log ≡ b.log)
        → c.log.head.count ≡ a.log.head.count → c.log ≡ a.log
    kept_on low high first then same =
        then (omega (arith, low, high, same)) ∙ first (omega (arith, low, high, same))

    sealed_on : (same : store_in b ≡ store_in a) → (outside b.platform).tells ≡ (outside a.platform).tells
        → OnlySealed a.secret (outside a.platform) (outside b.platform) → OnlySealed b.secret (outside b.platform) (outside c.platform)
        → OnlySealed a.secret (outside a.platform) (outside c.platform)
    sealed_on same tells first then = only_sealed_along a.secret (outside a.platform) (outside b.platform) (outside c.platform) tells first
        (subst (λ (s : List ℕ). OnlySealed s (outside b.platform) (outside c.platform)) (secrets a b same) then)

    -- One part, and then another.
    pub store_joined : (xs ys maybe : History) → Ran a xs [] b → Ran b ys maybe c → Ran a (xs ++ ys) maybe c
    store_joined xs ys maybe first then =
        let mid : IsSound a.secret (outside c.platform) → IsSound a.secret (outside b.platform) = λ sound.
        sound_of_earlier a b first.same (outside b.platform)
        (sound_was b c then.same then.tells then.grows (sound_of_later a b first.same (outside c.platform) sound)) in
        record {
          same = then.same ∙ first.same;
          tells = then.tells ∙ first.tells;
          honest = then.honest ∙ first.honest;
          grows = grows_on first.tells first.grows then.grows;
          sealed = sealed_on first.same first.tells first.sealed then.sealed;
          faults = omega (arith, first.faults, then.faults);
          count = omega (arith, first.count, then.count);
          base = omega (arith, first.base, then.base);
          kept = kept_on first.count then.count first.kept then.kept;
          moments = goes_on_by outside crash_states counts a.platform b.platform c.platform (λ i x. Unit {0}) first.moments then.moments;
          ran = λ sound history last at.
              let between = first.stands (mid sound) history last at in
              ran_then outside crash_states counts numbered (store_in a) a.platform b.platform c.platform xs ys maybe
              (first.ran (mid sound) history last at)
              (subst (λ (s : Store). RanOn outside crash_states s b.platform ys maybe c.platform) first.same
              (then.ran (sound_of_later a b first.same (outside c.platform) sound) (history ++ xs) between.0 between.1));
          stands = λ sound history last at.
              let between = first.stands (mid sound) history last at in
              let end = then.stands (sound_of_later a b first.same (outside c.platform) sound) (history ++ xs) between.0 between.1 in
              (end.0, subst (λ (h : History). StandsAt outside c h end.0) (append_assoc history xs ys) end.1);
        }

    -- A part that begins no commit, behind one that may have.
    pub store_behind : (xs maybe : History) → Ran a xs maybe b → Ran b [] [] c → Ran a xs maybe c
    store_behind xs maybe first then =
        let mid : IsSound a.secret (outside c.platform) → IsSound a.secret (outside b.platform) = λ sound.
        sound_of_earlier a b first.same (outside b.platform)
        (sound_was b c then.same then.tells then.grows (sound_of_later a b first.same (outside c.platform) sound)) in
        record {
          same = then.same ∙ first.same;
          tells = then.tells ∙ first.tells;
          honest = then.honest ∙ first.honest;
          grows = grows_on first.tells first.grows then.grows;
          sealed = sealed_on first.same first.tells first.sealed then.sealed;
          faults = omega (arith, first.faults, then.faults);
          count = omega (arith, first.count, then.count);
          base = omega (arith, first.base, then.base);
          kept = kept_on first.count then.count first.kept then.kept;
          moments = goes_on_by outside crash_states counts a.platform b.platform c.platform (λ i x. Unit {0}) first.moments then.moments;
          ran = λ sound history last at.
              let between = first.stands (mid sound) history last at in
              ran_after outside crash_states counts numbered (store_in a) a.platform b.platform c.platform xs maybe
              (first.ran (mid sound) history last at)
              (subst (λ (s : Store). RanOn outside crash_states s b.platform [] [] c.platform) first.same
              (then.ran (sound_of_later a b first.same (outside c.platform) sound) (history ++ xs) between.0 between.1));
          stands = λ sound history last at.
              let between = first.stands (mid sound) history last at in
              let end = then.stands (sound_of_later a b first.same (outside c.platform) sound) (history ++ xs) between.0 between.1 in
              (end.0, subst (λ (h : History). StandsAt outside c h end.0) (append-nil (history ++ xs)) end.1);
        }

    -- the same with the commits forgotten
    pub goes_joined : Goes a b → Goes b c → Goes a c
    goes_joined first then =
        let mid : IsSound a.secret (outside c.platform) → IsSound a.secret (outside b.platform) = λ sound.
        sound_of_earlier a b first.same (outside b.platform)
        (sound_was b c then.same then.tells then.grows (sound_of_later a b first.same (outside c.platform) sound)) in
        record {
          same = then.same ∙ first.same;
          tells = then.tells ∙ first.tells;
          honest = then.honest ∙ first.honest;
          grows = grows_on first.tells first.grows then.grows;
          count = omega (arith, first.count, then.count);
          kept = kept_on first.count then.count first.kept then.kept;
          stands = λ sound history last at.
              let between = first.stands (mid sound) history last at in
              let end = then.stands (sound_of_later a b first.same (outside c.platform) sound)
              (history ++ between.0) between.1 between.2 in (
                between.0 ++ end.0,
                end.1,
                subst (λ (h : History). StandsAt outside c h end.1) (append_assoc history between.0 end.0) end.2,
              );
          reliable = λ sound history last at was.
              let between = first.stands (mid sound) history last at in
              subst (λ (s : Store). IsReliable outside crash_states s c.platform) first.same
              (then.reliable (sound_of_later a b first.same (outside c.platform) sound) (history ++ between.0) between.1 between.2
              (subst (λ (s : Store). IsReliable outside crash_states s b.platform) (sym first.same)
              (first.reliable (mid sound) history last at was)));
        }

  -- What ran goes on.
  pub ran_goes : (a b : StoreView P) (xs maybe : History) → Ran a xs maybe b → Goes a b
  ran_goes a b xs maybe first = record {
    same = first.same;
    tells = first.tells;
    honest = first.honest;
    grows = first.grows;
    count = first.count;
    kept = first.kept;
    stands = λ sound history last at. let end = first.stands sound history last at in (xs, end.0, end.1);
    reliable = λ sound history last at was. reliable_after outside crash_states counts numbered (store_in a) a.platform b.platform xs maybe
        (first.ran sound history last at) sound was;
  }

  -- What was seen between two values was seen between two that enclose them.
  module _ (a b c : StoreView P) (Q : StoreView P → StoreView P → Type 0) where
    pub between_before : Goes a b → Between outside crash_states b c Q → Between outside crash_states a c Q
    between_before first seen = (seen.0, seen.1, goes_joined a b seen.0 first seen.2, seen.3, seen.4, seen.5)

    pub between_stays : Between outside crash_states a b Q → Goes b c → Between outside crash_states a c Q
    between_stays seen then = (seen.0, seen.1, seen.2, seen.3, goes_joined seen.1 b c seen.4 then, seen.5)

  damage_before : (a b c : StoreView P) (damage : Damage) (of : Target) → Goes a b → ShowsDamage outside crash_states b c damage of
      → ShowsDamage outside crash_states a c damage of
  damage_before a b c damage (OfChunk part rank) first seen = between_before a b c _ first seen
  damage_before a b c damage (OfPartition part) first seen = seen
  damage_before a b c damage OfCheckpoint first seen = seen
  damage_before a b c damage OfBase first seen = seen

  damage_stays : (a b c : StoreView P) (damage : Damage) (of : Target) → ShowsDamage outside crash_states a b damage of → Goes b c
      → ShowsDamage outside crash_states a c damage of
  damage_stays a b c damage (OfChunk part rank) seen then = between_stays a b c _ seen then
  damage_stays a b c damage (OfPartition part) seen then = seen
  damage_stays a b c damage OfCheckpoint seen then = seen
  damage_stays a b c damage OfBase seen then = seen

  -- What an anchor tells later it tells before.
  pub tells_before : (a b : StoreView P) (xs maybe : History) (anchor : Anchor) (state : _) → Ran a xs maybe b
      → IsSound b.secret (outside b.platform) → Tells outside b anchor state → Tells outside a anchor state
  tells_before a b xs maybe anchor state runs told is =
      let was = sound_was a b runs.same runs.tells runs.grows (sound_of_earlier a b runs.same (outside b.platform) told) in
      record {
        later = is.later;
        sound = sound_of_earlier a b runs.same is.later is.sound;
        grows = extends_along (outside a.platform).trace (outside b.platform).trace is.later.trace (runs.grows was.tells) is.grows;
        history = is.history;
        last = is.last;
        log = subst (λ (s : Store). IsLog is.later.trace.written s anchor is.history is.last) runs.same is.log;
        chunks = is.chunks;
      }

  pub store_lawful : IsLawful (store_means outside crash_states)
  store_lawful = record {
    itself = store_itself;
    joined = store_joined;
    behind_fault = store_behind;
    wider = store_wider;
    told_before = λ a b xs maybe runs told.
        sound_was a b runs.same runs.tells runs.grows (sound_of_earlier a b runs.same (outside b.platform) told);
    verifies_before = λ a b xs maybe runs verifies. subst (λ (t : _). IsTrue t) runs.tells verifies;
    count_stays = λ a b xs maybe runs. runs.count;
    base_stays = λ a b xs maybe runs. runs.base;
    faults_stay = λ a b xs maybe runs. runs.faults;
    clock_stays = λ a b xs maybe runs. runs.moments.later;
    left_since = λ a t u s earlier within left. record {
      image = left.image;
      anchor = left.anchor;
      left = counts a.platform t u left.image left.anchor earlier within left.left;
      tells = left.tells;
    };
    left_before = λ a b xs maybe t s runs told within left. ⊎_elim
        (λ earlier. inl (record {
          image = left.image;
          anchor = left.anchor;
          left = earlier;
          tells = tells_before a b xs maybe left.anchor s runs told left.tells;
        }))
        (λ since. inr (record { image = left.image; anchor = left.anchor; left = since; tells = left.tells }))
        (runs.moments.before t left.image left.anchor within left.left);
    damage_before = λ a b c xs maybe damage of runs seen. damage_before a b c damage of (ran_goes a b xs maybe runs) seen;
    damage_stays = λ a b c xs maybe damage of seen runs. damage_stays a b c damage of seen (ran_goes b c xs maybe runs);
    verified_before = λ a b c xs maybe part rank runs seen. between_before a b c _ (ran_goes a b xs maybe runs) seen;
    verified_stays = λ a b c xs maybe part rank seen runs. between_stays a b c _ seen (ran_goes b c xs maybe runs);
    malformed_before = λ a b c xs maybe place runs seen. between_before a b c _ (ran_goes a b xs maybe runs) seen;
    malformed_stays = λ a b c xs maybe place seen runs. between_stays a b c _ seen (ran_goes b c xs maybe runs);
  }
