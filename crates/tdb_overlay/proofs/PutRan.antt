-- The put of a text that comes next is a step of a run: it adds what the text adds.
use Rattle.std.proofs.Common.{◌≡◌, ◌⊎◌, inl, inr, ⊎_elim, ℕ, ◌+◌, ◌≤◌, Bool, List, [], ◌∷◌, ◌++◌, IsTrue, Result, Ok, Err, Some, length, refl, sym, ◌∙◌, ap, subst, append-nil, arith}
use Rattle.std.specs.Prelude.{IsErr, OnOk}
use Rattle.sha2.specs.Sha256.{sha256}
use Rattle.tdb_append.specs.Placed.{EachHolds, Placed, SameExceptAt, with_all_written}
use Rattle.tdb_append.specs.Put.{IsNext, IsOld, Puts, slot_place}
use Rattle.tdb_base.specs.Trace.{Extends, IsNumbered, WrittenPiece}
use Rattle.tdb_mark.specs.declared.commit.Commit.{Commit}
use Rattle.tdb_mark.specs.CommitText.{commit_key_of, commit_of}
use Rattle.tdb_mark.specs.Unforged.{WasWritten}
use Rattle.tdb_mark.proofs.TextLemmas.{commit_of_is}
use Rattle.tdb_mark.proofs.UnforgedLemmas.{IsUnforged-before}
use Rattle.tdb_model.specs.Apply.{History}
use Rattle.tdb_platform.specs.Outside.{Anchor, Outside, Rose, Told}
use Rattle.tdb_platform.specs.CrashStates.{CrashStates, now}
use Rattle.tdb_overlay.specs.Found.{Store}
use Rattle.tdb_overlay.specs.Growth.{IsSettled}
use Rattle.tdb_overlay.specs.Images.{IsIntactIn}
use Rattle.tdb_overlay.specs.Log.{IsLog}
use Rattle.tdb_overlay.specs.NextText.{GoesOnWith, IsLaidText}
use Rattle.tdb_overlay.specs.Ran.{EachHasLog, EndsBehind, EachNewText, FromLeft, Leads, RanOn, RanStep, WritesTexts}
use Rattle.tdb_overlay.specs.SealedOnly.{IsTextInSlot}
use Rattle.tdb_overlay.specs.Sound.{IsSound}
use Rattle.tdb_overlay.specs.StoreState.{StoreState}
use Rattle.tdb_overlay.specs.WellFormedLog.{IsAccepted, IsAnchored, IsWellFormedLog, IsWellFormedTrace}
use Rattle.tdb_overlay.proofs.ImageLaws.{intact_over}
use Rattle.tdb_overlay.proofs.KeptLaws.{formed, next_log, parts, record_is_no_text, slot, text_named}
use Rattle.tdb_overlay.proofs.NextLaws.{stand_next}
use Rattle.tdb_overlay.proofs.OneLog.{log_at}
use Rattle.tdb_overlay.proofs.PutLogs.{grows_all}
use Rattle.tdb_overlay.proofs.RanLaws.{still_anchored, still_intact, still_leads}
use Rattle.tdb_overlay.proofs.SealedPuts.{put_sealed}
use Rattle.tdb_overlay.proofs.Unmistaken.{text_length}

module _ {D : Type 0} (outside : D → Outside) (crash_states : D → CrashStates)
    (counts : (p : D) (t u : ℕ) (i : List ℕ) (a : Anchor) → t ≤ u → u ≤ (outside p).clock → crash_states p u i a → crash_states p t i a)
    (numbered : (p : D) → IsTrue (outside p).tells → IsNumbered (outside p).trace) (store : Store) (old new : D) (text : List ℕ)
    (c : Commit) (ps : List Placed) (added : History) (laid : IsLaidText store.secret text c ps)
    (settled : IsSettled outside crash_states old)
    (goes : IsSound store.secret (outside old) → GoesOnWith (outside old).trace.written store (outside old).anchor c ps added) where
  abbrev before : List WrittenPiece
  before = (outside old).trace.written

  abbrev after : List WrittenPiece
  after = (outside new).trace.written

  abbrev head : Anchor
  head = (outside old).anchor

  abbrev next : Anchor
  next = (c.count, sha256 text)

  abbrev in_slot : Placed
  in_slot = slot store (outside old).trace (outside new).trace head text c ps laid

  long : length text ≡ 256
  long = text_length (commit_key_of store.secret) text c laid.accepted

  module _ {T E : Type 0} (result : Result T E) (puts : Puts outside crash_states old new (ps ++ in_slot ∷ []) next result)
      (told : Told (outside old) (outside new) result) where
    grows : IsTrue (outside old).tells → Extends (outside old).trace (outside new).trace
    grows tells = subst (Extends (outside old).trace) (sym (puts.wrote.trace tells)) (grows_all (outside old).trace puts.done)

    -- what a stop may leave now, it may leave since the start
    since_start : (i : List ℕ) (a : Anchor) → now outside crash_states new i a → crash_states new (outside old).clock i a
    since_start i a here = counts new (outside old).clock (outside new).clock i a puts.any_moment.later (omega arith) here

    module _ (sound : IsSound store.secret (outside new)) where
      tells : IsTrue (outside old).tells
      tells = subst (λ (b : Bool). IsTrue b) told.tells sound.tells

      grew : Extends (outside old).trace (outside new).trace
      grew = grows tells

      was_sound : IsSound store.secret (outside old)
      was_sound = record {
        tells = tells;
        unforged = IsUnforged-before (outside old).trace (outside new).trace
            (commit_of (commit_key_of store.secret)) (numbered old tells) grew sound.unforged;
      }

      goes_on : GoesOnWith before store head c ps added
      goes_on = goes was_sound

      -- an image over which a front was written
      over : (a : Anchor) → a ≡ head → (image i : List ℕ) → SameExceptAt puts.done image i → IsIntactIn image before store a
          → IsIntactIn i before store a
      over a at image i same is =
          let log : IsLog before store head is.history is.last = subst
          (λ (b : Anchor). IsLog before store b is.history is.last) at is.log in
          let on = goes_on store refl is.history is.last log in
          let slotted : slot_place c.count ≡ slot_place (is.last.count + 1) = ap slot_place
          (on.1.1.count ∙ ap (λ (n : ℕ). n + 1) (sym (log_at before store head is.history is.last log))) in
          record {
            history = is.history;
            last = is.last;
            log = is.log;
            stand = intact_over before store a is.history is.last image i ps puts.done puts.rest in_slot is.log slotted long laid.in_segments on.1.1.fresh puts.in_order same is.stand;
          }

      -- the old anchor
      module _ (i : List ℕ) (a : Anchor) (is : IsOld (outside old).honest puts.done (now outside crash_states old) i a) where
        old_from : (surely maybe : History) → Leads store before after surely maybe a a
            → FromLeft outside crash_states store old new surely maybe i a
        old_from surely maybe leads = record {
          image = is.before;
          anchor = a;
          left = is.left;
          leads = leads;
          anchored = still_anchored store (outside old).trace (outside new).trace grew a;
          counts = λ before from log. omega arith;
          spares = λ honest intact. still_intact store (outside old).trace (outside new).trace grew a i
              (over a (settled tells is.before a is.left) is.before i (is.same honest) intact);
        }

        -- begins none of them,
        pub old_stays : (maybe : History) → FromLeft outside crash_states store old new [] maybe i a
        old_stays maybe = old_from [] maybe (still_leads store (outside old).trace (outside new).trace grew a maybe)

        -- and isn't the text's
        pub old_never : (surely : History) → a ≡ next → FromLeft outside crash_states store old new surely [] i a
        old_never surely text_s = old_from surely [] (λ was from log.
            let at : a ≡ head = settled tells is.before a is.left in
            let on = goes_on store refl was from (subst (λ (b : Anchor). IsLog before store b was from) at log) in
            absurd (omega (arith, on.1.1.count, ap (λ (b : Anchor). b.0) (sym text_s ∙ at))))

      -- the next count
      counted : (was : History) (from : StoreState) → IsLog before store head was from → c.count ≡ head.0 + 1
      counted was from log = (goes_on store refl was from log).1.1.count

      -- a text that is new is that of the put, and all was written
      is_it : (bytes : List ℕ) (d : Commit) → WasWritten after bytes → IsAccepted store.secret bytes d
          → WasWritten before bytes ⊎ ((text ≡ bytes) × (puts.rest ≡ []) × (c ≡ d))
      is_it bytes d was accepted = ⊎_elim (λ earlier. inl earlier)
          (λ rest_of. ⊎_elim (λ is. absurd (record_is_no_text store.secret bytes d is accepted))
          (λ is. inr (
            is.0,
            is.1,
            same_commit
                (subst (λ (b : List ℕ). IsAccepted store.secret b d) (sym is.0) accepted),
          )) rest_of)
          (parts store (outside old).trace (outside new).trace head text c ps laid puts.done puts.rest puts.in_order
          (puts.wrote.trace tells) bytes was)
        where
          same_commit : IsAccepted store.secret text d → c ≡ d
          same_commit it =
              let e : Some c ≡ Some d = sym laid.accepted ∙ it in
              cc e

      -- the text's anchor
      module _ (complete : puts.rest ≡ []) where
        all_done : ps ++ in_slot ∷ [] ≡ puts.done
        all_done = puts.in_order ∙ ap (λ (l : List Placed). puts.done ++ l) complete ∙ append-nil puts.done

        wrote : (outside new).trace ≡ with_all_written (outside old).trace (ps ++ in_slot ∷ [])
        wrote = puts.wrote.trace tells ∙ ap (with_all_written (outside old).trace) (sym all_done)

        next_leads : (a : Anchor) → a ≡ next → Leads store before after added [] head a
        next_leads a is was from log =
            let on = goes_on store refl was from log in (
              [],
              on.1.0,
              ([], refl),
              subst (λ (b : Anchor). IsLog after store b (was ++ (added ++ [])) on.1.0) (sym is)
                  (subst (λ (h : History). IsLog after store next (was ++ h) on.1.0) (sym (append-nil added))
                  (next_log store (outside old).trace
                  (outside new).trace head text c ps laid wrote sound.unforged was added from on.1.0 on.0 on.1.1)),
            )

        next_anchored : (a : Anchor) → a ≡ next → IsAnchored after store.secret a
        next_anchored a is = subst (IsAnchored after store.secret) (sym is)
            (inr (text_named store (outside old).trace (outside new).trace head text c ps laid wrote))

        next_intact : (image i : List ℕ) → EachHolds i puts.done → SameExceptAt puts.done image i → IsIntactIn image before store head
            → IsIntactIn i after store next
        next_intact image i holds same is =
            let on = goes_on store refl is.history is.last is.log in
            let still = over head refl image i same is in
            record {
              history = is.history ++ added;
              last = on.1.0;
              log = next_log store (outside old).trace
                  (outside new).trace head text c ps laid wrote sound.unforged is.history added is.last on.1.0 on.0 on.1.1;
              stand = stand_next store (outside old).trace
                  (outside new).trace head text c ps laid wrote sound.unforged is.history added is.last on.1.0 on.0 on.1.1 i
                  (subst (EachHolds i) (sym all_done) holds) still.stand;
            }

      pub next_from : (i : List ℕ) (a : Anchor)
          → IsNext (outside old).honest puts.done puts.rest next (now outside crash_states old) i a
          → FromLeft outside crash_states store old new added [] i a
      next_from i a is =
          let at : is.old_anchor ≡ head = settled tells is.over.before is.old_anchor is.over.left in
          record {
            image = is.over.before;
            anchor = is.old_anchor;
            left = is.over.left;
            leads = subst (λ (b : Anchor). Leads store before after added [] b a) (sym at) (next_leads is.complete a is.is_next);
            anchored = λ was. next_anchored is.complete a is.is_next;
            counts = λ was from log.
                let head_counts = counted was from (subst (λ (b : Anchor). IsLog before store b was from) at log) in
                let here = ap (λ (b : Anchor). b.0) at in
                let there = ap (λ (b : Anchor). b.0) is.is_next in
                omega (arith, head_counts, here, there);
            spares = λ honest intact.
                subst (λ (b : Anchor). IsIntactIn i after store b) (sym is.is_next)
                (next_intact is.complete is.over.before i (is.holds honest) (is.over.same honest)
                (subst (λ (b : Anchor). IsIntactIn is.over.before before store b) at intact));
          }

      all_part : (a b : Anchor) → Leads store before after added [] a b → Leads store before after [] added a b
      all_part a b led was from log =
          let one = led was from log in
          (added ++ one.0, one.1, (one.2.0, all_of one.0 one.2.0 one.2.1), one.3)
        where
          all_of : (front rest : History) → front ++ rest ≡ [] → (added ++ front) ++ rest ≡ added
          all_of [] rest is = ap (λ (h : History). h ++ rest) (append-nil added) ∙ ap (λ (h : History). added ++ h) is ∙ append-nil added
          all_of (x ∷ front) rest is = absurd (cc is)

      next_begun : (i : List ℕ) (a : Anchor) → FromLeft outside crash_states store old new added [] i a
          → FromLeft outside crash_states store old new [] added i a
      next_begun i a f = record {
        image = f.image;
        anchor = f.anchor;
        left = f.left;
        leads = all_part f.anchor a f.leads;
        anchored = f.anchored;
        counts = f.counts;
        spares = f.spares;
      }

      either : (i : List ℕ) (a : Anchor)
          → IsOld (outside old).honest puts.done (now outside crash_states old) i a
          ⊎ IsNext (outside old).honest puts.done puts.rest next (now outside crash_states old) i a
          → FromLeft outside crash_states store old new [] added i a
      either i a (inl was) = old_stays i a was added
      either i a (inr is) = next_begun i a (next_from i a is)

      well_formed : IsWellFormedLog before store.secret head → IsWellFormedTrace after store.secret
      well_formed kept = formed store (outside old).trace (outside new).trace head text c ps laid puts.done puts.rest puts.in_order
          (puts.wrote.trace tells) sound.unforged added goes_on kept

      -- The text ends a log behind the anchor's,
      text_behind : (all : History) → all ≡ added → (was : History) (from : StoreState) → IsLog before store head was from
          → EachNewText store.secret before after (EndsBehind after store was all)
      text_behind all is was from log bytes d written accepted = ⊎_elim (λ earlier. inl earlier)
          (λ it.
          let on = goes_on store refl was from log in
          let at_text : EndsBehind after store was all text c = record {
            front = added;
            last = on.1.0;
            is_front = ([], append-nil added ∙ sym is);
            log = next_log store (outside old).trace
                (outside new).trace head text c ps laid (wrote it.1) sound.unforged was added from on.1.0 on.0 on.1.1;
          } in
          inr (subst (λ (k : Commit). EndsBehind after store was all bytes k) it.2
          (subst (λ (b : List ℕ). EndsBehind after store was all b c) it.0 at_text)))
          (is_it bytes d written accepted)

      -- and no anchor that a stop may leave is further than one behind it.
      text_near : EachHasLog outside crash_states store old
          → EachNewText store.secret before after (λ bytes d. (i : List ℕ) (a : Anchor) → now outside crash_states new i a
          → d.count ≤ a.0 + 1)
      text_near each bytes d written accepted = ⊎_elim (λ earlier. inl earlier)
          (λ it. inr (λ i a here. subst (λ (k : Commit). k.count ≤ a.0 + 1) it.2 (⊎_elim (near_old i a) (near_next i a)
          (puts.any_moment.each i a (since_start i a here)))))
          (is_it bytes d written accepted)
        where
          near_old : (i : List ℕ) (a : Anchor) → IsOld (outside old).honest puts.done (now outside crash_states old) i a → c.count ≤ a.0 + 1
          near_old i a is =
              let at : a ≡ head = settled tells is.before a is.left in
              let log = each is.before a is.left in
              let count = counted log.0 log.1 (subst (λ (b : Anchor). IsLog before store b log.0 log.1) at log.2) in
              let same = ap (λ (b : Anchor). b.0) at in
              omega (arith, count, same)

          near_next : (i : List ℕ) (a : Anchor)
              → IsNext (outside old).honest puts.done puts.rest next (now outside crash_states old) i a → c.count ≤ a.0 + 1
          near_next i a is =
              let same = ap (λ (b : Anchor). b.0) is.is_next in
              omega (arith, same)

      texts_written : (all : History) → all ≡ added
          → ((Rose (outside old).faults (outside new).faults → ⊥) → (outside new).anchor ≡ next)
          → WritesTexts outside crash_states store old all new
      texts_written all is reached = record {
        behind = text_behind all is;
        near = text_near;
        near_own = λ was from log bytes d written accepted. ⊎_elim (λ earlier. inl earlier)
            (λ it.
            let count = counted was from log in
            inr (subst (λ (k : Commit). k.count ≤ (outside new).anchor.0 + 1) it.2
            (⊎_elim (λ stays. let e = ap (λ (b : Anchor). b.0) stays in omega (arith, count, e))
            (λ is. let e = ap (λ (b : Anchor). b.0) is.0 in omega (arith, e)) (puts.anchor tells))))
            (is_it bytes d written accepted);
        reached = λ was from log none bytes d written accepted. ⊎_elim (λ earlier. inl earlier)
            (λ it.
            let there = ap (λ (b : Anchor). b.0) (reached none) in
            inr (subst (λ (k : Commit). k.count ≤ (outside new).anchor.0) it.2 (omega (arith, there))))
            (is_it bytes d written accepted);
      }

      -- the platform's anchor counts no less
      no_less : (was : History) (from : StoreState) → IsLog before store head was from → head.0 ≤ (outside new).anchor.0
      no_less was from log =
          let more = counted was from log in
          ⊎_elim
          (λ same. let e = ap (λ (b : Anchor). b.0) same in omega (arith, e))
          (λ is. let e = ap (λ (b : Anchor). b.0) is.0 in omega (arith, e, more)) (puts.anchor tells)

    text_in_slot : IsTextInSlot store.secret (slot_place c.count) text
    text_in_slot = record {
      commit = c;
      value = laid.value;
      spelled = commit_of_is
          (commit_key_of store.secret) text c laid.accepted;
      slot = refl;
    }

    ran_by : (surely maybe : History) → surely ++ maybe ≡ added
        → (IsSound store.secret (outside new) → Leads store before after surely maybe head (outside new).anchor)
        → (IsSound store.secret (outside new) → (i : List ℕ) (a : Anchor) → now outside crash_states new i a
        → FromLeft outside crash_states store old new surely maybe i a)
        → (IsSound store.secret (outside new) → (Rose (outside old).faults (outside new).faults → ⊥) → (outside new).anchor ≡ next)
        → RanOn outside crash_states store old surely maybe new
    ran_by surely maybe all leads left reached = record {
      tells = told.tells;
      honest = told.honest;
      grows = grows;
      faults = told.no_fewer_faults;
      sealed = λ tells. put_sealed store.secret c.count ps puts.done puts.rest text (outside old).trace
          (outside new).trace laid.records laid.in_segments text_in_slot puts.in_order (puts.wrote.trace tells);
      formed = well_formed;
      texts = λ sound. texts_written sound (surely ++ maybe) all (reached sound);
      counts = no_less;
      leads = leads;
      anchored = λ sound was.
          ⊎_elim
          (λ same. subst (IsAnchored after store.secret) (sym same)
          (still_anchored store (outside old).trace (outside new).trace (grew sound) head was))
          (λ is. next_anchored sound is.1 (outside new).anchor is.0) (puts.anchor (tells sound));
      left = left;
      moments = record {
        later = puts.any_moment.later;
        each = λ i a since sound. subst (λ (h : History). FromLeft outside crash_states store old new [] h i a) (sym all)
            (either sound i a (puts.any_moment.each i a since));
        before = puts.any_moment.before;
        keeps = puts.any_moment.keeps;
      };
    }

    -- after an error
    begun : IsErr result → RanOn outside crash_states store old [] added new
    begun err = ran_by [] added refl
        (λ sound. ⊎_elim
        (λ same. subst (λ (b : Anchor). Leads store before after [] added head b) (sym same)
        (still_leads store (outside old).trace (outside new).trace (grew sound) head added))
        (λ is. all_part sound head (outside new).anchor (next_leads sound is.1 (outside new).anchor is.0)) (puts.anchor (tells sound)))
        (λ sound i a here. either sound i a (puts.any_moment.each i a (since_start i a here)))
        (λ sound none. absurd (none (told.cause err)))

    -- after all went well
    made : puts.rest ≡ [] → (IsTrue (outside old).tells → (outside new).anchor ≡ next)
        → (IsTrue (outside old).tells → (i : List ℕ) (a : Anchor) → now outside crash_states new i a → a ≡ next)
        → RanOn outside crash_states store old added [] new
    made complete advanced only = ran_by added [] (append-nil added)
        (λ sound. next_leads sound complete (outside new).anchor (advanced (tells sound)))
        (λ sound i a here. ⊎_elim
        (λ was. old_never sound i a was added (only (tells sound) i a here)) (λ is. next_from sound i a is)
        (puts.any_moment.each i a (since_start i a here)))
        (λ sound none. advanced (tells sound))

  -- A put of a text that comes next adds what the text adds.
  pub put_ran : {T E : Type 0} (result : Result T E) → Puts outside crash_states old new (ps ++ in_slot ∷ []) next result
      → Told (outside old) (outside new) result
      → (IsTrue (outside old).tells → OnOk result ((outside new).anchor ≡ next))
      → (IsTrue (outside old).tells → OnOk result ((i : List ℕ) (a : Anchor) → now outside crash_states new i a → a ≡ next))
      → RanStep outside crash_states store added old new result
  put_ran (Ok x) puts told advanced only = record { ok = made (Ok x) puts told (puts.complete refl) advanced only; begun = tt }
  put_ran (Err e) puts told advanced only = record { ok = tt; begun = begun (Err e) puts told refl }
