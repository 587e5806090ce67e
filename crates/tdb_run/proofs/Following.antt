-- Runs one after another.
use Rattle.std.proofs.Common.{◌≡◌, inl, inr, ⊎_elim, ℕ, zero, suc, ◌≤◌, List, [], ◌∷◌, ◌++◌, IsTrue, Bool, refl, sym, ◌∙◌, ap, subst, append-nil, append_assoc, arith}
use Rattle.tdb_base.specs.Trace.{IsNumbered, Trace, WrittenPiece}
use Rattle.tdb_base.specs.declared.suite.Suite.{Suite}
use Rattle.tdb_mark.specs.CommitText.{commit_key_of, commit_of}
use Rattle.tdb_mark.specs.declared.commit.Commit.{Commit}
use Rattle.tdb_mark.specs.Unforged.{IsUnforged, WasWritten}
use Rattle.tdb_model.specs.Apply.{History}
use Rattle.tdb_platform.specs.CrashStates.{CrashStates, now}
use Rattle.tdb_platform.specs.Outside.{Anchor, Outside}
use Rattle.tdb_overlay.specs.Log.{IsLog}
use Rattle.tdb_overlay.specs.Reading.{OnlyReads}
use Rattle.tdb_overlay.specs.Sound.{IsSound}
use Rattle.tdb_overlay.specs.StoreState.{StoreState, first_state}
use Rattle.tdb_overlay.specs.WellFormedLog.{IsAccepted, IsKeptLog, IsWellFormedLog, IsWellFormedTrace}
use Rattle.tdb_overlay.proofs.KeptLaws.{anchor_log}
use Rattle.tdb_overlay.proofs.OneLog.{log_is_one}
use Rattle.tdb_overlay.proofs.RanLaws.{sound_earlier}
use Rattle.tdb_recover.specs.Pending.{Takes}
use Rattle.tdb_recover.specs.Premises.{Premises}
use Rattle.tdb_run.specs.Opens.{IsOpened}
use Rattle.tdb_run.specs.Ran.{Course, HasFirstTexts, IsAtFirst, Leaves}
use Rattle.tdb_run.specs.Run.{FitsWords}
use Rattle.tdb_run.specs.Runs.{CourseHasOneMore, EachStarts, IsKept, IsOneMore, IsWithin, Known, OneRun, Runs, StartsAgain, StartsBehind, known_after, last_of, made_in}
use Rattle.tdb_run.proofs.Acknowledging.{not_acknowledged}
use Rattle.tdb_run.proofs.KeptTexts.{log_at_none}

-- these commits stand among those behind others
within_at : (ys zs ws : History) → IsWithin zs (ys ++ (zs ++ ws))
within_at ys [] ws = tt
within_at ys (z ∷ zs) ws = (ys, zs ++ ws, refl, within_at [] zs ws)

within_both : (xs ys zs ws : History) → IsWithin xs ys → IsWithin (xs ++ zs) (ys ++ (zs ++ ws))
within_both [] ys zs ws is = within_at ys zs ws
within_both (x ∷ xs) ys zs ws is = (
  is.0,
  is.1 ++ (zs ++ ws),
  ap (λ (h : History). h ++ (zs ++ ws)) is.2 ∙ append_assoc is.0 (x ∷ is.1) (zs ++ ws),
  within_both xs is.1 zs ws is.3,
)

-- of nothing each part is nothing
front_nothing : (xs ys : History) → xs ++ ys ≡ [] → xs ≡ []
front_nothing [] ys is = refl
front_nothing (x ∷ xs) ys is = absurd (cc is)

rest_nothing : (xs ys : History) → xs ++ ys ≡ [] → ys ≡ []
rest_nothing [] ys is = is
rest_nothing (x ∷ xs) ys is = absurd (cc is)

pub none_made : (opening both maybe : History) → opening ++ (both ++ maybe) ≡ [] → opening ++ both ≡ []
none_made opening both maybe is =
    ap (λ (h : History). h ++ both) (front_nothing opening (both ++ maybe) is)
    ∙ front_nothing both maybe (rest_nothing opening (both ++ maybe) is)

-- An anchor has a log, whose history holds these commits in their order.
pub record HasWithin (written : List WrittenPiece) (secret : List ℕ) (anchor : Anchor) (acknowledged : History) : Type 0 where
  suite : Suite
  history : History
  last : StoreState
  log : IsLog written (record { secret = secret; suite = suite }) anchor history last
  within : IsWithin acknowledged history

module _ {D : Type 0} (outside : D → Outside) (crash_states : D → CrashStates)
    (counts : (p : D) (t u : ℕ) (i : List ℕ) (a : Anchor) → t ≤ u → u ≤ (outside p).clock → crash_states p u i a → crash_states p t i a)
    (numbered : (p : D) → IsTrue (outside p).tells → IsNumbered (outside p).trace) (secret : List ℕ) where
  abbrev written : D → List WrittenPiece
  written p = (outside p).trace.written

  -- What is kept between runs, with the commits that each anchor's history holds.
  pub record Holds (known : Known) (acknowledged : History) (p : D) : Type 0 where
    pub begun : (text : List ℕ) (c : Commit) → WasWritten (written p) text → IsAccepted secret text c → known text c
    pub kept : IsKept outside crash_states secret p
    pub own : HasWithin (written p) secret (outside p).anchor acknowledged
    pub each : (i : List ℕ) (a : Anchor) → now outside crash_states p i a → HasWithin (written p) secret a acknowledged

  pub first_holds : (p : D) → IsKept outside crash_states secret p → Holds (λ text c. WasWritten (written p) text) [] p
  first_holds p kept = record {
    begun = λ text c was accepted. was;
    kept = kept;
    own =
        let log = anchor_log (written p) secret (outside p).anchor kept.log.anchor in
        record { suite = log.0; history = log.1; last = log.2; log = log.3; within = tt };
    each = λ i a here.
        let log = anchor_log (written p) secret a (kept.log.left i a here) in
        record { suite = log.0; history = log.1; last = log.2; log = log.3; within = tt };
  }

  module _ (p q r : D) (known : Known) (acknowledged : History) (holds : Holds known acknowledged p) (again : StartsAgain outside crash_states p q)
      (run : OneRun outside crash_states secret q r) where
    same : written p ≡ written q
    same = ap (λ (t : Trace). t.written) (sym again.trace)

    -- what is so of each anchor that could be left, and of the one that was there, is so of this one
    of_start : (P : Anchor → Type 0) → P (outside p).anchor → ((i : List ℕ) (a : Anchor) → now outside crash_states p i a → P a)
        → P (outside q).anchor
    of_start P own each = ⊎_elim (λ is. subst P (sym is) own) (λ left. each left.0 (outside q).anchor left.1) again.anchor

    formed_there : IsWellFormedLog (written p) secret (outside q).anchor
    formed_there = of_start (IsWellFormedLog (written p) secret) holds.kept.log.anchor holds.kept.log.left

    found : HasWithin (written p) secret (outside q).anchor acknowledged
    found = of_start (λ a. HasWithin (written p) secret a acknowledged) holds.own holds.each

    first_there : (outside q).anchor.0 ≡ 0 → HasFirstTexts secret (outside p)
    first_there = of_start (λ a. a.0 ≡ 0 → HasFirstTexts secret (outside p)) holds.kept.first.anchor holds.kept.first.left

    -- The run has all that is taken for granted of its start.
    module _ (sound : IsSound secret (outside r)) where
      tells : IsTrue (outside q).tells
      tells = subst (λ (b : Bool). IsTrue b) run.outcome.carried_out.calls.tells sound.tells

      behind : (suite : Suite) (history : History) (from : StoreState)
          → IsLog (written q) (record { secret = secret; suite = suite }) (outside q).anchor history from → IsWithin acknowledged history
          → FitsWords (outside q) run.words (record { secret = secret; suite = suite })
          → StartsBehind outside crash_states secret q r run known acknowledged
      behind suite history from log within fits =
          let given : Premises (outside q) (outside r) secret (record { secret = secret; suite = suite }) history from = record {
            tells = tells;
            keys = refl;
            unforged = sound.unforged;
            formed = subst (λ (ws : List WrittenPiece). IsWellFormedTrace ws secret) same
                formed_there.trace;
            log = log;
            first = λ none text c was accepted. first_there none text c
                (subst (λ (ws : List WrittenPiece). WasWritten ws text) (sym same) was) accepted;
          } in
          let over = run.outcome.carried_out.over run.command (record { secret = secret; suite = suite }) history from given fits in
          record {
            store = record { secret = secret; suite = suite };
            history = history;
            from = from;
            given = given;
            opened = subst (IsOpened secret) same holds.kept.opened;
            holds = within;
            begun = known_there;
            over = over;
            more = by_course over.ran.course;
          }
        where
          known_there : (text : List ℕ) (c : Commit) → WasWritten (written q) text → IsAccepted secret text c → known text c
          known_there text c was accepted =
              holds.begun text c (subst (λ (ws : List WrittenPiece). WasWritten ws text) (sym same) was) accepted

          one_more : (taken : History) (to : StoreState)
              → (t : Takes (written q) (record { secret = secret; suite = suite }) (outside q).anchor history from taken to)
              → IsOneMore known acknowledged t
          one_more taken to (inl is) = (
            known_there is.text is.commit is.pending.was_written is.pending.accepted,
            not_acknowledged (written q) (record { secret = secret; suite = suite }) (outside q).anchor history taken acknowledged from to
                log within is,
          )
          one_more taken to (inr none) = tt

          by_course : {opening added own maybe : History}
              → (course : Course outside crash_states (record { secret = secret; suite = suite })
              run.outcome.carried_out.talk.conversation q r history from run.outcome.meant opening added own maybe)
              → CourseHasOneMore known acknowledged course
          by_course (inl opened) = one_more opened.1.taken opened.1.mid opened.1.takes
          by_course (inr none) = one_more none.stops.taken none.stops.mid none.stops.takes

      found_log : IsLog (written q) (record { secret = secret; suite = found.suite }) (outside q).anchor found.history found.last
      found_log = subst (λ (ws : List WrittenPiece). IsLog ws (record { secret = secret; suite = found.suite }) (outside q).anchor
          found.history found.last) same found.log

      by_count : (n : ℕ) → (outside q).anchor.0 ≡ n → StartsBehind outside crash_states secret q r run known acknowledged
      by_count zero none =
          let at = log_at_none (written q) (record { secret = secret; suite = run.suite }) (outside q).anchor none in
          let one = log_is_one (written q) (record { secret = secret; suite = found.suite }) (record { secret = secret; suite = run.suite })
          refl (outside q).anchor found.history [] found.last first_state found_log at in
          behind run.suite [] first_state at (subst (IsWithin acknowledged) one.0 found.within) (λ zero_count. run.said)
      by_count (suc n) is =
          behind found.suite found.history found.last found_log found.within (λ none. absurd (omega (arith, is, none)))

      pub starts : StartsBehind outside crash_states secret q r run known acknowledged
      starts = by_count (outside q).anchor.0 refl

    -- and leaves it again, with its own commits.
    module _ (s : StartsBehind outside crash_states secret q r run known acknowledged) where
      opened_then : IsOpened s.store.secret (written r)
      opened_then = s.over.opened (subst (λ (k : List ℕ). IsOpened k (written q)) (sym s.given.keys) s.opened)

      known_then : (text : List ℕ) (c : Commit) → WasWritten (written r) text → IsAccepted secret text c → known_after s text c
      known_then text c was accepted = ⊎_elim
          (λ past. inl (holds.begun text c (subst (λ (ws : List WrittenPiece). WasWritten ws text) (sym same) past) accepted))
          (λ ends. inr ends)
          (s.over.texts text c was (subst (λ (k : List ℕ). IsAccepted k text c) (sym s.given.keys) accepted))

      by_leaves : (l : Leaves outside crash_states s.store q r s.history (made_in s) s.over.ran.maybe) → Holds (known_after s) (acknowledged ++ made_in s) r
      by_leaves l = record {
        begun = known_then;
        own =
            let all = l.anchor in
            record {
              suite = s.store.suite;
              history = s.history ++ (made_in s ++ all.0);
              last = all.1;
              log = subst (λ (k : List ℕ). IsLog (written r) (record { secret = k; suite = s.store.suite }) (outside r).anchor
                  (s.history ++ (made_in s ++ all.0)) all.1) s.given.keys all.3;
              within = within_both acknowledged s.history (made_in s) all.0 s.holds;
            };
        kept = record {
          log = subst (λ (k : List ℕ). IsKeptLog outside crash_states k r) s.given.keys l.kept;
          opened = subst (λ (k : List ℕ). IsOpened k (written r)) s.given.keys opened_then;
          first = subst (λ (k : List ℕ). IsAtFirst outside crash_states k r) s.given.keys l.first;
        };
        each = λ i a here.
            let all = l.left i a here in
            record {
              suite = s.store.suite;
              history = s.history ++ (made_in s ++ all.0);
              last = all.1;
              log = subst (λ (k : List ℕ). IsLog (written r) (record { secret = k; suite = s.store.suite }) a
                  (s.history ++ (made_in s ++ all.0)) all.1) s.given.keys all.3;
              within = within_both acknowledged s.history (made_in s) all.0 s.holds;
            };
      }

      by_reads : OnlyReads outside crash_states q r → made_in s ≡ [] → Holds (known_after s) (acknowledged ++ made_in s) r
      by_reads reads none = subst (λ (h : History). Holds (known_after s) h r) (sym (ap (λ (h : History). acknowledged ++ h) none ∙ append-nil acknowledged))
          (record {
            begun = known_then;
            kept = record {
              log = record {
                anchor = subst (λ (a : Anchor). IsWellFormedLog (written r) secret a) (sym (reads.anchor s.given.tells))
                    (still (outside q).anchor formed_there);
                left = λ i a here. still a (of_left (IsWellFormedLog (written p) secret) holds.kept.log.anchor holds.kept.log.left i a here);
              };
              opened = subst (λ (k : List ℕ). IsOpened k (written r)) s.given.keys opened_then;
              first = record {
                anchor = λ none_counted. first_still (first_there
                    (ap (λ (a : Anchor). a.0) (sym (reads.anchor s.given.tells)) ∙ none_counted));
                left = λ i a here none_counted. first_still (of_left (λ b. b.0 ≡ 0 → HasFirstTexts secret (outside p)) holds.kept.first.anchor
                    holds.kept.first.left i a here none_counted);
              };
            };
            own = subst (λ (a : Anchor). HasWithin (written r) secret a acknowledged) (sym (reads.anchor s.given.tells))
                (within_still (outside q).anchor found);
            each = λ i a here. within_still a (of_left (λ b. HasWithin (written p) secret b acknowledged) holds.own holds.each i a here);
          })
        where
          all_same : written p ≡ written r
          all_same = same ∙ sym (reads.written s.given.tells)

          still : (a : Anchor) → IsWellFormedLog (written p) secret a → IsWellFormedLog (written r) secret a
          still a is = subst (λ (ws : List WrittenPiece). IsWellFormedLog ws secret a) all_same is

          within_still : (a : Anchor) → HasWithin (written p) secret a acknowledged → HasWithin (written r) secret a acknowledged
          within_still a is = subst (λ (ws : List WrittenPiece). HasWithin ws secret a acknowledged) all_same is

          first_still : HasFirstTexts secret (outside p) → HasFirstTexts secret (outside r)
          first_still is text c was accepted = is text c (subst (λ (ws : List WrittenPiece). WasWritten ws text) (sym all_same) was) accepted

          -- what is so of the anchor that was there, and of each that could be left, is so of each that may be left now
          of_left : (P : Anchor → Type 0) → P (outside p).anchor → ((i : List ℕ) (a : Anchor) → now outside crash_states p i a → P a)
              → (i : List ℕ) (a : Anchor) → now outside crash_states r i a → P a
          of_left P own each i a here = ⊎_elim (λ is. subst P (sym is) own) (λ at. each at.0 a at.1)
              (again.left i a (reads.left.each i a
              (counts r (outside q).clock (outside r).clock i a reads.left.later (omega arith) here)))

      pub holds_on : Holds (known_after s) (acknowledged ++ made_in s) r
      holds_on = ⊎_elim by_leaves
          (λ read. by_reads read.0
          (none_made s.over.ran.opening (s.over.ran.added ++ s.over.ran.own) s.over.ran.maybe read.1))
          s.over.stops

  -- a trace that is sound at the last end was so before
  pub sound_back : (p : D) (rs : List (D × D)) → Runs outside crash_states secret p rs → IsSound secret (outside (last_of p rs))
      → IsSound secret (outside p)
  sound_back p [] ran sound = sound
  sound_back p (r ∷ rest) ran sound =
      let calls = ran.1.outcome.carried_out.calls in
      let at_end = sound_back r.1 rest ran.2 sound in
      let begun = sound_earlier outside crash_states counts numbered (record { secret = secret; suite = ran.1.suite }) r.0 r.1 calls.tells
      calls.grows at_end in
      record {
        tells = subst (λ (b : Bool). IsTrue b) ran.0.tells begun.tells;
        unforged = subst (λ (t : Trace). IsUnforged t (commit_of (commit_key_of secret))) ran.0.trace begun.unforged;
      }

  each_starts : (p : D) (rs : List (D × D)) (known : Known) (acknowledged : History) → Holds known acknowledged p
      → (ran : Runs outside crash_states secret p rs) → IsSound secret (outside (last_of p rs))
      → EachStarts outside crash_states secret p rs ran known acknowledged
  each_starts p [] known acknowledged holds ran sound = tt
  each_starts p (r ∷ rest) known acknowledged holds ran sound =
      let s = starts p r.0 r.1 known acknowledged holds ran.0 ran.1 (sound_back r.1 rest ran.2 sound) in (
        s,
        each_starts r.1 rest (known_after s) (acknowledged ++ made_in s) (holds_on p r.0 r.1 known acknowledged holds ran.0 ran.1 s) ran.2
            sound,
      )

  -- Each run starts behind a log that holds all that earlier ones acknowledged.
  pub follow : (p : D) (rs : List (D × D)) → IsKept outside crash_states secret p → (ran : Runs outside crash_states secret p rs)
      → IsSound secret (outside (last_of p rs))
      → EachStarts outside crash_states secret p rs ran (λ text c. WasWritten (written p) text) []
  follow p rs kept ran sound = each_starts p rs (λ text c. WasWritten (written p) text) [] (first_holds p kept) ran sound
