-- Over a reliable platform a store isn't found damaged.
use Rattle.std.proofs.Common.{◌≡◌, ◌≢◌, inl, inr, ⊎_elim, ℕ, ◌≤◌, List, [], ◌∷◌, ◌++◌, IsTrue, refl, sym, ◌∙◌, ap, subst, arith}
use Rattle.std.proofs.lemmas.Option.{same_Some}
use Rattle.tdb_base.specs.declared.piece.Damage.{Damage}
use Rattle.tdb_base.specs.declared.piece.Place.{Place}
use Rattle.tdb_base.specs.declared.suite.Suite.{Suite}
use Rattle.tdb_base.specs.Trace.{Extends, IsNumbered, WrittenPiece}
use Rattle.tdb_mark.specs.CommitFormat.{IsInFormat}
use Rattle.tdb_mark.specs.CommitText.{commit_key_of, commit_of}
use Rattle.tdb_mark.specs.Unforged.{IsUnforged}
use Rattle.tdb_mark.specs.declared.commit.Commit.{Commit}
use Rattle.tdb_mark.proofs.TextLemmas.{commit_of_is}
use Rattle.tdb_model.specs.Apply.{History}
use Rattle.tdb_model.specs.State.{no_partitions}
use Rattle.tdb_model.specs.declared.error.CommitError.{CommitError}
use Rattle.tdb_model.specs.declared.error.CommitError.TheVariants as refusals
use Rattle.tdb_platform.specs.CrashStates.{CrashStates}
use Rattle.tdb_platform.specs.Outside.{Anchor, Outside}
use Rattle.tdb_overlay.specs.Found.{Finds, Store, in_trace, store_of_text, store_under}
use Rattle.tdb_overlay.specs.Images.{IsIntactIn, IsReliableUnder}
use Rattle.tdb_overlay.specs.Log.{Adds, IsLog, IsLogOf}
use Rattle.tdb_overlay.specs.Ran.{RanOn}
use Rattle.tdb_overlay.specs.Sound.{IsSound}
use Rattle.tdb_overlay.specs.StoreState.{StoreState, first_state, formatted_state}
use Rattle.tdb_overlay.specs.WellFormedLog.{IsWellFormedTrace}
use Rattle.tdb_overlay.proofs.Chains.{chain_last-at}
use Rattle.tdb_overlay.proofs.OneLog.{log_is_one}
use Rattle.tdb_overlay.proofs.PutLogs.{log_still}
use Rattle.tdb_recover.specs.Pending.{Takes}
use Rattle.tdb_recover.specs.Premises.{Premises}
use Rattle.tdb_recover.specs.Settled.{RanSettled}
use Rattle.tdb_recover.specs.declared.error.OpenError.{OpenError}
use Rattle.tdb_recover.specs.declared.error.OpenError.TheVariants as opens
use Rattle.tdb_chunk.specs.Formatting.{WritesFirstText}
use Rattle.tdb_chunk.specs.declared.store_format.FormatError.{FormatError}
use Rattle.tdb_chunk.specs.declared.store_format.FormatError.TheVariants as formats
use Rattle.tdb_run.specs.Calls.{Calls}
use Rattle.tdb_run.specs.Ends.{after_format, stop_of_commit, stop_of_format, stop_of_open}
use Rattle.tdb_run.specs.Opened.{HasNotBegun, IsWhyNot, OverLogs}
use Rattle.tdb_run.specs.Opens.{HasUserPartitions, IsOpened}
use Rattle.tdb_run.specs.Spared.{IsNotDamaged, IsSpared}
use Rattle.tdb_run.specs.declared.opening.NotOpened.{NotOpened}
use Rattle.tdb_run.specs.declared.opening.NotOpened.TheVariants.{AlreadyFormatted, Damaged, Memory, PlatformFault, Refused, Unformatted}
use Rattle.tdb_run.specs.declared.status.Finding.TheVariants.{Form, Tampered}
use Rattle.tdb_run.proofs.Joining.{given_new, none_at_first, at_first, it_is}
use Rattle.tdb_run.proofs.KeptTexts.{opened_at}
use Rattle.tdb_run.proofs.Leaving.{reliable_now}
use Rattle.tdb_run.proofs.OpeningLaws.{whole_ran}

-- a commit that is refused tells no damage of a piece
pub commit_untampered : (slot : Place) (e : CommitError) (damage : Damage) → stop_of_commit e slot ≢ Damaged (Tampered damage)
commit_untampered slot refusals.Stopped damage is = cc is
commit_untampered slot (refusals.TooManyChanges number) damage is = cc is
commit_untampered slot refusals.PartitionNumber damage is = cc is
commit_untampered slot (refusals.NoPartition part) damage is = cc is
commit_untampered slot (refusals.PartitionExists part) damage is = cc is
commit_untampered slot (refusals.PartitionTwice part) damage is = cc is
commit_untampered slot (refusals.Frozen part) damage is = cc is
commit_untampered slot refusals.RankTooLarge damage is = cc is
commit_untampered slot refusals.ChunkTooLong damage is = cc is
commit_untampered slot refusals.RingFull damage is = cc is
commit_untampered slot refusals.CounterEnd damage is = cc is
commit_untampered slot (refusals.NoRoom room) damage is = cc is
commit_untampered slot refusals.Memory damage is = cc is
commit_untampered slot refusals.Fault damage is = cc is

-- nor does a store that isn't formatted
pub format_undamaged : (e : FormatError) → IsNotDamaged (stop_of_format e)
format_undamaged formats.Segments finding is = cc is
format_undamaged (formats.AlreadyFormatted count) finding is = cc is
format_undamaged formats.Fault finding is = cc is
format_undamaged formats.Memory finding is = cc is

-- a store that isn't attached, and is neither tampered with nor formed otherwise
pub attach_undamaged : (e : OpenError) → ((damage : Damage) → e ≡ opens.Tampered damage → ⊥) → ((place : Place) → e ≡ opens.Form place → ⊥)
    → IsNotDamaged (stop_of_open e)
attach_undamaged opens.Unformatted tampered form finding is = cc is
attach_undamaged (opens.Tampered damage) tampered form finding is = tampered damage refl
attach_undamaged (opens.Form place) tampered form finding is = form place refl
attach_undamaged opens.Fault tampered form finding is = cc is
attach_undamaged opens.Memory tampered form finding is = cc is

-- one that isn't open after it was made, where the anchor counts a text
pub after_undamaged : (why : NotOpened) → why ≢ Unformatted → IsNotDamaged why → IsNotDamaged (after_format why)
after_undamaged Unformatted some isnt finding is = some refl
after_undamaged AlreadyFormatted some isnt finding is = cc is
after_undamaged (Damaged found) some isnt finding is = isnt found refl
after_undamaged (Refused refusal) some isnt finding is = cc is
after_undamaged PlatformFault some isnt finding is = cc is
after_undamaged Memory some isnt finding is = cc is

-- the commit that is taken leaves partitions 1 and 2 as a run makes them
mid_keeps : (before : List WrittenPiece) (store : Store) (a : Anchor) (history taken : History) (from mid : StoreState)
    → IsLog before store a history from → Takes before store a history from taken mid → IsOpened store.secret before
    → HasUserPartitions mid.chunks
mid_keeps before store a history taken from mid log (inr none) opened =
    subst (λ (s : StoreState). HasUserPartitions s.chunks) (sym none.1) (opened_at before store a history from log opened)
mid_keeps before store a history taken from mid log (inl is) opened =
    let text = opened is.text is.commit is.pending.was_written is.pending.accepted in
    let one = log_is_one before (store_of_text store.secret is.commit) store refl _ text.history (history ++ taken) text.last mid
    text.log is.log in
    subst HasUserPartitions (ap (λ (s : StoreState). s.chunks) one.1) text.holds

module _ {D : Type 0} (outside : D → Outside) (crash_states : D → CrashStates) where
  -- so they aren't found otherwise
  no_form : (store : Store) (old new : D) (history : History) (from : StoreState) (why : NotOpened)
      → IsLog (outside old).trace.written store (outside old).anchor history from
      → HasNotBegun outside crash_states store old new history from why → IsOpened store.secret (outside old).trace.written
      → (place : Place) → why ≡ Damaged (Form place) → ⊥
  no_form store old new history from why log h opened place is =
      let there : IsWhyNot store (outside old) (outside new) h.stops.mid (Damaged (Form place)) =
      subst (λ (w : NotOpened). IsWhyNot store (outside old) (outside new) h.stops.mid w) is h.stops.is_why in
      there.0
      (mid_keeps (outside old).trace.written store (outside old).anchor history h.stops.taken from h.stops.mid log h.stops.takes opened)

  -- A store that was attached, and isn't open because of its partitions, isn't damaged.
  pub spared_attached : (old new : D) (secret : List ℕ) (why : NotOpened) → ((damage : Damage) → why ≢ Damaged (Tampered damage))
      → OverLogs (outside old) (outside new) secret
      (λ store history from. HasNotBegun outside crash_states store old new history from why)
      → OverLogs (outside old) (outside new) secret (λ store history from. IsSpared outside crash_states secret old why)
  spared_attached old new secret why untampered begins store history from given reliable opened (Tampered damage) is =
      untampered damage is
  spared_attached old new secret why untampered begins store history from given reliable opened (Form place) is =
      no_form store old new history from why given.log (begins store history from given)
      (subst (λ (k : List ℕ). IsOpened k (outside old).trace.written) (sym given.keys) opened) place is

-- The first text of a log leaves no partition: it is a checkpoint.
first_adds : (finds : Finds) (store : Store) (c : Commit) (added : History) (after : StoreState) → IsInFormat c
    → Adds finds store first_state c added after → after.chunks ≡ no_partitions
first_adds finds store c added after format (inl checkpoint) = ap (λ (s : StoreState). s.chunks) checkpoint.0.after_is
first_adds finds store c added after format (inr commit) = absurd (omega (arith, commit.1.base, format.base))

first_has_none : (written : List WrittenPiece) (store : Store) (count : ℕ) (mark : List ℕ) (history : History) (last : StoreState)
    → count ≡ 1 → IsLog written store (count, mark) history last → last.chunks ≡ no_partitions
first_has_none written store count mark history last first is =
    let a = chain_last-at written (commit_of (commit_key_of store.secret)) mark is.chain 0 count first is.ends in
    let format = (commit_of_is (commit_key_of store.secret) a.0 a.1 a.4).in_format in
    let front : [] ≡ a.2 = same_Some [] a.2 a.6 in
    let one : is.chain ≡ a.1 ∷ [] = a.7 ∙ ap (λ (l : List Commit). l ++ a.1 ∷ []) (sym front) in
    let tells : IsLogOf (in_trace written) store first_state (a.1 ∷ []) history last =
    subst (λ (l : List Commit). IsLogOf (in_trace written) store first_state l history last) one is.tells in
    ap (λ (s : StoreState). s.chunks) tells.4.1 ∙ first_adds (in_trace written) store a.1 tells.0 tells.1 format tells.3.adds

-- Where only first texts were written, each text's state has partitions 1 and 2 as a run makes them if it was so before.
texts_after : (secret : List ℕ) (old new : Outside) → IsTrue old.tells → Extends old.trace new.trace → WritesFirstText secret old new
    → IsWellFormedTrace new.trace.written secret → IsOpened secret old.trace.written → IsOpened secret new.trace.written
texts_after secret old new tells grows texts formed opened text c was accepted =
    ⊎_elim
    (λ before.
    let t = opened text c before accepted in
    record {
      history = t.history;
      last = t.last;
      log = log_still old.trace new.trace (store_of_text secret c) _ t.history t.last grows t.log;
      holds = t.holds;
    })
    (λ first.
    let t = formed.texts text c was accepted in
    record {
      history = t.history;
      last = t.last;
      log = t.log;
      holds = subst HasUserPartitions
          (sym (first_has_none new.trace.written (store_of_text secret c) c.count _ t.history t.last first t.log))
          (inr none_at_first);
    })
    (texts tells text c was accepted)

one_not_none : {n : ℕ} → n ≡ 1 → n ≡ 0 → ⊥
one_not_none one none = cc

-- A new store that was formatted over a reliable platform, and then isn't open, isn't damaged.
module _ {D : Type 0} (outside : D → Outside) (crash_states : D → CrashStates)
    (counts : (p : D) (t u : ℕ) (i : List ℕ) (a : Anchor) → t ≤ u → u ≤ (outside p).clock → crash_states p u i a → crash_states p t i a)
    (numbered : (p : D) → IsTrue (outside p).tells → IsNumbered (outside p).trace) (platform p : D) (secret : List ℕ) (suite : Suite)
    (segments : ℕ) (none : IsTrue (outside platform).tells → (outside platform).anchor.0 ≡ 0)
    (formatted : IsSound secret (outside p) → IsLog (outside p).trace.written (store_under secret suite) (outside p).anchor []
    (formatted_state (store_under secret suite) segments))
    (texts : WritesFirstText secret (outside platform) (outside p)) (one : IsTrue (outside platform).tells → (outside p).anchor.0 ≡ 1)
    (ran : RanSettled outside crash_states (store_under secret suite) platform [] [] p) where
  module _ (end : D) (calls : Calls outside crash_states secret p end) (store : Store) (history : History) (from : StoreState)
      (given : Premises (outside platform) (outside end) secret store history from) (suite_is : store.suite ≡ suite) where
    made : RanOn outside crash_states (store_under secret suite) platform [] [] p
    made = whole_ran outside crash_states counts numbered (store_under secret suite) platform p [] [] ran

    same_store : store_under secret suite ≡ store
    same_store = it_is outside crash_states counts numbered platform p secret suite segments none formatted texts one ran end calls store
        history from given suite_is

    sound : IsSound secret (outside p)
    sound = at_first outside crash_states counts numbered platform p secret suite segments none formatted texts one ran end calls store
        history from given suite_is

    premises : Premises (outside p) (outside end) secret (store_under secret suite) [] (formatted_state (store_under secret suite) segments)
    premises = given_new outside crash_states counts numbered platform p secret suite segments none formatted texts one ran end calls store
        history from given suite_is

    -- the platform is reliable after it was formatted
    reliable_then : IsReliableUnder outside crash_states secret platform → IsReliableUnder outside crash_states secret p
    reliable_then reliable =
        let keys = given.keys in
        let r = reliable_now outside crash_states counts numbered secret store platform p history [] [] from
        (subst (λ (k : List ℕ). IsSound k (outside p)) (sym keys) sound)
        (record {
          tells = given.tells;
          keys = keys;
          unforged = subst (λ (k : List ℕ). IsUnforged (outside p).trace (commit_of (commit_key_of k))) (sym keys) sound.unforged;
          formed = given.formed;
          log = given.log;
          first = given.first;
        })
        (subst (λ (t : Store). RanSettled outside crash_states t platform [] [] p) same_store ran)
        (subst (λ (k : List ℕ). IsReliableUnder outside crash_states k platform) (sym keys) reliable) in
        record {
          honest = r.honest;
          intact = λ i a here. (
            store.suite,
            subst (λ (k : List ℕ). IsIntactIn i (outside p).trace.written (record { secret = k; suite = store.suite }) a) keys
                (r.intact i a here),
          );
        }

    opened_then : IsOpened secret (outside platform).trace.written → IsOpened secret (outside p).trace.written
    opened_then opened =
        texts_after secret (outside platform) (outside p) given.tells (made.grows given.tells) texts premises.formed opened

  pub spared_new : (end : D) (why : NotOpened) → (why ≡ Unformatted → IsTrue (outside p).tells → (outside p).anchor.0 ≡ 0)
      → Calls outside crash_states secret p end
      → OverLogs (outside p) (outside end) secret (λ store history from. IsSpared outside crash_states secret p why)
      → OverLogs (outside platform) (outside end) secret
      (λ store history from. store.suite ≡ suite → IsSpared outside crash_states secret platform (after_format why))
  spared_new end why zero calls spared store history from given suite_is reliable opened =
      let new_one : Store = store_under secret suite in
      after_undamaged why (λ is. one_not_none (one given.tells) (zero is (sound end calls store history from given suite_is).tells))
      (spared new_one [] (formatted_state new_one segments) (premises end calls store history from given suite_is)
      (reliable_then end calls store history from given suite_is reliable) (opened_then end calls store history from given suite_is opened))
