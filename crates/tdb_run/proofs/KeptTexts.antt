-- What a run makes of the texts that were there, and of none that was begun.
use Rattle.std.proofs.Common.{◌≡◌, inl, inr, ⊎_elim, ℕ, ◌≤◌, List, [], ◌++◌, IsTrue, refl, sym, ◌∙◌, ap, subst, append_assoc, arith}
use Rattle.tdb_base.specs.Trace.{IsNumbered, WrittenPiece}
use Rattle.tdb_mark.specs.Unforged.{WasWritten}
use Rattle.tdb_model.specs.Apply.{History}
use Rattle.tdb_platform.specs.CrashStates.{CrashStates}
use Rattle.tdb_platform.specs.Outside.{Anchor, Outside, Rose}
use Rattle.tdb_serve.specs.Replies.{Conversation}
use Rattle.tdb_stream.specs.SourceContent.{SourceContent}
use Rattle.tdb_overlay.specs.Found.{Store, store_of_text}
use Rattle.tdb_overlay.specs.Log.{IsLog}
use Rattle.tdb_overlay.specs.Ran.{EachNewText, EndsBehind}
use Rattle.tdb_overlay.specs.Reading.{OnlyReads}
use Rattle.tdb_overlay.specs.Sound.{IsSound}
use Rattle.tdb_overlay.specs.StoreState.{StoreState, first_state}
use Rattle.tdb_overlay.specs.WellFormedLog.{NamesText, TextLog}
use Rattle.tdb_overlay.proofs.OneLog.{log_is_one, log_names}
use Rattle.tdb_overlay.proofs.PutLogs.{log_still}
use Rattle.tdb_recover.specs.Pending.{Takes}
use Rattle.tdb_recover.specs.Premises.{Premises}
use Rattle.tdb_recover.specs.Settled.{RanSettled}
use Rattle.tdb_run.specs.Opens.{HasUserPartitions, IsOpened}
use Rattle.tdb_run.specs.Ran.{Course, IsCaughtUp, IsTakenOf, RunRan, TakesNone}
use Rattle.tdb_run.specs.declared.status.Status.{Status}
use Rattle.tdb_run.proofs.Joining.{none_at_first}
use Rattle.tdb_run.proofs.Leaving.{caught_up_still, formed_still, grows_on, text_behind}
use Rattle.tdb_run.proofs.Partitions.{keeps_partitions, run_of_run}

-- an anchor that counts nothing has the log without a text
pub log_at_none : (written : List WrittenPiece) (store : Store) (anchor : Anchor) → anchor.0 ≡ 0 → IsLog written store anchor [] first_state
log_at_none written store anchor none =
    subst (λ (n : ℕ). IsLog written store (n, anchor.1) [] first_state) (sym none)
    (record { chain = []; ends = refl; tells = (refl, refl) })

-- Where each text's state has partitions 1 and 2 as a run makes them, so has that of an anchor's log.
pub opened_at : (written : List WrittenPiece) (store : Store) (anchor : Anchor) (history : History) (last : StoreState)
    → IsLog written store anchor history last → IsOpened store.secret written → HasUserPartitions last.chunks
opened_at written store anchor history last log opened = ⊎_elim at_none named (log_names written store anchor history last log)
  where
    at_none : anchor.0 ≡ 0 → HasUserPartitions last.chunks
    at_none none =
        let one = log_is_one written store store refl anchor [] history first_state last (log_at_none written store anchor none) log in
        subst (λ (s : StoreState). HasUserPartitions s.chunks) one.1 (inr none_at_first)

    named : NamesText written store.secret anchor → HasUserPartitions last.chunks
    named n =
        let t = opened n.text n.commit n.was_written n.accepted in
        let at : IsLog written (store_of_text store.secret n.commit) anchor t.history t.last =
        subst (λ (k : ℕ). IsLog written (store_of_text store.secret n.commit) (k, anchor.1) t.history t.last) (sym n.count)
        (subst (λ (m : List ℕ). IsLog written (store_of_text store.secret n.commit) (n.commit.count, m) t.history t.last) (sym n.mark)
        t.log) in
        let one = log_is_one written (store_of_text store.secret n.commit) store refl anchor t.history history t.last last at log in
        subst (λ (s : StoreState). HasUserPartitions s.chunks) one.1 t.holds

-- no commit is taken where no text counts more than the anchor
none_taken : (secret : List ℕ) (o : Outside) (store : Store) (history taken : History) (from mid : StoreState) → IsCaughtUp store.secret o
    → Takes o.trace.written store o.anchor history from taken mid → taken ≡ []
none_taken secret o store history taken from mid caught (inr none) = none.0
none_taken secret o store history taken from mid caught (inl is) =
    let le = caught is.text is.commit is.pending.was_written is.pending.accepted in
    let more = is.pending.count in
    absurd (omega (arith, le, more))

module _ {D : Type 0} (outside : D → Outside) (crash_states : D → CrashStates)
    (counts : (p : D) (t u : ℕ) (i : List ℕ) (a : Anchor) → t ≤ u → u ≤ (outside p).clock → crash_states p u i a → crash_states p t i a)
    (numbered : (p : D) → IsTrue (outside p).tells → IsNumbered (outside p).trace) (secret : List ℕ) (store : Store) (old new : D)
    (history : History) (from : StoreState) (given : Premises (outside old) (outside new) secret store history from)
    (sound : IsSound store.secret (outside new)) {came gone : SourceContent} (c : Conversation came gone) (status : Status)
    (r : RunRan outside crash_states store c old new history from status) where
  abbrev after : List WrittenPiece
  after = (outside new).trace.written

  -- No commit is taken where no text counts more than the anchor.
  pub takes_none : IsCaughtUp store.secret (outside old) → TakesNone r
  takes_none caught = by r.course
    where
      by : (course : Course outside crash_states store c old new history from status r.opening r.added r.own r.maybe)
          → IsTakenOf {from = from} course []
      by (inl opened) = none_taken secret (outside old) store history opened.1.taken from opened.1.mid caught opened.1.takes
      by (inr none) = none_taken secret (outside old) store history none.stops.taken from none.stops.mid caught none.stops.takes

  -- So it is again where no call failed.
  pub caught_up_again : IsCaughtUp store.secret (outside old) → (Rose (outside old).faults (outside new).faults → ⊥)
      → IsCaughtUp store.secret (outside new)
  caught_up_again caught none = ⊎_elim
      (λ ran. caught_up_still outside crash_states counts numbered secret store old new history (r.opening ++ (r.added ++ r.own)) r.maybe
      from sound given ran caught none)
      (λ read. by_reads read.0)
      r.ran
    where
      by_reads : OnlyReads outside crash_states old new → IsCaughtUp store.secret (outside new)
      by_reads reads text d was accepted =
          let le = caught text d (subst (λ (ws : List WrittenPiece). WasWritten ws text) (reads.written given.tells) was) accepted in
          let at = ap (λ (a : Anchor). a.0) (reads.anchor given.tells) in
          omega (arith, le, at)

  all_parts : (front rest : History) → front ++ rest ≡ (r.opening ++ (r.added ++ r.own)) ++ r.maybe
      → front ++ rest ≡ r.opening ++ ((r.added ++ r.own) ++ r.maybe)
  all_parts front rest is = is ∙ append_assoc r.opening (r.added ++ r.own) r.maybe

  -- Each text was there, or it ends a log behind the one at the start.
  pub texts_written : EachNewText store.secret (outside old).trace.written after
      (EndsBehind after store history (r.opening ++ ((r.added ++ r.own) ++ r.maybe)))
  texts_written text d was accepted = ⊎_elim
      (λ ran. ⊎_elim (λ past. inl past)
      (λ ends. inr (record {
        front = ends.front;
        last = ends.last;
        is_front = (ends.is_front.0, all_parts ends.front ends.is_front.0 ends.is_front.1);
        log = ends.log;
      }))
      (text_behind outside crash_states counts numbered secret store old new history (r.opening ++ (r.added ++ r.own)) r.maybe from sound
      given ran text d was accepted))
      (λ read. inl (subst (λ (ws : List WrittenPiece). WasWritten ws text) (read.0.written given.tells) was))
      r.ran

  -- Each text's state has partitions 1 and 2 as a run makes them.
  pub opened_again : IsOpened store.secret (outside old).trace.written → IsOpened store.secret after
  opened_again opened = ⊎_elim by_run
      (λ read. subst (λ (ws : List WrittenPiece). IsOpened store.secret ws) (sym (read.0.written given.tells)) opened) r.ran
    where
      by_run : RanSettled outside crash_states store old (r.opening ++ (r.added ++ r.own)) r.maybe new → IsOpened store.secret after
      by_run ran text d was accepted = ⊎_elim there behind
          (text_behind outside crash_states counts numbered secret store old new history (r.opening ++ (r.added ++ r.own)) r.maybe from sound
          given ran text d was accepted)
        where
          there : WasWritten (outside old).trace.written text
              → TextLog after store.secret text d (λ last. HasUserPartitions last.chunks)
          there past =
              let t = opened text d past accepted in
              record {
                history = t.history;
                last = t.last;
                log = log_still (outside old).trace (outside new).trace (store_of_text store.secret d) _ t.history
                    t.last (grows_on outside crash_states counts numbered secret store old new history (r.opening ++ (r.added ++ r.own))
                    r.maybe from sound given ran) t.log;
                holds = t.holds;
              }

          behind : EndsBehind after store history ((r.opening ++ (r.added ++ r.own)) ++ r.maybe) text d
              → TextLog after store.secret text d (λ last. HasUserPartitions last.chunks)
          behind ends =
              let t = (formed_still outside crash_states counts numbered secret store old new history (r.opening ++ (r.added ++ r.own))
              r.maybe from sound given ran).texts text d was accepted in
              let one = log_is_one after store (store_of_text store.secret d) refl _ (history ++ ends.front) t.history
              ends.last t.last ends.log t.log in
              record {
                history = t.history;
                last = t.last;
                log = t.log;
                holds = subst (λ (s : StoreState). HasUserPartitions s.chunks) one.1
                    (keeps_partitions (outside old).trace.written after store (outside old).anchor history
                    (r.opening ++ ((r.added ++ r.own) ++ r.maybe)) from given.log
                    (run_of_run outside crash_states store c old new history from status r)
                    (opened_at (outside old).trace.written store (outside old).anchor history from given.log opened) opened
                    _ ends.front ends.is_front.0 ends.last (all_parts ends.front ends.is_front.0 ends.is_front.1)
                    ends.log);
              }
