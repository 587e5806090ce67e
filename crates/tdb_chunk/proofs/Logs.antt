-- A put of records and of the next text makes the log longer, or leaves it.
use Rattle.std.proofs.Common.{◌≡◌, ◌⊎◌, ◌+◌, ℕ, List, [], ◌∷◌, ◌++◌, Some, true, replicate, sym, ◌∙◌, ap, subst, append-nil}
use Rattle.sha2.specs.Sha256.{sha256}
use Rattle.tdb_base.specs.Trace.{Extends}
use Rattle.tdb_append.specs.Placed.{Placed, with_all_written}
use Rattle.tdb_mark.specs.declared.commit.Commit.{Commit}
use Rattle.tdb_mark.specs.CommitChain.{follows}
use Rattle.tdb_mark.specs.CommitText.{commit_key_of, commit_of}
use Rattle.tdb_mark.specs.Unforged.{IsUnforged}
use Rattle.tdb_model.specs.Apply.{History}
use Rattle.tdb_platform.specs.Outside.{Anchor, Outside}
use Rattle.tdb_overlay.specs.Found.{Store, in_trace}
use Rattle.tdb_overlay.specs.LaidPieces.{in_pieces}
use Rattle.tdb_overlay.specs.Log.{IsLog, IsStep}
use Rattle.tdb_overlay.specs.StoreState.{StoreState}
use Rattle.tdb_overlay.proofs.LogLaws.{step_stays, trace_finds_one}
use Rattle.tdb_overlay.proofs.PutLogs.{follows_is, found_in_put, grows_all, head_log, log_grown, log_still}

module _ (store : Store) (old new : Outside) (n : ℕ) (mark : List ℕ) (slot : Placed) (ps done rest : List Placed) (c : Commit) where
  -- The anchor went on to the text.
  pub put_adds : (before added : History) (from to : StoreState) (a : Anchor) → commit_of (commit_key_of store.secret) slot.bytes ≡ Some c → c.count ≡ n + 1 → c.prev.0 ≡ mark → (n ≡ 0 → mark ≡ replicate 32 0)
      → IsStep (in_pieces ps) store from c added to → ps ++ slot ∷ [] ≡ done ++ rest → new.trace ≡ with_all_written old.trace done
      → old.anchor.0 ≡ n → (old.anchor ≡ (n, mark)) ⊎ (n ≡ 0) → rest ≡ [] → a ≡ (n + 1, sha256 slot.bytes) → IsUnforged new.trace (commit_of (commit_key_of store.secret))
      → IsLog old.trace.written store old.anchor before from → IsLog new.trace.written store a (before ++ added) to
  put_adds before added from to a reads count prev start step in_order wrote at_count at complete advanced unforged is =
      let all : ps ++ slot ∷ [] ≡ done = in_order ∙ ap (λ (l : List Placed). done ++ l) complete ∙ append-nil done in
      let whole : new.trace ≡ with_all_written old.trace (ps ++ slot ∷ []) = wrote ∙ ap (with_all_written old.trace) (sym all) in
      let next : follows n c ≡ true = follows_is n c count (λ zero. prev ∙ start zero) in
      subst (λ (b : Anchor). IsLog new.trace.written store b (before ++ added) to) (sym advanced)
      (log_grown store old.trace new.trace n mark slot ps c before added from to reads prev next
      (step_stays (in_pieces ps) (in_trace new.trace.written) (found_in_put (commit_of (commit_key_of store.secret)) old.trace new.trace ps slot whole unforged) store (trace_finds_one new.trace.written) from c added to step) whole unforged
      (head_log old.trace.written store old.anchor n mark before from at_count at is))

  pub put_grows : new.trace ≡ with_all_written old.trace done → Extends old.trace new.trace
  put_grows wrote = subst (Extends old.trace) (sym wrote) (grows_all old.trace done)

  -- The anchor is the old one.
  pub put_stays : (before : History) (from : StoreState) (a : Anchor) → new.trace ≡ with_all_written old.trace done → a ≡ old.anchor
      → IsLog old.trace.written store old.anchor before from → IsLog new.trace.written store a (before ++ []) from
  put_stays before from a wrote same is =
      subst (λ (b : Anchor). IsLog new.trace.written store b (before ++ []) from) (sym same)
      (subst (λ (h : History). IsLog new.trace.written store old.anchor h from) (sym (append-nil before)) (log_still old.trace new.trace store old.anchor before from (put_grows wrote) is))
