-- Commits, and the start of a log, are steps of a run.
use Rattle.std.proofs.Common.{◌≡◌, ◌≢◌, inr, ◌+◌, ◌<◌, ℕ, List, [], ◌∷◌, IsTrue, replicate, refl, sym, ◌∙◌}
use Rattle.std.proofs.Common.{ap, subst, arith}
use Rattle.std.specs.Prelude.{All}
use Rattle.std.specs.List.{AllByRecursion}
use Rattle.tdb_append.specs.Placed.{Placed}
use Rattle.tdb_append.specs.declared.head.Head.{Head}
use Rattle.tdb_list.specs.declared.entry.Entry.{Entry}
use Rattle.tdb_list.specs.ChangeList.{IsList}
use Rattle.tdb_list.specs.Entry.{IsEntryValue}
use Rattle.tdb_mark.specs.declared.commit.Commit.{Commit}
use Rattle.tdb_model.specs.declared.change.Change.{Change}
use Rattle.tdb_model.specs.Apply.{History}
use Rattle.tdb_platform.specs.Outside.{Anchor, Outside}
use Rattle.tdb_seg.specs.SegmentSpace.{SegmentSpace}
use Rattle.tdb_overlay.specs.Found.{Store}
use Rattle.tdb_overlay.specs.LaidPieces.{IsFreshIn, in_pieces}
use Rattle.tdb_overlay.specs.Log.{IsLog, IsStep}
use Rattle.tdb_overlay.specs.NextText.{GoesOnWith, NamesMark}
use Rattle.tdb_overlay.specs.StoreState.{StoreState, committed, first_state}
use Rattle.tdb_overlay.proofs.NextTexts.{next_by_pieces, start_goes_on}
use Rattle.tdb_overlay.proofs.OneLog.{log_is_one}
use Rattle.tdb_chunk.specs.Formatting.{IsStart}
use Rattle.tdb_chunk.specs.Known.{IsAtHead, Knows, store_of}
use Rattle.tdb_chunk.specs.Preparing.{IsNext, IsPrepared}
use Rattle.tdb_chunk.specs.Stepping.{HasKnownLog}
use Rattle.tdb_chunk.specs.declared.open_log.OpenLog.{OpenLog}
use Rattle.tdb_chunk.proofs.Committing.{next_step}
use Rattle.tdb_chunk.proofs.Starting.{first_steps}

-- The text of a commit that is laid comes next in the log that is known, and no other log has its anchor.
module _ (o : Outside) (was : OpenLog) (keep : ℕ) (entries : List Entry) (before : List Placed) (behind : SegmentSpace) (changes : List Change)
    (prepared : IsPrepared o was keep entries before behind changes) (list : IsList entries) (values : AllByRecursion IsEntryValue entries)
    (not_full : was.log.head.count ≢ was.log.head.base + 1000) (counts_on : was.log.head.count < 18446744073709551615) (c : Commit)
    (ps : List Placed) (space : SegmentSpace) (next : IsNext was keep entries before behind c ps space) (at_head : IsAtHead o was)
    (tells : IsTrue o.tells) where
  abbrev added : History
  added = (was.log.head.count + 1, changes) ∷ []

  abbrev head : Anchor
  head = (was.log.head.count, was.log.head.mark.0)

  counted : c.count ≡ o.anchor.0 + 1
  counted = ap (λ (k : Commit). k.count) next.commit ∙ ap (λ (a : Anchor). a.0 + 1) (sym (at_head tells))

  names : NamesMark o.anchor c
  names =
      let count : o.anchor.0 ≡ was.log.head.count = ap (λ (a : Anchor). a.0) (at_head tells) in
      inr (
        omega (arith, count, was.counts.some, was.counts.base),
        ap (λ (k : Commit). k.prev.0) next.commit ∙ ap (λ (a : Anchor). a.1) (sym (at_head tells)),
      )

  steps : (from : StoreState) → Knows o was from → IsStep (in_pieces ps) (store_of was) from c added (committed from changes space)
  steps from known = subst
      (λ (n : ℕ). IsStep (in_pieces ps) (store_of was) from c ((n + 1, changes) ∷ []) (committed from changes space)) (sym known.count)
      (next_step o was keep entries before behind changes prepared list not_full counts_on from known c ps space next values)

  pub commit_goes_on : HasKnownLog o was → GoesOnWith o.trace.written (store_of was) o.anchor c ps added
  commit_goes_on has other same history from log =
      let one = log_is_one o.trace.written (store_of was) other (sym same) o.anchor has.before history has.last from has.log log in
      let known : Knows o was from = subst (λ (s : StoreState). Knows o was s) one.1 has.known in (
        subst (λ (s : StoreState). IsLog o.trace.written (store_of was) o.anchor history s) one.1
            (subst (λ (h : History). IsLog o.trace.written (store_of was) o.anchor h has.last) one.0 has.log),
        (
          committed from changes space,
          next_by_pieces o.trace.written (store_of was) o.anchor from c ps added (committed from changes space) (steps from known)
              (ap (λ (k : Commit). k.root) next.commit) counted names
              (subst (λ (s : SegmentSpace). All (IsFreshIn s) ps) known.space next.laid.fresh),
        ),
      )

-- The start of a log comes next where the anchor counts nothing.
pub format_goes_on : (o : Outside) (store : Store) (head : Head) (segments : ℕ) (c : Commit) (ps : List Placed) (space : SegmentSpace)
    → IsStart store head segments c ps space → head.count ≡ 0 → head.mark.0 ≡ replicate 32 0 → o.anchor.0 ≡ 0
    → GoesOnWith o.trace.written store o.anchor c ps []
format_goes_on o store head segments c ps space s zero_count zeros start =
    let empty : IsLog o.trace.written store o.anchor [] first_state = subst
    (λ (n : ℕ). IsLog o.trace.written store (n, o.anchor.1) [] first_state) (sym start)
    (record { chain = []; ends = refl; tells = (refl, refl) }) in
    let steps = first_steps o store head segments c ps space s zero_count start [] first_state empty tt in
    start_goes_on o.trace.written store o.anchor c ps steps.1 start
    (omega (arith, ap (λ (k : Commit). k.count) s.commit, zero_count)) (ap (λ (k : Commit). k.prev.0) s.commit ∙ zeros)
    (ap (λ (k : Commit). k.root) s.commit)
    (subst (λ (h : History). IsStep (in_pieces ps) store first_state c h steps.1) steps.2.0 steps.3)
