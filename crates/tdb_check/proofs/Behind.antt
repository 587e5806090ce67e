-- Behind the put of a checkpoint the open log stands for the state that it tells.
use Rattle.std.proofs.Common.{◌≡◌, inl, ℕ, ◌+◌, ◌≤◌, List, [], ◌∷◌, ◌++◌, append-nil, sym, ◌∙◌, ap, subst, arith}
use Rattle.sha2.specs.Sha256.{sha256}
use Rattle.tdb_append.specs.Placed.{Placed}
use Rattle.tdb_base.specs.declared.piece.Piece.{Piece}
use Rattle.tdb_base.specs.declared.suite.Suite.{Suite}
use Rattle.tdb_base.specs.Trace.{Extends}
use Rattle.tdb_mark.specs.declared.commit.Commit.{Commit}
use Rattle.tdb_model.specs.Apply.{History}
use Rattle.tdb_platform.specs.Outside.{Anchor, Outside}
use Rattle.tdb_seg.specs.SegmentSpace.{SegmentSpace}
use Rattle.tdb_overlay.specs.BaseTree.{HasToldRoots, TellsRoster}
use Rattle.tdb_overlay.specs.CheckpointState.{IsReached, IsTreeState}
use Rattle.tdb_overlay.specs.Covering.{Covers, IsCovering}
use Rattle.tdb_overlay.specs.Found.{Finds, Store, in_trace}
use Rattle.tdb_overlay.specs.Log.{IsLog}
use Rattle.tdb_overlay.specs.Needed.{needed}
use Rattle.tdb_overlay.specs.NextText.{FindsAll}
use Rattle.tdb_overlay.specs.Recovered.{IsRecovered}
use Rattle.tdb_overlay.specs.Required.{IsRequired}
use Rattle.tdb_overlay.specs.Sound.{IsSound}
use Rattle.tdb_overlay.specs.StoreState.{StoreState}
use Rattle.tdb_overlay.specs.Text.{text_in_slot}
use Rattle.tdb_overlay.specs.declared.recovered.BaseTree.{BaseTree}
use Rattle.tdb_overlay.specs.declared.recovered.Recovered.{Recovered}
use Rattle.tdb_overlay.proofs.BaseTrees.{roster_told_roots, roster_told_those}
use Rattle.tdb_overlay.proofs.LogLaws.{trace_finds_one}
use Rattle.tdb_overlay.proofs.PutLogs.{follows_is, found_in_put, grows_all, in_later_trace, log_grown}
use Rattle.tdb_overlay.proofs.RosterCovers.{roster_covers}
use Rattle.tdb_check.specs.Behind.{IsKeptBehind, IsPut}
use Rattle.tdb_check.specs.NewCheckpoint.{IsCheckpointed, KnowsLog, NamesHead, checkpointed, store_of_log}
use Rattle.tdb_check.specs.NextCheckpoint.{IsNextCheckpoint}
use Rattle.tdb_check.proofs.BaseLogs.{base_required}
use Rattle.tdb_check.proofs.BaseRosters.{tree_of_those}
use Rattle.tdb_check.proofs.NextStep.{checkpoint_steps, some_text, tells_later, tree_later}

module _ (o u : Outside) (secret : List ℕ) (was now_is : Recovered) (c : Commit) (ps : List Placed) (space : SegmentSpace) (told : Covers)
    (next : IsNextCheckpoint o secret was c ps space told) (sound : IsSound secret o)
    (at_head : NamesHead o was) (put : IsPut o u secret c ps) (kept : IsKeptBehind was now_is c space told)
    (history : History) (from : StoreState) (is : IsLog o.trace.written (store_of_log secret was) o.anchor history from)
    (known : KnowsLog o secret was from) where
  abbrev store : Store
  store = store_of_log secret was

  abbrev to : StoreState
  to = checkpointed from next.root space

  grows : Extends o.trace u.trace
  grows = subst (Extends o.trace) (sym put.wrote) (grows_all o.trace (ps ++ text_in_slot secret c ∷ []))

  finds : FindsAll o.trace.written ps u.trace.written
  finds = (in_later_trace o.trace u.trace grows, found_in_put _ o.trace u.trace ps (text_in_slot secret c) put.wrote put.sound.unforged)

  some : 1 ≤ was.head.count
  some = some_text o secret was c ps space told next sound history from is known

  counted : c.count ≡ was.head.count + 1
  counted = ap (λ (k : Commit). k.count) next.commit

  prev : c.prev.0 ≡ was.head.mark.0
  prev = ap (λ (k : Commit). k.prev.0) next.commit

  root_is : c.root ≡ next.root
  root_is = ap (λ (k : Commit). k.root) next.commit

  -- the log has the text, and no commit more
  log : IsLog u.trace.written store u.anchor history to
  log =
      let old : IsLog o.trace.written store (was.head.count, was.head.mark.0) history from =
      subst (λ (a : Anchor). IsLog o.trace.written store a history from) (at_head sound.tells) is in
      let step = checkpoint_steps o secret was c ps space told next sound history from is known u.trace.written finds in
      let grown = log_grown store o.trace u.trace was.head.count was.head.mark.0 (text_in_slot secret c) ps c history [] from to
      put.reads prev
      (follows_is was.head.count c counted (λ zero. absurd (omega (arith, zero, some)))) step put.wrote put.sound.unforged old in
      let mark : List ℕ = sha256 (text_in_slot secret c).bytes in
      let at : u.anchor ≡ (was.head.count + 1, mark) = put.anchor ∙ ap (λ (n : ℕ). (n, mark)) counted in
      subst (λ (a : Anchor). IsLog u.trace.written store a history to) (sym at)
      (subst (λ (h : History). IsLog u.trace.written store (was.head.count + 1, mark) h to) (append-nil history) grown)

  abbrev R : Piece → Type 0
  R = IsRequired u.trace.written store u.anchor

  abbrev g : Finds
  g = in_trace u.trace.written

  -- it needs what the root reaches
  all : (piece : Piece) → IsReached g store next.root piece → R piece
  all = base_required u.trace.written store u.anchor history to log (omega arith)

  its_tree : IsTreeState g store next.root from.chunks
  its_tree = tree_later o secret was c ps space told next sound history from is known u.trace.written finds

  its_tells : TellsRoster g store next.root told
  its_tells = tells_later o secret was c ps space told next sound history from is known u.trace.written finds

  needed_tells : TellsRoster (needed u.trace.written store u.anchor) store next.root told
  needed_tells = roster_told_those g R store next.root (λ piece reached. all piece (inl reached)) told its_tells

  recovered : IsRecovered (needed u.trace.written store u.anchor) store now_is to
  recovered =
      let f : Finds = needed u.trace.written store u.anchor in
      let covering = roster_covers g (trace_finds_one u.trace.written) store next.root from.chunks its_tree R all told its_tells in
      let counts : c.count ≡ from.count + 1 = counted ∙ ap (λ (n : ℕ). n + 1) known.count in
      record {
        suite = kept.suite;
        count = kept.count ∙ counts;
        base = kept.base ∙ counts;
        space = kept.segments;
        chunks = subst (λ (covers : Covers). IsCovering f secret covers from.chunks) (sym kept.overlay) covering;
        root = ap (λ (t : BaseTree). t.root) kept.tree ∙ root_is;
        leaders = subst (λ (t : BaseTree). TellsRoster f store next.root t.leaders) (sym kept.tree) needed_tells;
        roots = subst (λ (covers : Covers). HasToldRoots f store next.root covers) (sym kept.overlay)
            (roster_told_roots f store next.root told needed_tells);
      }

  -- The open log stands for the state of the checkpoint, whose tree the log needs.
  pub checkpoint_known : (first : Outside) → IsCheckpointed first u secret was now_is history from
  checkpoint_known first = record {
    root = next.root;
    space = space;
    log = log;
    knows = subst (λ (s : Suite). IsRecovered (needed u.trace.written (record { secret = secret; suite = s }) u.anchor)
        (record { secret = secret; suite = s }) now_is to) (sym kept.suite) recovered;
    tree = tree_of_those g store next.root R all from.chunks its_tree;
  }
