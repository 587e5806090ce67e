-- A checkpoint that is laid is a step of the log that is known.
use Rattle.std.proofs.Common.{◌≡◌, ◌⊎◌, inl, inr, ℕ, ◌+◌, ◌≤◌, List, [], Option, refl, sym, ◌∙◌, ap, subst, arith}
use Rattle.std.specs.Prelude.{All}
use Rattle.std.proofs.lemmas.Bool.{cases_lt}
use Rattle.tdb_append.specs.Placed.{Placed}
use Rattle.tdb_base.specs.declared.piece.Piece.{Piece}
use Rattle.tdb_base.specs.declared.suite.Suite.{Suite}
use Rattle.tdb_base.specs.Trace.{WrittenPiece}
use Rattle.tdb_mark.specs.declared.commit.Commit.{Commit}
use Rattle.tdb_mark.proofs.DigestLemmas.{text_of_digest_is}
use Rattle.tdb_model.specs.Apply.{History}
use Rattle.tdb_model.specs.State.{State}
use Rattle.tdb_platform.specs.Outside.{Anchor, Outside}
use Rattle.tdb_seg.specs.SegmentSpace.{SegmentSpace}
use Rattle.tdb_overlay.specs.BaseTree.{HasToldRoots, TellsRoster}
use Rattle.tdb_overlay.specs.Changes.{HasTable}
use Rattle.tdb_overlay.specs.CheckpointState.{IsNarrow, IsReached, IsTreeState}
use Rattle.tdb_overlay.specs.Covering.{Covers}
use Rattle.tdb_overlay.specs.Found.{Finds, FindsOne, Finer, Store, in_trace}
use Rattle.tdb_overlay.specs.LaidPieces.{IsFreshIn, IsLaidPiece}
use Rattle.tdb_overlay.specs.Log.{IsCheckpointOn, IsLog, IsStep}
use Rattle.tdb_overlay.specs.Needed.{needed}
use Rattle.tdb_overlay.specs.NextText.{FindsAll, GoesOnWith, IsNextText}
use Rattle.tdb_overlay.specs.Required.{IsRequired, RestsOn, text_piece}
use Rattle.tdb_overlay.specs.Sound.{IsSound}
use Rattle.tdb_overlay.specs.StoreState.{StoreState, first_state}
use Rattle.tdb_overlay.specs.declared.recovered.Recovered.{Recovered}
use Rattle.tdb_overlay.proofs.BaseTrees.{roster_told_finer}
use Rattle.tdb_overlay.proofs.CheckpointLaws.{narrow_stays, reached_before, tree_stays}
use Rattle.tdb_overlay.proofs.LogLaws.{trace_finds_one}
use Rattle.tdb_overlay.proofs.NextTexts.{empty_log}
use Rattle.tdb_overlay.proofs.OneLog.{log_at, log_is_one}
use Rattle.tdb_overlay.proofs.PlacedLogs.{IsIn}
use Rattle.tdb_overlay.proofs.Apart.{required_apart}
use Rattle.tdb_overlay.proofs.RequiredLaws.{record_is_placed}
use Rattle.tdb_check.specs.NewCheckpoint.{HasKnownLog, KnowsLog, NamesHead, checkpointed, store_of_log}
use Rattle.tdb_check.specs.NextCheckpoint.{IsNextCheckpoint}
use Rattle.tdb_check.proofs.BaseLogs.{base_told, needed_one}
use Rattle.tdb_check.proofs.LaidPieces.{laid_apart, laid_elsewhere, laid_placed}
use Rattle.tdb_check.proofs.NarrowRoster.{new_narrow}
use Rattle.tdb_check.proofs.NewState.{new_state, new_tells}
use Rattle.tdb_check.proofs.NewTrees.{Agrees, with_pieces}
use Rattle.tdb_check.proofs.Reached.{IsFound, reached_is_found}

module _ (o : Outside) (secret : List ℕ) (log : Recovered) (c : Commit) (ps : List Placed) (space : SegmentSpace) (told : Covers)
    (next : IsNextCheckpoint o secret log c ps space told) (sound : IsSound secret o)
    (history : History) (from : StoreState) (is : IsLog o.trace.written (store_of_log secret log) o.anchor history from)
    (known : KnowsLog o secret log from) where
  abbrev store : Store
  store = store_of_log secret log

  -- The log has a text, since one without has no segments.
  pub some_text : 1 ≤ log.head.count
  some_text = elim (cases_lt 0 log.head.count) [
    | inl some ↦ some
    | inr none ↦
        let at = log_at o.trace.written store o.anchor history from is in
        let zero : o.anchor.0 ≡ 0 = omega (arith, at, known.count, none) in
        let first : from ≡ first_state = (empty_log o.trace.written store store o.anchor.0 o.anchor.1 history from zero is).1 in
        let segments = ap (λ (s : StoreState). s.space.segments) first in
        let start = ap (λ (s : SegmentSpace). s.segments) known.space in
        absurd (omega (arith, next.laid.valid.least, next.laid.segments, start, segments))
  ]

  abbrev f : Finds
  f = needed o.trace.written store o.anchor

  abbrev found : Finds
  found = with_pieces f ps

  one : FindsOne f
  one = needed_one o.trace.written store o.anchor

  agrees : Agrees f o
  agrees piece bytes other finds shown =
      let was = text_of_digest_is o.trace.written piece.digest.0 bytes finds.0.0 in
      sound.unforged.no_collision other bytes (inr (shown.1 sound.tells)) (inl was.0) (shown.0 ∙ sym was.1)

  based : (s : State) × IsTreeState f store log.tree.root s × IsNarrow f store log.tree.root
  based = subst (λ (r : Option Piece). (s : State) × IsTreeState f store r s × IsNarrow f store r) (sym known.root)
      (base_told o.trace.written store o.anchor history from is (omega (arith, known.count, some_text)))

  leaders : TellsRoster f store log.tree.root log.tree.leaders
  leaders = subst (λ (r : Option Piece). TellsRoster f store r log.tree.leaders) (sym known.root) known.leaders

  roots : HasToldRoots f store log.tree.root log.overlay
  roots = subst (λ (r : Option Piece). HasToldRoots f store r log.overlay) (sym known.root) known.roots

  -- By what is needed and what is laid, the new root tells the state, and what is told are its leaders.
  tree : IsTreeState found store next.root from.chunks
  tree =
      new_state f one o ps agrees store log.overlay log.tree.leaders told log.tree.root next.root from.chunks based.0 next.map known.chunks
      leaders roots based.1

  tells : TellsRoster found store next.root told
  tells =
      new_tells f one o ps agrees store log.overlay log.tree.leaders told log.tree.root next.root from.chunks based.0 next.map known.chunks
      leaders roots based.1

  narrow : IsNarrow found store next.root
  narrow = new_narrow f o ps agrees store log.overlay log.tree.leaders told log.tree.root next.root next.map based.2

  first_laid : IsLaidPiece ps c.first
  first_laid = (next.table.sealed, next.table.found)

  root_is : c.root ≡ next.root
  root_is = ap (λ (k : Commit). k.root) next.commit

  counted : c.count ≡ from.count + 1
  counted = ap (λ (k : Commit). k.count) next.commit ∙ ap (λ (n : ℕ). n + 1) known.count

  suite_is : c.suite ≡ store.suite
  suite_is = ap (λ (k : Commit). k.suite) next.commit

  -- a piece that is laid, or that the log needs and that was placed
  abbrev IsHeld : Piece → Type 0
  IsHeld piece = IsLaidPiece ps piece ⊎ (IsRequired o.trace.written store o.anchor piece × IsIn from.space piece)

  -- what is found is held
  is_held : (piece : Piece) → IsFound found piece → IsHeld piece
  is_held piece at = by at.found
    where
      by : found piece at.bytes → IsHeld piece
      by (inl old) =
          let placed = record_is_placed o.trace.written store o.anchor history from is piece at.bytes at.key at.plain at.name old.1 old.0
          at.sealed in
          inr (old.1, placed)
      by (inr new) = inl (at.bytes, new)

  held_placed : (piece : Piece) → IsHeld piece → IsIn space piece
  held_placed piece (inl laid) = laid_placed secret log.segments space ps next.laid piece laid
  held_placed piece (inr old) =
      next.laid.stays piece.place.0 piece.length (subst (λ (s : SegmentSpace). IsIn s piece) (sym known.space) old.1)

  in_start : (piece : Piece) → IsIn from.space piece → IsIn log.segments piece
  in_start piece at = subst (λ (s : SegmentSpace). IsIn s piece) (sym known.space) at

  held_apart : (p q : Piece) → IsHeld p → IsHeld q → p.place ≡ q.place → p ≡ q
  held_apart p q (inl a) (inl b) same = laid_apart secret log.segments space ps next.laid p q a b same
  held_apart p q (inl a) (inr b) same = absurd (laid_elsewhere secret log.segments space ps next.laid p q a (in_start q b.1) same)
  held_apart p q (inr a) (inl b) same = absurd (laid_elsewhere secret log.segments space ps next.laid q p b (in_start p a.1) (sym same))
  held_apart p q (inr a) (inr b) same = required_apart o.trace.written store o.anchor history from is p q a.0 b.0 same

  -- As soon as the pieces are written.
  module _ (later : List WrittenPiece) (finds : FindsAll o.trace.written ps later) where
    finer : Finer found (in_trace later)
    finer piece bytes (inl old) = finds.0 piece bytes old.0
    finer piece bytes (inr new) = finds.1 piece bytes new

    found_one : FindsOne found
    found_one piece x y a b = trace_finds_one later piece x y (finer piece x a) (finer piece y b)

    reached_held : (piece : Piece) → IsReached (in_trace later) store c.root piece → IsHeld piece
    reached_held piece reached =
        let at = subst (λ (r : Option Piece). IsReached (in_trace later) store r piece) root_is reached in
        is_held piece (reached_is_found found found_one store next.root from.chunks tree piece
        (reached_before found (in_trace later) finer (trace_finds_one later) store next.root from.chunks piece tree at))

    first_or_reached : (piece : Piece) → (piece ≡ c.first) ⊎ IsReached (in_trace later) store c.root piece → IsHeld piece
    first_or_reached piece (inl same) = inl (subst (IsLaidPiece ps) (sym same) first_laid)
    first_or_reached piece (inr reached) = reached_held piece reached

    abbrev its_table : HasTable (in_trace later) secret c
    its_table = record {
      sealed = next.table.sealed;
      table = next.table.table;
      found = finds.1 c.first next.table.sealed next.table.found;
      opened = next.table.opened;
      is_table = next.table.is_table;
      value = next.table.value;
      segments = next.table.segments;
      used = next.table.used;
    }

    pub tree_later : IsTreeState (in_trace later) store next.root from.chunks
    tree_later = tree_stays found (in_trace later) finer store next.root from.chunks tree

    pub tells_later : TellsRoster (in_trace later) store next.root told
    tells_later = roster_told_finer found (in_trace later) finer store next.root told tells

    on_log : IsCheckpointOn (in_trace later) store from c (checkpointed from next.root space)
    on_log = record {
      kind = ap (λ (k : Commit). k.kind) next.commit;
      next = counted;
      segments = inr (ap (λ (k : Commit). k.segments) next.commit ∙ ap (λ (s : SegmentSpace). s.segments) known.space);
      table = its_table;
      tree = subst (λ (r : Option Piece). IsTreeState (in_trace later) store r from.chunks) (sym root_is) tree_later;
      narrow = subst (λ (r : Option Piece). IsNarrow (in_trace later) store r) (sym root_is)
          (narrow_stays found (in_trace later) finer store next.root narrow);
      after_is = λ i. record {
        count = sym counted i;
        base = sym counted i;
        root = sym root_is i;
        space = sym next.after i;
        chunks = from.chunks;
      };
      placed = λ piece at. held_placed piece (first_or_reached piece at);
      apart = λ p q a b same. held_apart p q (first_or_reached p a) (first_or_reached q b) same;
    }

    -- The text is a step.
    pub checkpoint_steps : IsStep (in_trace later) store from c [] (checkpointed from next.root space)
    checkpoint_steps = record { suite = suite_is; adds = inl (on_log, refl) }

    rests : (piece : Piece) → RestsOn (in_trace later) store.secret c piece
        → (piece ≡ text_piece store.secret c) ⊎ IsLaidPiece ps piece ⊎ IsRequired o.trace.written store o.anchor piece
    rests piece (inl text) = inl text
    rests piece (inr (inl same)) = inr (inl (subst (IsLaidPiece ps) (sym same) first_laid))
    rests piece (inr (inr (inl named))) =
        let kind : c.kind ≡ 2 = ap (λ (k : Commit). k.kind) next.commit in
        absurd (omega (arith, named.kind, kind))
    rests piece (inr (inr (inr reached))) =
        by (reached_held piece
        (subst (λ (s : Suite). IsReached (in_trace later) (record { secret = secret; suite = s }) c.root piece) suite_is reached))
      where
        by : IsHeld piece → (piece ≡ text_piece store.secret c) ⊎ IsLaidPiece ps piece ⊎ IsRequired o.trace.written store o.anchor piece
        by (inl laid) = inr (inl laid)
        by (inr old) = inr (inr old.0)

  -- So it comes next.
  pub checkpoint_next : NamesHead o log → IsNextText o.trace.written store o.anchor from c ps [] (checkpointed from next.root space)
  checkpoint_next at_head =
      let at = at_head sound.tells in
      let anchored : o.anchor.0 ≡ log.head.count = ap (λ (a : Anchor). a.0) at in
      record {
        count = ap (λ (k : Commit). k.count) next.commit ∙ ap (λ (a : Anchor). a.0 + 1) (sym at);
        mark = inr (
          omega (arith, some_text, anchored),
          ap (λ (k : Commit). k.prev.0) next.commit ∙ ap (λ (a : Anchor). a.1) (sym at),
        );
        fresh = subst (λ (s : SegmentSpace). All (IsFreshIn s) ps) known.space next.laid.fresh;
        step = checkpoint_steps;
        only = rests;
      }

-- A checkpoint that is laid goes on with the log that is known, and no other log has its anchor.
pub checkpoint_goes_on : (o : Outside) (secret : List ℕ) (log : Recovered) (c : Commit) (ps : List Placed) (space : SegmentSpace)
    (told : Covers) → IsNextCheckpoint o secret log c ps space told → IsSound secret o → NamesHead o log
    → HasKnownLog o secret log → GoesOnWith o.trace.written (store_of_log secret log) o.anchor c ps []
checkpoint_goes_on o secret log c ps space told next sound at_head has other same history from is =
    let written = o.trace.written in
    let store : Store = store_of_log secret log in
    let one = log_is_one written store other (sym same) o.anchor has.before history has.last from has.is_log is in
    let known : KnowsLog o secret log from = subst (λ (s : StoreState). KnowsLog o secret log s) one.1 has.known in
    let own : IsLog written store o.anchor history from = subst (λ (s : StoreState). IsLog written store o.anchor history s) one.1
    (subst (λ (h : History). IsLog written store o.anchor h has.last) one.0 has.is_log) in (
      own,
      (checkpointed from next.root space, checkpoint_next o secret log c ps space told next sound history from own known at_head),
    )
