use Rattle.std.proofs.Common.{◌≡◌, ◌+◌, ◌<◌, ℕ, List, [], ◌∷◌, ◌++◌, Err, Result, take, drop, refl, sym, ◌∙◌, ap, subst, add-one, suc}
use Rattle.std.proofs.lemmas.List.{take_more, take-append-drop}
use Rattle.std.proofs.Math.Seq.{drop-cons}
use Rattle.tdb_append.specs.Placed.{Placed, placed}
use Rattle.tdb_list.specs.declared.entry.Entry.{Entry}
use Rattle.tdb_model.specs.declared.change.Change.{Change}
use Rattle.tdb_model.specs.State.{State}
use Rattle.tdb_parts.specs.BareState.{bare_state}
use Rattle.tdb_seg.specs.SegmentSpace.{SegmentSpace, fits}
use Rattle.tdb_overlay.specs.StoreState.{record_of_change, records_of}
use Rattle.tdb_chunk.specs.Known.{store_of}
use Rattle.tdb_overlay.specs.LaidOut.{LaidOut}
use Rattle.tdb_chunk.specs.Laying.{AreAllLaid, IsLaid, PassesBehind, told_behind}
use Rattle.tdb_overlay.specs.declared.batch.LayError.{LayError}
use Rattle.tdb_chunk.specs.declared.open_log.OpenLog.{OpenLog}
use Rattle.tdb_overlay.specs.declared.batch.LayError.TheVariants.{NoRoom}
use Rattle.tdb_chunk.proofs.Entries.{all_laid_more, all_refused, none_laid}
use Rattle.tdb_chunk.proofs.Owners.{passes_before, passes_behind}
use Rattle.tdb_overlay.proofs.LaidOutLaws.{laid_out_none}
use Rattle.tdb_chunk.proofs.open_log.OpenLog.lay_changes.Goals as goal

the_error : {T : Type 0} (a b : LayError) → ◌≡◌ {A = Result T LayError} (Err a) (Err b) → a ≡ b
the_error a b is = cc

pub loop-index-init : goal.loop-index-init
loop-index-init c =
    let was = c.args.self.now in
    let n : ℕ = was.log.head.count + 1 in
    let keep : ℕ = c.kept_free-keep.result in
    let state : State = bare_state was.log.overlay in
    let start : SegmentSpace = was.log.segments in
    let none : placed c.new-batch.result.pieces.items ≡ [] = ap placed c.new-batch.ensures.pieces in
    record {
      same = refl;
      laid = subst (λ (entries : List Entry). AreAllLaid was.keys n state keep start [] entries (placed c.new-batch.result.pieces.items) c.new-batch.result.segments) (sym c.in_ok-entries.ensures.items)
          (subst (λ (ps : List Placed). AreAllLaid was.keys n state keep start [] [] ps c.new-batch.result.segments) (sym none)
          (subst (λ (s : SegmentSpace). AreAllLaid was.keys n state keep start [] [] [] s) (sym c.new-batch.ensures.segments)
          (none_laid was.keys n state keep start (laid_out_none was.keys start c.known.ensures))));
    }

pub lay_change-requires-clause-counts_on : goal.lay_change-requires-clause-counts_on
lay_change-requires-clause-counts_on c = subst (λ (s : OpenLog). s.log.head.count < 18446744073709551615) (sym c.loop-index.invariant.same) c.requires.counts_on

pub lay_change-requires-clause-laid_out : goal.lay_change-requires-clause-laid_out
lay_change-requires-clause-laid_out c =
    subst (λ (s : OpenLog). LaidOut s.keys s.log.segments c.loop-index.batch.segments (placed c.loop-index.batch.pieces.items)) (sym c.loop-index.invariant.same)
    c.loop-index.invariant.laid.laid

pub lay_change-requires-clause-passes : goal.lay_change-requires-clause-passes
lay_change-requires-clause-passes c =
    let was = c.args.self.now in
    let changes : List Change = c.args.changes.now in
    let state : State = bare_state was.log.overlay in
    let behind : PassesBehind (was.log.head.count + 1) was.log.overlay (take c.loop-index.index changes) c.index-changes-index.result = record {
      earlier_pass = passes_before state changes c.loop-index.index c.requires.passes;
      passes = passes_behind (was.log.head.count + 1) state changes c.loop-index.index c.index-changes-index.result c.requires.passes c.loop-index-test.true c.index-changes-index.is;
    } in
    subst (λ (s : OpenLog). PassesBehind (s.log.head.count + 1) s.log.overlay (take c.loop-index.index changes) c.index-changes-index.result) (sym c.loop-index.invariant.same) behind

pub returns-in-Err-clause-refused : goal.returns-in-Err-clause-refused
returns-in-Err-clause-refused c refusal is =
    let error : c.in-Err.error ≡ NoRoom refusal = the_error c.in-Err.error (NoRoom refusal) is in
    let was = c.args.self.now in
    let n : ℕ = was.log.head.count + 1 in
    let state : State = bare_state was.log.overlay in
    let changes : List Change = c.args.changes.now in
    let i : ℕ = c.loop-index.index in
    let change : Change = c.index-changes-index.result in
    let all : changes ≡ take i changes ++ change ∷ drop (i + 1) changes =
    sym (take-append-drop i changes)
    ∙ ap (λ (l : List Change). take i changes ++ l)
    (drop-cons changes i change c.loop-index-test.true ∙ ap (λ (x : Change). x ∷ drop (suc i) changes) (sym c.index-changes-index.is) ∙ ap (λ (k : ℕ). change ∷ drop k changes) (sym (add-one i))) in
    subst (λ (k : ℕ). fits was.log.segments (records_of (store_of was) n state changes) k ≡ Err refusal) c.kept_free-keep.ensures
    (all_refused (store_of was) was.keys n state c.kept_free-keep.result was.log.segments c.loop-index.batch.segments (take i changes) change (drop (i + 1) changes) changes c.loop-index.entries.items (placed c.loop-index.batch.pieces.items) refusal
    c.loop-index.invariant.laid
    (subst (λ (s : OpenLog). fits c.loop-index.batch.segments (record_of_change (store_of s) (told_behind (s.log.head.count + 1) s.log.overlay (take i changes)) change) c.kept_free-keep.result ≡ Err refusal)
    c.loop-index.invariant.same (c.in-Err.ensures.refused refusal (ap (λ (e : LayError). Err e) error))) all)

pub loop-index-preserved : goal.loop-index-preserved
loop-index-preserved c =
    let was = c.args.self.now in
    let n : ℕ = was.log.head.count + 1 in
    let keep : ℕ = c.kept_free-keep.result in
    let state : State = bare_state was.log.overlay in
    let start : SegmentSpace = was.log.segments in
    let changes : List Change = c.args.changes.now in
    let i : ℕ = c.loop-index.index in
    let change : Change = c.index-changes-index.result in
    let old = c.loop-index.batch in
    let new = c.lay_change.new.batch in
    let more : take (i + 1) changes ≡ take i changes ++ change ∷ [] = take_more changes i change c.loop-index-test.true ∙ ap (λ (x : Change). take i changes ++ x ∷ []) (sym c.index-changes-index.is) in
    let laid = subst (λ (s : OpenLog). IsLaid s.keys (told_behind (s.log.head.count + 1) s.log.overlay (take i changes)) keep s.log.segments change (placed old.pieces.items) old.segments c.in-Ok.entry (placed new.pieces.items) new.segments)
    c.loop-index.invariant.same c.in-Ok.ensures.laid in
    record {
      same = c.lay_change.ensures.same ∙ c.loop-index.invariant.same;
      laid = subst (λ (done : List Change). AreAllLaid was.keys n state keep start done c.push.new.self.items (placed new.pieces.items) new.segments) (sym more)
          (subst (λ (entries : List Entry). AreAllLaid was.keys n state keep start (take i changes ++ change ∷ []) entries (placed new.pieces.items) new.segments) (sym c.in_ok-push.ensures.items)
          (all_laid_more was.keys n state keep start old.segments new.segments (take i changes) change c.loop-index.entries.items c.in-Ok.entry (placed old.pieces.items) (placed new.pieces.items) c.loop-index.invariant.laid laid));
    }
