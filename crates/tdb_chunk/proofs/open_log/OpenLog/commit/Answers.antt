use Rattle.std.proofs.Common.{◌≢◌, ◌+◌, ◌<◌, List, Err, length, refl, sym, ap, subst, arith}
use Rattle.std.proofs.lemmas.Result.{IfErr-weaker}
use Rattle.std.specs.List.{AllByRecursion}
use Rattle.tdb_append.specs.Placed.{placed}
use Rattle.tdb_list.specs.declared.entry.Entry.{Entry}
use Rattle.tdb_list.specs.ChangeList.{IsList}
use Rattle.tdb_list.specs.Entry.{IsEntryValue}
use Rattle.tdb_overlay.specs.StoreState.{kept_free}
use Rattle.tdb_parts.specs.BareState.{bare_state}
use Rattle.tdb_chunk.specs.Committing.{IsCommitCall}
use Rattle.tdb_chunk.specs.Known.{IsAtHead, store_of}
use Rattle.tdb_overlay.specs.LaidOut.{LaidOut}
use Rattle.tdb_chunk.specs.Preparing.{IsPrepared}
use Rattle.tdb_overlay.specs.declared.batch.LayError.{LayError}
use Rattle.tdb_chunk.specs.declared.open_log.OpenLog.{OpenLog}
use Rattle.tdb_chunk.proofs.Calling.{if_no_room, refusal_is_no_fault, refused_call, refused_is_no_fault}
use Rattle.tdb_chunk.proofs.Prepared.{all_list, all_prepared, record_refused}
use Rattle.tdb_chunk.proofs.Rightly.{late_right}
use Rattle.tdb_chunk.proofs.open_log.OpenLog.commit.Goals as goal

pub commit_entries-requires-clause-list : goal.commit_entries-requires-clause-list
commit_entries-requires-clause-list g c =
    let was = c.args.self.now in
    subst IsList (sym c.deref.ensures.value)
    (all_list was (was.log.head.count + 1) (bare_state was.log.overlay) (kept_free c.args.changes.now) was.log.segments c.args.changes.now _ _ _ c.in-Ok-lay_changes.ensures.laid c.requires.some c.in-Ok.ensures.ok.1)

pub commit_entries-requires-clause-values : goal.commit_entries-requires-clause-values
commit_entries-requires-clause-values g c = subst (AllByRecursion IsEntryValue) (sym c.deref.ensures.value) c.in-Ok-lay_changes.ensures.laid.values

pub commit_entries-requires-clause-at_head : goal.commit_entries-requires-clause-at_head
commit_entries-requires-clause-at_head g c = subst (λ (s : OpenLog). IsAtHead (g.P.Platform.outside c.args.platform.now) s) (sym c.lay_changes.ensures.same) c.requires.at_head

pub commit_entries-requires-clause-not_full : goal.commit_entries-requires-clause-not_full
commit_entries-requires-clause-not_full g c = subst (λ (s : OpenLog). s.log.head.count ≢ s.log.head.base + 1000) (sym c.lay_changes.ensures.same) c.in-Ok.ensures.ok.2

pub commit_entries-requires-clause-counts_on : goal.commit_entries-requires-clause-counts_on
commit_entries-requires-clause-counts_on g c = subst (λ (s : OpenLog). s.log.head.count < 18446744073709551615) (sym c.lay_changes.ensures.same) c.in-Ok.ensures.ok.3

pub commit_entries-requires-clause-laid_out : goal.commit_entries-requires-clause-laid_out
commit_entries-requires-clause-laid_out g c =
    let laid = c.in-Ok-lay_changes.field-0 in
    subst (λ (s : OpenLog). LaidOut s.keys s.log.segments laid.batch.segments (placed laid.batch.pieces.items)) (sym c.lay_changes.ensures.same) c.in-Ok-lay_changes.ensures.laid.laid

pub returns-in-Ok-lay_changes : goal.returns-in-Ok-lay_changes
returns-in-Ok-lay_changes g c =
    let was = c.args.self.now in
    let o = g.P.Platform.outside c.args.platform.now in
    let laid = c.in-Ok-lay_changes.field-0 in
    let changes = c.args.changes.now in
    let prepared = all_prepared o was changes laid.keep laid.entries.items (placed laid.batch.pieces.items) laid.batch.segments c.in-Ok-lay_changes.ensures.keep c.in-Ok.ensures.ok.0 c.in-Ok-lay_changes.ensures.laid in
    record {
      commit = subst (λ (s : OpenLog). IsCommitCall g.P.Platform.outside g.P.Platform.crash_states changes s c.commit_entries.new.self c.args.platform.now c.commit_entries.new.platform c.commit_entries.result)
          c.lay_changes.ensures.same
          (c.commit_entries.ensures.commit changes
          (subst (λ (s : OpenLog). IsPrepared o s laid.keep c.deref.result.now (placed laid.batch.pieces.items) laid.batch.segments changes) (sym c.lay_changes.ensures.same)
          (subst (λ (entries : List Entry). IsPrepared o was laid.keep entries (placed laid.batch.pieces.items) laid.batch.segments changes) (sym c.deref.ensures.value) prepared)));
      right = IfErr-weaker c.commit_entries.result _ _ (late_right (length changes) was.log.head.count) c.commit_entries.ensures.late;
      many = λ above. absurd (omega (arith, above, c.in-Ok.ensures.ok.1));
    }

pub returns-in-Err-lay_changes : goal.returns-in-Err-lay_changes
returns-in-Err-lay_changes g c =
    let was = c.args.self.now in
    let o = g.P.Platform.outside c.args.platform.now in
    let changes = c.args.changes.now in
    let ok = c.in-Ok.ensures.ok in
    record {
      commit = refused_call g.P.Platform.outside g.P.Platform.crash_states g.met.P.Platform.counts changes was c.lay_changes.new.self c.args.platform.now c.refused.result c.requires.settled
          (refused_is_no_fault c.in-Err-lay_changes.error c.refused.result c.refused.ensures.answer) c.lay_changes.ensures.same
          (λ last known refusal.
          if_no_room (store_of was) last changes c.in-Err-lay_changes.error c.refused.result c.refused.ensures.answer refusal
          (λ r is. record_refused o was changes last known ok.2 ok.3 ok.1 ok.0 r (c.in-Err-lay_changes.ensures.refused r (ap (λ (e : LayError). Err e) is))));
      right = late_right (length changes) was.log.head.count c.refused.result c.refused.ensures.late;
      many = λ above. absurd (omega (arith, above, ok.1));
    }

pub returns-in-Err : goal.returns-in-Err
returns-in-Err g c =
    let was = c.args.self.now in
    let o = g.P.Platform.outside c.args.platform.now in
    let changes = c.args.changes.now in
    record {
      commit = refused_call g.P.Platform.outside g.P.Platform.crash_states g.met.P.Platform.counts changes was was c.args.platform.now c.in-Err.refusal c.requires.settled (refusal_is_no_fault c.in-Err.refusal c.in-Err.ensures.refusal) refl
          (λ last known refusal. c.in-Err.ensures.refused o last known);
      right = c.in-Err.ensures.right;
      many = c.in-Err.ensures.many;
    }
