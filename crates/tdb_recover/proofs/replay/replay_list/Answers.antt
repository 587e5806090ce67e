use Rattle.std.proofs.Common.{◌≡◌, ◌∙◌, ◌<◌, ap, refl, sym, subst, List, ℕ}
use Rattle.std.specs.List.{AllByRecursion}
use Rattle.tdb_list.specs.declared.entry.Entry.{Entry}
use Rattle.tdb_seg.specs.SegmentSpace.{SegmentSpace, note_in}
use Rattle.tdb_overlay.specs.Changes.{named_records}
use Rattle.tdb_overlay.specs.Covering.{noted_all}
use Rattle.tdb_overlay.specs.Placement.{LiesBelow, note_all}
use Rattle.tdb_overlay.proofs.Placings.{note_all-segments}
use Rattle.tdb_recover.specs.Explained.{IsExplained}
use Rattle.tdb_recover.proofs.Answering.{if_err_and}
use Rattle.tdb_recover.proofs.Replaying.{list_in, list_lies, records_lie, replayed}
use Rattle.tdb_recover.proofs.replay.replay_list.Goals as goal

pub returns-in_err-entries-clause-explained : goal.returns-in_err-entries-clause-explained
returns-in_err-entries-clause-explained g c t =
    let old = g.P.Platform.outside c.args.platform.now in
    let new = g.P.Platform.outside c.read_entries.new.platform in
    let text = c.args.text.now in
    let keys = c.args.keys.now in
    if_err_and c.from_residual.result _ _ c.from_residual.ensures.1
    (λ e is store anchor before changes after given kept.
    subst (IsExplained old new (λ p. p ≡ text.first)) (sym is)
    (c.in_err-entries.ensures.explained t changes (list_in old.trace.written new.trace keys store anchor before text changes after given).0
    (list_lies old.trace.written new.trace keys store anchor before text changes after given c.args.log.now kept c.known.ensures)))

pub returns-in_err-note_records-clause-explained : goal.returns-in_err-note_records-clause-explained
returns-in_err-note_records-clause-explained g c t =
    let old = g.P.Platform.outside c.args.platform.now in
    let new = g.P.Platform.outside c.read_entries.new.platform in
    let text = c.args.text.now in
    let keys = c.args.keys.now in
    if_err_and c.from_residual-in_err-note_records.result _ _ c.from_residual-in_err-note_records.ensures.1
    (λ e is store anchor before changes after given kept.
    let list = list_in old.trace.written new.trace keys store anchor before text changes after given in
    let same = c.as_slice.ensures.value ∙ c.in_ok-entries.ensures.entries t changes list.0 ∙ list.1 in
    let lie = records_lie old.trace.written new.trace keys store anchor before text changes after given c.args.log.now kept c.known.ensures in
    absurd (c.in_err-note_records.ensures.form.1 (subst (λ (l : List Entry). AllByRecursion (LiesBelow c.args.log.now.segments.segments) (named_records l)) (sym same) lie)))

pub note-requires : goal.note-requires
note-requires g c =
    let lies = c.in_ok-entries.ensures.lies in
    let same : c.note_records.new.segments.segments ≡ c.args.log.now.segments.segments =
    ap (λ (s : SegmentSpace). s.segments) c.in_ok-note_records.ensures.ok ∙ note_all-segments c.args.log.now.segments (named_records c.as_slice.result.now) in
    (lies.0, subst (λ (n : ℕ). lies.0 < n) (sym same) lies.1, lies.2)

pub returns-clause-replayed : goal.returns-clause-replayed
returns-clause-replayed g c t store anchor before changes after given kept =
    let old = g.P.Platform.outside c.args.platform.now in
    let new = g.P.Platform.outside c.read_entries.new.platform in
    let text = c.args.text.now in
    let keys = c.args.keys.now in
    let list = list_in old.trace.written new.trace keys store anchor before text changes after given in
    let items = c.in_ok-entries.ensures.entries t changes list.0 ∙ list.1 in
    let first = c.as_slice.ensures.value ∙ items in
    let second = c.as_slice-2.ensures.value ∙ items in
    replayed old.trace.written new.trace keys store anchor before text changes after given c.args.log.now kept _
    (c.note.ensures ∙ ap (λ (s : SegmentSpace). note_in s text.first) (c.in_ok-note_records.ensures.ok ∙ ap (λ (l : List Entry). note_all c.args.log.now.segments (named_records l)) first))
    (c.in_ok-note.ensures.ok ∙ ap (noted_all text.count c.args.log.now.overlay) second) refl
