use Rattle.std.proofs.Common.{◌≡◌, ◌<◌, ◌∙◌, ap, refl, subst, sym, List, ℕ}
use Rattle.tdb_list.specs.declared.entry.Entry.{Entry}
use Rattle.tdb_seg.specs.SegmentSpace.{SegmentSpace, note_in}
use Rattle.tdb_overlay.specs.Changes.{named_records}
use Rattle.tdb_overlay.specs.Covering.{noted_all}
use Rattle.tdb_overlay.specs.Placement.{note_all}
use Rattle.tdb_overlay.proofs.Placings.{note_all-segments}
use Rattle.tdb_recover.specs.declared.error.OpenError.TheVariants.{Fault, Memory}
use Rattle.tdb_recover.proofs.TakingStep.{taken_fault, taken_made, taken_memory, under_own}
use Rattle.tdb_recover.proofs.Unwriting.{unwritten_advance, unwritten_nothing}
use Rattle.tdb_recover.proofs.taking.take.Goals as goal

pub note-requires : goal.note-requires
note-requires g c =
    let lies = c.requires.lies in
    let same : c.note_records.new.segments.segments ≡ c.args.log.segments.segments =
    ap (λ (s : SegmentSpace). s.segments) c.in-Ok.ensures.ok
    ∙ note_all-segments c.args.log.segments (named_records c.as_slice.result.now) in
    (lies.0, subst (λ (n : ℕ). lies.0 < n) (sym same) lies.1, lies.2)

pub returns-clause-kept : goal.returns-clause-kept
returns-clause-kept g c =
    let noted : c.note.new.self ≡ note_in (note_all c.args.log.segments (named_records c.as_slice.result.now)) c.args.pending.commit.first =
    c.note.ensures ∙ ap (λ (s : SegmentSpace). note_in s c.args.pending.commit.first) c.in-Ok.ensures.ok in (
      refl,
      ap (λ (s : SegmentSpace). s.segments) noted ∙ note_all-segments c.args.log.segments (named_records c.as_slice.result.now),
    )

pub returns-in_default-note-clause-unwritten : goal.returns-in_default-note-clause-unwritten
returns-in_default-note-clause-unwritten g c =
    unwritten_nothing g.P.Platform.outside g.P.Platform.crash_states g.met.P.Platform.counts c.args.platform.now

pub returns-in_default-advance-clause-unwritten : goal.returns-in_default-advance-clause-unwritten
returns-in_default-advance-clause-unwritten g c =
    let e = c.advance.ensures in
    unwritten_advance g.P.Platform.outside g.P.Platform.crash_states g.met.P.Platform.counts c.args.platform.now c.advance.new.self
    (c.args.pending.commit.count, c.args.pending.mark.0) c.advance.result e.trace e.image e.now e.time e.told

pub returns-clause-unwritten : goal.returns-clause-unwritten
returns-clause-unwritten g c =
    let e = c.advance.ensures in
    unwritten_advance g.P.Platform.outside g.P.Platform.crash_states g.met.P.Platform.counts c.args.platform.now c.advance.new.self
    (c.args.pending.commit.count, c.args.pending.mark.0) c.advance.result e.trace e.image e.now e.time e.told

pub returns-in_default-note-clause-taken : goal.returns-in_default-note-clause-taken
returns-in_default-note-clause-taken g c begun secret store history from whole =
    let outside = g.P.Platform.outside in
    let crash_states = g.P.Platform.crash_states in
    let old = c.args.platform.now in
    let log = c.args.log in
    let p = c.args.pending in
    taken_memory outside crash_states g.met.P.Platform.counts g.met.P.Platform.numbered begun old old log p store history from
    (under_own outside crash_states begun old (outside old) secret log p store history from whole) (λ _. refl) Memory

pub returns-in_default-advance-clause-taken : goal.returns-in_default-advance-clause-taken
returns-in_default-advance-clause-taken g c begun secret store history from whole =
    let outside = g.P.Platform.outside in
    let crash_states = g.P.Platform.crash_states in
    let old = c.args.platform.now in
    let new = c.advance.new.self in
    let e = c.advance.ensures in
    let log = c.args.log in
    let p = c.args.pending in
    taken_fault outside crash_states g.met.P.Platform.counts g.met.P.Platform.numbered begun old new log p store history from
    (under_own outside crash_states begun old (outside new) secret log p store history from whole) e.trace
    c.advance.result e.told e.advanced e.only e.either e.now e.time c.in_default-advance.field-0 c.in_default-advance.is Fault

pub returns-clause-taken : goal.returns-clause-taken
returns-clause-taken g c begun secret store history from whole =
    let outside = g.P.Platform.outside in
    let crash_states = g.P.Platform.crash_states in
    let old = c.args.platform.now in
    let new = c.advance.new.self in
    let e = c.advance.ensures in
    let log = c.args.log in
    let p = c.args.pending in
    taken_made outside crash_states g.met.P.Platform.counts g.met.P.Platform.numbered begun old new log p store history from
    (under_own outside crash_states begun old (outside new) secret log p store history from whole) e.trace
    c.advance.result e.told e.advanced e.only e.either e.now e.time _ refl refl refl
    (c.note.ensures
    ∙ ap (λ (s : SegmentSpace). note_in s p.commit.first)
    (c.in-Ok.ensures.ok ∙ ap (λ (es : List Entry). note_all log.segments (named_records es)) c.as_slice.ensures.value))
    (c.in-Ok-note.ensures.ok ∙ ap (noted_all p.commit.count log.overlay) c.as_slice-2.ensures.value) refl
    c.in-Ok-advance.field-0 c.in-Ok-advance.is
