use Rattle.std.proofs.Common.{◌≡◌, ◌∙◌, ◌<◌, ℕ, ap, sym, refl, subst}
use Rattle.std.proofs.lemmas.Bool.{false≢true}
use Rattle.tdb_overlay.specs.Changes.{named_records}
use Rattle.tdb_overlay.specs.Placement.{LiesBelow}
use Rattle.std.specs.Prelude.{take}
use Rattle.tdb_seg.specs.SegmentSpace.{SegmentSpace}
use Rattle.tdb_overlay.proofs.Placings.{note_all-segments}
use Rattle.tdb_recover.proofs.Noting.{named_at, noted_next, noted_none}
use Rattle.tdb_recover.proofs.replay.note_records.Goals as goal

pub loop-entry-preserved-then-entry-ne-WRITE : goal.loop-entry-preserved-then-entry-ne-WRITE
loop-entry-preserved-then-entry-ne-WRITE c =
    noted_none c.args.segments.now c.args.entries.now c.loop-entry.entry-index _ c.loop-entry.segments c.loop-entry-test.true c.loop-entry.invariant c.if-entry-ne-WRITE.true

pub loop-entry-preserved : goal.loop-entry-preserved
loop-entry-preserved c =
    noted_next c.args.segments.now c.args.entries.now c.loop-entry.entry-index _ c.loop-entry.segments c.note.new.self c.loop-entry-test.true c.loop-entry.invariant c.if-entry-ne-WRITE.false c.note.ensures

pub returns-then-not-holds-clause-form : goal.returns-then-not-holds-clause-form
returns-then-not-holds-clause-form c =
    let same : c.loop-entry.segments.segments ≡ c.args.segments.now.segments =
    ap (λ (s : SegmentSpace). s.segments) c.loop-entry.invariant ∙ note_all-segments c.args.segments.now (named_records (take c.loop-entry.entry-index c.args.entries.now)) in (
      (_, refl),
      λ all.
          let lies = named_at (LiesBelow c.args.segments.now.segments) c.args.entries.now c.loop-entry.entry-index _ c.loop-entry-test.true c.if-entry-ne-WRITE.false all in
          false≢true (sym c.if-not-holds.true ∙ c.holds.ensures.1 (lies.0, subst (λ (n : ℕ). lies.0 < n) (sym same) lies.1, lies.2)),
    )
