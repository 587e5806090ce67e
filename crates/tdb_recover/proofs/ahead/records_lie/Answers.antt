use Rattle.std.proofs.Common.{◌∙◌, sym}
use Rattle.std.proofs.lemmas.Bool.{false≢true}
use Rattle.tdb_overlay.specs.Placement.{LiesBelow}
use Rattle.tdb_recover.proofs.AheadList.{all_next}
use Rattle.tdb_recover.proofs.Noting.{named_at}
use Rattle.tdb_recover.proofs.ahead.records_lie.Goals as goal
use Rattle.tdb_recover.proofs.ahead.records_lie.Goals.{else-entry-eq-WRITE-via-then-entry-eq-WRITE+else-not-holds, else-entry-eq-WRITE-via-else-entry-eq-WRITE}

pub returns-then-not-holds : goal.returns-then-not-holds
returns-then-not-holds c =
    let named = named_at (LiesBelow c.args.segments.now.segments) c.args.entries.now c.loop-entry.entry-index _ c.loop-entry-test.true in (
      λ same. absurd (false≢true same),
      λ all. absurd (false≢true (sym c.if-not-holds.true ∙ c.holds.ensures.1 (named c.if-entry-eq-WRITE.true all))),
    )

pub loop-entry-preserved : goal.loop-entry-preserved
loop-entry-preserved c =
    all_next (LiesBelow c.args.segments.now.segments) c.args.entries.now c.loop-entry.entry-index _ c.loop-entry-test.true
    (λ kind.
    elim c.else-entry-eq-WRITE.branch [
      | else-entry-eq-WRITE-via-then-entry-eq-WRITE+else-not-holds w ↦ w.holds.ensures.0 w.if-not-holds.false
      | else-entry-eq-WRITE-via-else-entry-eq-WRITE w ↦ absurd (w.if-entry-eq-WRITE.false kind)
    ])
    c.loop-entry.invariant
