use Rattle.std.proofs.Common.{List, refl, sym, ◌∙◌, ap}
use Rattle.std.proofs.lemmas.List.{drop_all}
use Rattle.tdb_platform.specs.declared.call.Entry.{Entry}
use Rattle.tdb_platform.specs.LeftAnchor.{anchor_of}
use Rattle.tdb_platform.specs.Logs.{calls_of, event_of}
use Rattle.tdb_platform.specs.Replay.{stand_after}
use Rattle.tdb_platform.proofs.Leaving.{anchor_goes_on}
use Rattle.tdb_platform.proofs.replay.anchor_left.Goals as goal

pub loop-entry-init : goal.loop-entry-init
loop-entry-init c i = (i, refl)

pub loop-entry-preserved : goal.loop-entry-preserved
loop-entry-preserved c i =
    let so_far = c.loop-entry.invariant i in
    let e = c.entry-item.result in (
      (stand_after (so_far.0, c.loop-entry.anchor) (event_of e.call)).0,
      anchor_goes_on c.args.entries.now c.loop-entry.entry-index e c.loop-entry-test.true c.entry-item.is
          c.args.how c.loop-entry.anchor c.replay_anchor.new.anchor c.loop-entry.left c.replay_anchor.new.left _ so_far.0
          (c.replay_anchor.ensures.anchor so_far.0) (c.replay_anchor.ensures.left so_far.0) so_far.1,
    )

pub returns : goal.returns
returns c i =
    let so_far = c.loop-entry.invariant i in
    ap (λ (es : List Entry). anchor_of c.args.how (so_far.0, c.loop-entry.anchor) c.loop-entry.left (calls_of es)) (sym (drop_all c.loop-entry.entry-index c.args.entries.now c.loop-entry-test.false))
    ∙ so_far.1
