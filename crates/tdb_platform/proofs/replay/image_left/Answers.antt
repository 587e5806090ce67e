use Rattle.std.proofs.Common.{◌≡◌, List, ℕ, rules, sym, ◌∙◌, ap}
use Rattle.std.proofs.lemmas.List.{drop_all}
use Rattle.tdb_platform.specs.declared.call.Entry.{Entry}
use Rattle.tdb_platform.specs.LeftImage.{image_of}
use Rattle.tdb_platform.specs.Logs.{calls_of, event_of}
use Rattle.tdb_platform.specs.Replay.{stand_after}
use Rattle.tdb_platform.proofs.Leaving.{image_goes_on}
use Rattle.tdb_platform.proofs.replay.image_left.Goals as goal

pub loop-entry-init : goal.loop-entry-init
loop-entry-init c a =
    let image_is : c.in_ok-image.image.items ≡ c.args.start.now = search rules in
    let left_is : c.in_ok-left.left.items ≡ c.args.start.now = search rules in (
      a,
      ap (λ (i : List ℕ). image_of c.args.how (i, a) c.in_ok-left.left.items (calls_of c.args.entries.now)) image_is
          ∙ ap (λ (i : List ℕ). image_of c.args.how (c.args.start.now, a) i (calls_of c.args.entries.now)) left_is,
    )

pub loop-entry-preserved : goal.loop-entry-preserved
loop-entry-preserved c a =
    let so_far = c.loop-entry.invariant a in
    let e = c.entry-item.result in (
      (stand_after (c.loop-entry.image.items, so_far.0) (event_of e.call)).1,
      image_goes_on c.args.entries.now c.loop-entry.entry-index e c.loop-entry-test.true c.entry-item.is
          c.args.how c.loop-entry.image.items c.replay_image.new.image.items c.loop-entry.left.items c.replay_image.new.left.items _ so_far.0
          (c.in_ok-replay_image.ensures.image so_far.0) (c.in_ok-replay_image.ensures.left so_far.0) so_far.1,
    )

pub returns : goal.returns
returns c a =
    let so_far = c.loop-entry.invariant a in
    ap (λ (es : List Entry). image_of c.args.how (c.loop-entry.image.items, so_far.0) c.loop-entry.left.items (calls_of es)) (sym (drop_all c.loop-entry.entry-index c.args.entries.now c.loop-entry-test.false))
    ∙ so_far.1
