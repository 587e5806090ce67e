use Rattle.std.proofs.Common.{refl, ap}
use Rattle.tdb_platform.specs.Outside.{Anchor}
use Rattle.tdb_platform.proofs.Doing.{did_replaced, stands_replaced}
use Rattle.tdb_platform.proofs.device.Device.replace.Goals as goal

pub invariant_of-self : goal.invariant_of-self
invariant_of-self c =
    let called = c.enter_replaced in
    let stands = stands_replaced c.args.self.now c.args.at c.args.bytes.now called.new.entries.items called.new.image.items called.result called.ensures.entries_ok called.ensures.image_ok called.ensures.entries_err called.ensures.image_err in
    record {
      image_is = stands.image_is;
      count_is = ap (λ (a : Anchor). a.0) stands.anchor_is;
      mark_is = ap (λ (a : Anchor). a.1) stands.anchor_is;
      shorts_are = stands.shorts_are;
    }

pub returns-clause-ok : goal.returns-clause-ok
returns-clause-ok c =
    let called = c.enter_replaced in
    did_replaced c.args.self.now c.args.at c.args.bytes.now called.new.entries.items called.new.image.items called.result _ refl refl refl called.ensures.entries_ok called.ensures.image_ok
