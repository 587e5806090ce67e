use Rattle.std.proofs.Common.{refl, sym, ◌∙◌, ap, arith}
use Rattle.tdb_platform.specs.Logs.{event_of}
use Rattle.tdb_platform.specs.Replay.{Stand}
use Rattle.tdb_platform.specs.Outside.{Anchor}
use Rattle.tdb_platform.specs.Device.{stand}
use Rattle.tdb_platform.proofs.Doing.{did_added, did_nothing, log_added, log_missed, stands_on, shorts_on}
use Rattle.tdb_platform.proofs.device.Device.note.Goals as goal

pub invariant_of-self : goal.invariant_of-self
invariant_of-self c =
    let old = c.args.self.now in
    let e = event_of c.args.call in
    let next = stands_on old _ e c.in-Ok.ensures.ok in
    let anchor = sym (c.requires.anchor (stand old)) in
    record {
      image_is = sym (c.requires.image (stand old)) ∙ ap (λ (s : Stand). s.0) next;
      count_is = ap (λ (a : Anchor). a.0) anchor ∙ ap (λ (s : Stand). s.1.0) next;
      mark_is = ap (λ (a : Anchor). a.1) anchor ∙ ap (λ (s : Stand). s.1.1) next;
      shorts_are = shorts_on old _ e c.in-Ok.ensures.ok;
    }

pub returns-in_default-clause-err : goal.returns-in_default-clause-err
returns-in_default-clause-err c =
    did_nothing c.args.self.now _ (omega arith) (log_missed c.args.self.now _ _ c.in_default.ensures.err c.saturating_add-self.ensures) refl refl

pub returns-clause-ok : goal.returns-clause-ok
returns-clause-ok c =
    did_added c.args.self.now _ (event_of c.args.call) (log_added c.args.self.now _ _ c.in-Ok.ensures.ok)
    (sym (c.requires.image (stand c.args.self.now))) (sym (c.requires.anchor (stand c.args.self.now)))
