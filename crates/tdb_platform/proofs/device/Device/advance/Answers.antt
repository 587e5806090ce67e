use Rattle.std.proofs.Common.{Bool, refl, sym, ◌∙◌, ap, arith, cond}
use Rattle.tdb_platform.specs.Outside.{Anchor}
use Rattle.tdb_platform.specs.Replay.{Advances, Stand}
use Rattle.tdb_platform.specs.Device.{stand}
use Rattle.tdb_platform.proofs.Doing.{did_added, did_nothing, log_added, log_missed, stands_on, shorts_on}
use Rattle.tdb_platform.proofs.device.Device.advance.Goals as goal

pub returns-in_default-clause-err : goal.returns-in_default-clause-err
returns-in_default-clause-err c =
    did_nothing c.args.self.now _ (omega arith) (log_missed c.args.self.now _ _ c.in_default.ensures.err c.saturating_add-self.ensures) refl refl

pub invariant_of-self-then-not-failed : goal.invariant_of-self-then-not-failed
invariant_of-self-then-not-failed c =
    let old = c.args.self.now in
    let e = Advances c.args.count c.args.mark.now c.args.failed in
    let next = stands_on old _ e c.in-Ok.ensures.ok in
    let anchor = sym (ap (λ (f : Bool). cond f (stand old).1 (c.args.count, c.args.mark.now)) c.if-not-failed.true) in
    record {
      image_is = ap (λ (s : Stand). s.0) next;
      count_is = ap (λ (a : Anchor). a.0) anchor ∙ ap (λ (s : Stand). s.1.0) next;
      mark_is = ap (λ (a : Anchor). a.1) anchor ∙ ap (λ (s : Stand). s.1.1) next;
      shorts_are = shorts_on old _ e c.in-Ok.ensures.ok;
    }

pub invariant_of-self-else-not-failed : goal.invariant_of-self-else-not-failed
invariant_of-self-else-not-failed c =
    let old = c.args.self.now in
    let e = Advances c.args.count c.args.mark.now c.args.failed in
    let next = stands_on old _ e c.in-Ok.ensures.ok in
    let anchor = sym (ap (λ (f : Bool). cond f (stand old).1 (c.args.count, c.args.mark.now)) c.if-not-failed.false) in
    record {
      image_is = ap (λ (s : Stand). s.0) next;
      count_is = ap (λ (a : Anchor). a.0) anchor ∙ ap (λ (s : Stand). s.1.0) next;
      mark_is = ap (λ (a : Anchor). a.1) anchor ∙ ap (λ (s : Stand). s.1.1) next;
      shorts_are = shorts_on old _ e c.in-Ok.ensures.ok;
    }

pub returns-then-not-failed-clause-ok : goal.returns-then-not-failed-clause-ok
returns-then-not-failed-clause-ok c =
    did_added c.args.self.now _ (Advances c.args.count c.args.mark.now c.args.failed) (log_added c.args.self.now _ _ c.in-Ok.ensures.ok) refl
    (sym (ap (λ (f : Bool). cond f (stand c.args.self.now).1 (c.args.count, c.args.mark.now)) c.if-not-failed.true))

pub returns-else-not-failed-clause-ok : goal.returns-else-not-failed-clause-ok
returns-else-not-failed-clause-ok c =
    did_added c.args.self.now _ (Advances c.args.count c.args.mark.now c.args.failed) (log_added c.args.self.now _ _ c.in-Ok.ensures.ok) refl
    (sym (ap (λ (f : Bool). cond f (stand c.args.self.now).1 (c.args.count, c.args.mark.now)) c.if-not-failed.false))
