use Rattle.std.proofs.Common.{refl, ◌∙◌, ap, arith}
use Rattle.tdb_platform.specs.Replay.{Writes, Stand}
use Rattle.tdb_platform.proofs.Doing.{did_added, did_nothing, log_added, log_missed, stands_on, shorts_on}
use Rattle.tdb_platform.proofs.device.Device.write.Goals as goal

pub invariant_of-self : goal.invariant_of-self
invariant_of-self c =
    let old = c.args.self.now in
    let e = Writes c.args.at c.args.piece.now c.args.failed in
    let next = stands_on old _ e c.in-Ok.ensures.entries_ok in
    record {
      image_is = c.in-Ok.ensures.image_ok ∙ ap (λ (s : Stand). s.0) next;
      count_is = ap (λ (s : Stand). s.1.0) next;
      mark_is = ap (λ (s : Stand). s.1.1) next;
      shorts_are = shorts_on old _ e c.in-Ok.ensures.entries_ok;
    }

pub returns-in_default-clause-err : goal.returns-in_default-clause-err
returns-in_default-clause-err c =
    did_nothing c.args.self.now _ (omega arith) (log_missed c.args.self.now _ _ c.in_default.ensures.entries_err c.saturating_add-self.ensures) c.in_default.ensures.image_err refl

pub returns-clause-ok : goal.returns-clause-ok
returns-clause-ok c =
    did_added c.args.self.now _ (Writes c.args.at c.args.piece.now c.args.failed) (log_added c.args.self.now _ _ c.in-Ok.ensures.entries_ok) c.in-Ok.ensures.image_ok refl
