use Rattle.std.proofs.Common.{List, ℕ, sym, ◌∙◌, subst}
use Rattle.tdb_platform.specs.Outside.{Anchor}
use Rattle.tdb_platform.specs.Replay.{clock_of}
use Rattle.tdb_platform.specs.Device.{crash_states_of, log_of}
use Rattle.tdb_platform.specs.DeviceLaws.{device_as_it_reads}
use Rattle.tdb_platform.specs.Left.{left_by}
use Rattle.tdb_platform.proofs.Lefts.{left_by_a_stop}
use Rattle.tdb_platform.proofs.memory.MemoryPlatform.crash.Goals as goal

pub returns-clause-left : goal.returns-clause-left
returns-clause-left c =
    let old = c.args.self.device in
    let did = c.in_ok-device.ensures.did in
    let left = left_by c.args.crash (log_of old) in
    subst (λ (i : List ℕ). crash_states_of old (clock_of (log_of old)) i (c.in_ok-device.device.count, c.in_ok-device.device.mark)) (sym did.image)
    (subst (λ (a : Anchor). crash_states_of old (clock_of (log_of old)) left.0 a) (sym did.anchor)
    (left_by_a_stop c.args.crash (log_of old)))

pub returns-clause-now : goal.returns-clause-now
returns-clause-now c i a =
    let new = c.in_ok-device.device in
    let did = c.in_ok-device.ensures.did in (
      λ left. let this = did.now i a left in (this.0 ∙ sym did.image, this.1 ∙ sym did.anchor),
      λ is.
          subst (λ (j : List ℕ). crash_states_of new (clock_of (log_of new)) j a) (sym is.0)
          (subst (λ (b : Anchor). crash_states_of new (clock_of (log_of new)) new.image.items b) (sym is.1) (device_as_it_reads new)),
    )

pub returns-clause-time : goal.returns-clause-time
returns-clause-time c = c.in_ok-device.ensures.did.time _ _
