use Rattle.std.proofs.Common.{◌+◌, Option, arith, subst, sym, take}
use Rattle.tdb_parts.specs.BareState.{bare_state}
use Rattle.tdb_chunk.specs.Laying.{HasOwner, sealing_in, told_behind}
use Rattle.tdb_chunk.specs.declared.owner.Owner.{Owner}
use Rattle.tdb_chunk.proofs.Owners.{owner_next}
use Rattle.tdb_chunk.proofs.open_log.OpenLog.owner_behind.Goals as goal

pub loop-change-preserved : goal.loop-change-preserved
loop-change-preserved c =
    let was = c.args.self.now in
    subst (λ (o : Option Owner). HasOwner c.args.part (sealing_in (told_behind (was.log.head.count + 1) was.log.overlay (take (c.loop-change.change-index + 1) c.args.earlier.now)) c.args.part.0) o) (sym c.next_owner-owner.ensures)
    (owner_next (was.log.head.count + 1) (bare_state was.log.overlay) c.args.earlier.now c.loop-change.change-index c.change-item.result c.args.part c.loop-change.owner (omega arith) c.requires.passes c.loop-change-test.true c.change-item.is c.loop-change.invariant)
