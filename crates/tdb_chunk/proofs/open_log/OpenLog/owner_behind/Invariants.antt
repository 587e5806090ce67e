use Rattle.std.proofs.Common.{take}
use Rattle.tdb_chunk.specs.Laying.{HasOwner, sealing_in, told_behind}
use Rattle.tdb_chunk.proofs.open_log.OpenLog.owner_behind.Given as goal

abbrev pub invariant-loop-change : goal.invariant-loop-change
invariant-loop-change l = HasOwner l.part (sealing_in (told_behind l.count l.self.log.overlay (take l.change-index l.earlier)) l.part.0) l.owner
