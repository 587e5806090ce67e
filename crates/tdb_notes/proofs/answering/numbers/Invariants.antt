use Rattle.std.proofs.Common.{◌≡◌, map, take}
use Rattle.tdb_model.specs.declared.change.PartInfo.{PartInfo}
use Rattle.tdb_notes.proofs.answering.numbers.Given as goal

-- the numbers before the index
abbrev pub invariant-loop-info : goal.invariant-loop-info
invariant-loop-info l = l.numbers.items ≡ map (λ (info : PartInfo). info.part) (take l.info-index l.infos)
