-- What is told of a state.
use Rattle.std.specs.Prelude.{ℕ, List, Option}
use Rattle.std.specs.FinMap.{get}
use Rattle.std.specs.Option.{option_map, option_and_then}
use Rattle.tdb_base.specs.declared.names.PartId.{PartId}
use Rattle.tdb_model.specs.State.{State, Partition}
use Rattle.tdb_model.specs.declared.change.PartInfo.{PartInfo}

abbrev pub parent_of : Option Partition → Option ℕ
parent_of found = option_map (λ p. p.parent) found

-- the parent of a partition, 0 where it was made, and none where it isn't there
abbrev pub parent_at : State → ℕ → Option ℕ
parent_at state part = parent_of (get state part)

-- what is told of a partition
abbrev pub info_of : PartId → Partition → PartInfo
info_of part p = record { part = part; suite = p.suite; parent = record { 0 = p.parent }; born = p.born; next = p.next }

-- the bytes of a chunk, where the partition and the chunk are there
abbrev pub chunk_at : State → ℕ → ℕ → Option (List ℕ)
chunk_at state part rank = option_and_then (λ p. get p.chunks rank) (get state part)
