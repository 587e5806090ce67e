-- What calls say that tell of the partitions.
use Rattle.std.specs.Prelude.{◌≡◌, List, map, Option, Result, IfOk}
use Rattle.std.specs.FinMap.{get, entries}
use Rattle.std.specs.Option.{option_map}
use Rattle.std.specs.Global.{Vec}
use Rattle.tdb_base.specs.declared.names.PartId.{PartId}
use Rattle.tdb_model.specs.Lookup.{info_of}
use Rattle.tdb_model.specs.Meanings.{Meanings}
use Rattle.tdb_model.specs.State.{State}
use Rattle.tdb_model.specs.declared.change.PartInfo.{PartInfo}

-- what is told of each partition, by number
abbrev pub infos_of : State → List PartInfo
infos_of state = map (λ e. info_of (record { 0 = e.0 }) e.1) (entries state)

-- All partitions are told of, by number. Only memory may be wanting.
abbrev pub HasListed : {C : Type 0} → Meanings C → C → {E : Type 0} → Result (Vec PartInfo) E → Type 0
HasListed m c result = m.told c → (s : State) → m.state c s → IfOk result (λ infos. infos.items ≡ infos_of s)

-- One partition is told of, or none exactly where it isn't there.
abbrev pub HasInfo : {C : Type 0} → Meanings C → PartId → C → Option PartInfo → Type 0
HasInfo m part c result = m.told c → (s : State) → m.state c s → result ≡ option_map (info_of part) (get s part.0)
