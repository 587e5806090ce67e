-- An open log: which store it is of, and the state that it stands for.
use Rattle.std.specs.Prelude.{◌≡◌, IsTrue}
use Rattle.tdb_platform.specs.Outside.{Outside}
use Rattle.tdb_overlay.specs.Found.{Finds, Store}
use Rattle.tdb_overlay.specs.Needed.{needed}
use Rattle.tdb_overlay.specs.Recovered.{IsRecovered}
use Rattle.tdb_overlay.specs.StoreState.{StoreState}
use Rattle.tdb_chunk.specs.declared.open_log.OpenLog.{OpenLog}

-- the store, by what the owner of its log knows of it
abbrev pub store_of : OpenLog → Store
store_of s = record { secret = s.keys; suite = s.log.suite }

-- the anchor names the last text that the store knows
abbrev pub IsAtHead : Outside → OpenLog → Type 0
IsAtHead outside s = IsTrue outside.tells → outside.anchor ≡ (s.log.head.count, s.log.head.mark.0)

-- it stands for a state of the store
abbrev pub IsStoreAt : Finds → OpenLog → StoreState → Type 0
IsStoreAt finds s last = IsRecovered finds (store_of s) s.log last

-- the same, the pieces being those of the platform's trace that the log of its anchor needs
abbrev pub Knows : Outside → OpenLog → StoreState → Type 0
Knows outside s last = IsStoreAt (needed outside.trace.written (store_of s) outside.anchor) s last
