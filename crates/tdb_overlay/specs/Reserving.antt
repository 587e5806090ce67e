-- What is reserved for a list, and the partitions that are kept a second time.
use Rattle.std.specs.Prelude.{◌≡◌, ◌≤◌, Option, Some, None}
use Rattle.tdb_list.specs.ChangeList.{IsList}
use Rattle.tdb_overlay.specs.Covering.{Covers, noted_all}
use Rattle.tdb_overlay.specs.declared.overlay.Reserved.{Reserved}
use Rattle.tdb_overlay.specs.declared.overlay.Spare.{Spare}

-- It has what its list makes of these covers.
pub record IsReserved (covers : Covers) (reserved : Reserved) : Type 0 where
  pub some : 1 ≤ reserved.count
  pub list : IsList reserved.entries.items
  pub noted : reserved.next ≡ noted_all reserved.count covers reserved.entries.items

-- The covers are what the list of the spare partitions makes of them, where there are such partitions.
pub record IsListBehind (covers : Covers) (spare : Spare) : Type 0 where
  pub some : 1 ≤ spare.count
  pub list : IsList spare.entries.items
  pub noted : covers ≡ noted_all spare.count spare.before spare.entries.items

abbrev pub IsBehind : Covers → Option Spare → Type 0
IsBehind covers None = Unit {0}
IsBehind covers (Some spare) = IsListBehind covers spare
