-- The list of a commit's changes and its one spelling.
use Rattle.std.specs.Prelude.{◌≡◌, ℕ, ◌≤◌, List, ◌++◌, length, codes}
use Rattle.std.specs.List.{flat_map, AllByRecursion}
use Rattle.std.specs.Int.{w32, to_be_bytes}
use Rattle.tdb_list.specs.declared.entry.Entry.{Entry}
use Rattle.tdb_list.specs.Entry.{entry_bytes, IsEntry, IsEntryValue}

-- the magic, the number of entries, four zero bytes, and the entries
abbrev pub list_bytes : List Entry → List ℕ
list_bytes entries = codes "TDBLST01" ++ to_be_bytes w32 (length entries) ++ to_be_bytes w32 0 ++ flat_map entry_bytes entries

-- what has a spelling: 1 to 1,024 entries in the grammar
pub record IsList (entries : List Entry) : Type 0 where
  pub least : 1 ≤ length entries
  pub most : length entries ≤ 1024
  pub each : AllByRecursion IsEntry entries

-- the bytes are the spelling of the entries
pub record IsChangeList (entries : List Entry) (bytes : List ℕ) : Type 0 where
  pub values : AllByRecursion IsEntryValue entries
  pub list : IsList entries
  pub spelled : bytes ≡ list_bytes entries
