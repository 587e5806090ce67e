-- The leader of a partition and its one spelling.
use Rattle.std.specs.Prelude.{◌≡◌, ℕ, ◌^◌, ◌<◌, ◌≤◌, List, ◌++◌, codes}
use Rattle.std.specs.Int.{w32, w64, to_be_bytes}
use Rattle.tdb_base.specs.PieceBytes.{entry_bytes}
use Rattle.tdb_base.specs.SuiteNumber.{suite_number}
use Rattle.tdb_node.specs.declared.leader.Leader.{Leader}
use Rattle.tdb_node.specs.Node.{IsEntry, IsEntryValue}

-- the magic, the fields in their order, all numbers big-endian, and the root as the entry of a node
abbrev pub leader_bytes : Leader → List ℕ
leader_bytes l =
    codes "TDBLDR01" ++ to_be_bytes w32 (suite_number l.suite) ++ to_be_bytes w32 l.home ++ to_be_bytes w64 l.birth
    ++ to_be_bytes w32 l.next ++ to_be_bytes w32 l.parent ++ to_be_bytes w64 l.born ++ entry_bytes l.root

-- what has a spelling: the fields are in their ranges
pub record IsInLeaderFormat (l : Leader) : Type 0 where
  pub home_least : 1 ≤ l.home
  pub home_most : l.home ≤ 4095
  pub birth : 1 ≤ l.birth
  pub next : l.next ≤ 262144
  pub parent : l.parent ≤ 4095
  pub born : 1 ≤ l.born
  pub root : IsEntry l.root

-- what each value of the type meets
pub record IsLeaderValue (l : Leader) : Type 0 where
  pub home : l.home < 2 ^ 32
  pub birth : l.birth < 2 ^ 64
  pub next : l.next < 2 ^ 32
  pub parent : l.parent < 2 ^ 32
  pub born : l.born < 2 ^ 64
  pub root : IsEntryValue l.root

-- the bytes are the spelling of the leader
pub record IsLeader (l : Leader) (bytes : List ℕ) : Type 0 where
  pub value : IsLeaderValue l
  pub format : IsInLeaderFormat l
  pub spelled : bytes ≡ leader_bytes l
