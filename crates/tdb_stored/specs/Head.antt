-- The head of a collection: its ranges and order, and its bytes.
use Rattle.std.specs.Prelude.{ℕ, ◌^◌, ◌<◌, ◌≤◌, List, ◌++◌, length, All}
use Rattle.std.specs.List.{AllAdjacentBelow, AllByRecursion}
use Rattle.std.specs.Int.{w32, to_be_bytes}
use Rattle.tdb_stored.specs.Spelling.{counted_bytes}
use Rattle.tdb_stored.specs.declared.head.Indexed.{Indexed}

abbrev pub indexed_bytes : Indexed → List ℕ
indexed_bytes index =
    to_be_bytes w32 index.number ++ to_be_bytes w32 index.field ++ to_be_bytes w32 index.kind ++ to_be_bytes w32 index.root

-- what each value of the type meets
pub record IsIndexed (index : Indexed) : Type 0 where
  pub number : index.number < 2 ^ 32
  pub field : index.field < 2 ^ 32
  pub kind : index.kind < 2 ^ 32
  pub root : index.root < 2 ^ 32

-- a number and a kind below 4
abbrev pub IsInHead : Indexed → Type 0
IsInHead index = (index.number < 4) × (index.kind < 4)

-- each number is below the next one
abbrev pub AreNumbered : List Indexed → Type 0
AreNumbered indexes = AllAdjacentBelow (λ a b. a.number < b.number) indexes (length indexes)

-- 1 to 4 indexes, by number
pub record AreHeadIndexes (indexes : List Indexed) : Type 0 where
  pub least : 1 ≤ length indexes
  pub size : length indexes ≤ 4
  pub in_range : All IsInHead indexes
  pub by_number : AreNumbered indexes

-- the class of the members, and the indexes
pub record HeadFields : Type 0 where
  pub class : ℕ
  pub indexes : List Indexed

pub record IsHead (head : HeadFields) : Type 0 where
  pub class : head.class < 2 ^ 32
  pub values : AllByRecursion IsIndexed head.indexes
  pub indexes : AreHeadIndexes head.indexes

-- the class, the number of indexes, and the indexes
abbrev pub head_bytes : HeadFields → List ℕ
head_bytes head = to_be_bytes w32 head.class ++ counted_bytes indexed_bytes head.indexes
