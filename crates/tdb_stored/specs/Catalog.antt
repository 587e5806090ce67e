-- The catalog of collections: its ranges and order, and its bytes.
use Rattle.std.specs.Prelude.{◌≢◌, ℕ, ◌^◌, ◌<◌, ◌≤◌, List, [], ◌∷◌, ◌++◌, length, All}
use Rattle.std.specs.List.{AllAdjacentBelow, AllByRecursion}
use Rattle.std.specs.Int.{w32, to_be_bytes}
use Rattle.tdb_class.specs.TextBytes.{text_bytes}
use Rattle.tdb_class.specs.Word.{IsWord}
use Rattle.tdb_stored.specs.Spelling.{counted_bytes}
use Rattle.tdb_stored.specs.declared.catalog.Listed.{Listed}

-- the number, the name behind its length, and the rank of the head
abbrev pub listed_bytes : Listed → List ℕ
listed_bytes listed = to_be_bytes w32 listed.number ++ text_bytes listed.name ++ to_be_bytes w32 listed.head

-- what each value of the type meets
pub record IsListed (listed : Listed) : Type 0 where
  pub number : listed.number < 2 ^ 32
  pub name : length listed.name ≤ 32
  pub head : listed.head < 2 ^ 32

-- a number below 16, and a name that is a word
abbrev pub IsInCatalog : Listed → Type 0
IsInCatalog listed = (listed.number < 16) × IsWord listed.name

-- each number is below the next one
abbrev pub AreNumbered : List Listed → Type 0
AreNumbered collections = AllAdjacentBelow (λ a b. a.number < b.number) collections (length collections)

-- no two names are one
abbrev pub NamesDiffer : List Listed → Type 0
NamesDiffer [] = Unit {0}
NamesDiffer (first ∷ others) = All (λ listed. listed.name ≢ first.name) others × NamesDiffer others

pub record IsCatalog (collections : List Listed) : Type 0 where
  pub values : AllByRecursion IsListed collections
  pub size : length collections ≤ 16
  pub in_range : All IsInCatalog collections
  pub by_number : AreNumbered collections
  pub names : NamesDiffer collections

-- the number of collections, and the collections
abbrev pub catalog_bytes : List Listed → List ℕ
catalog_bytes collections = counted_bytes listed_bytes collections
