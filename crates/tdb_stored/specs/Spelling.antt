-- Lists of items in bytes.
use Rattle.std.specs.Prelude.{ℕ, ◌^◌, ◌<◌, ◌≤◌, List, ◌++◌, length}
use Rattle.std.specs.List.{flat_map, AllByRecursion}
use Rattle.std.specs.Int.{w32, to_be_bytes}

-- the number of items in four bytes, and the items one after another
abbrev pub counted_bytes : {T : Type 0} → (T → List ℕ) → List T → List ℕ
counted_bytes spelling items = to_be_bytes w32 (length items) ++ flat_map spelling items

-- at most so many items, each in range
abbrev pub IsList : {T : Type 0} → (T → Type 0) → ℕ → List T → Type 0
IsList IsItem limit items = AllByRecursion IsItem items × (length items ≤ limit)

-- ranks, in four bytes each
abbrev pub AreRanks : List ℕ → Type 0
AreRanks ranks = AllByRecursion (λ rank. rank < 2 ^ 32) ranks
