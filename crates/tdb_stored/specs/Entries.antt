-- The entries of an index: their order, and their bytes.
use Rattle.std.specs.Prelude.{ℕ, ◌≤◌, List, IsTrue, length}
use Rattle.std.specs.List.{AllAdjacentBelow, AllByRecursion}
use Rattle.std.specs.Ordering.{is_lt}
use Rattle.tdb_stored.specs.Spelling.{counted_bytes}
use Rattle.tdb_stored.specs.Pair.{pair_cmp, pair_bytes, IsPair}
use Rattle.tdb_stored.specs.declared.pair.Pair.{Pair}

-- each entry is less than the next one, by key and then by id
abbrev pub IsAscending : List Pair → Type 0
IsAscending entries = AllAdjacentBelow (λ a b. IsTrue (is_lt (pair_cmp a b))) entries (length entries)

pub record IsEntries (limit : ℕ) (entries : List Pair) : Type 0 where
  pub values : AllByRecursion IsPair entries
  pub size : length entries ≤ limit
  pub ascending : IsAscending entries

-- their number, and the entries
abbrev pub entries_bytes : List Pair → List ℕ
entries_bytes entries = counted_bytes pair_bytes entries
