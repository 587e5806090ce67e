-- The directory of a hashed index: its ranges, and its bytes.
use Rattle.std.specs.Prelude.{◌≡◌, ℕ, ◌+◌, ◌^◌, ◌<◌, List, ◌++◌, length}
use Rattle.std.specs.List.{flat_map}
use Rattle.std.specs.Int.{w32, to_be_bytes}
use Rattle.tdb_stored.specs.Spelling.{AreRanks}

pub record DirectoryFields : Type 0 where
  pub level : ℕ
  pub split : ℕ
  pub entries : ℕ
  pub buckets : List ℕ

-- a level of 2^level buckets has this many where so many of them are split
pub record HasBuckets (level split count : ℕ) : Type 0 where
  pub level_small : level < 32
  pub split_small : split < 2 ^ level
  pub count_is : count ≡ 2 ^ level + split

pub record IsDirectory (d : DirectoryFields) : Type 0 where
  pub count : HasBuckets d.level d.split (length d.buckets)
  pub entries : d.entries < 2 ^ 32
  pub buckets : AreRanks d.buckets

-- the level, the number of buckets that are split, the number of entries, and the ranks of the buckets
abbrev pub directory_bytes : DirectoryFields → List ℕ
directory_bytes d = to_be_bytes w32 d.level ++ to_be_bytes w32 d.split ++ to_be_bytes w32 d.entries ++ flat_map (to_be_bytes w32) d.buckets
