-- The keys of partitions that are kept in memory.
use Rattle.std.specs.Prelude.{◌≡◌, ℕ, List, Some}
use Rattle.std.specs.BTreeMap.{BTreeMap, get}
use Rattle.std.specs.Ordering.{nat_cmp}
use Rattle.tdb_overlay.specs.Keys.{partition_key}
use Rattle.tdb_overlay.specs.declared.record_keys.KeptKey.{KeptKey}

-- it is the one that the secret gives for its home and birth, prepared for its suite
abbrev pub IsOf : List ℕ → KeptKey → Type 0
IsOf secret kept = kept.key ≡ record { suite = kept.suite; bytes = partition_key secret kept.home kept.birth }

-- so is each of these
abbrev pub AreOf : List ℕ → BTreeMap ℕ KeptKey → Type 0
AreOf secret by_number = (part : ℕ) (kept : KeptKey) → get nat_cmp by_number part ≡ Some kept → IsOf secret kept
