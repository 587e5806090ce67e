-- The keys that a secret gives to the records of a store. `commit_key_of` is that of its commit texts.
use Rattle.std.specs.Prelude.{◌≡◌, ◌⊎◌, ◌<◌, ◌≤◌, ℕ, List, codes}
use Rattle.tdb_mac.specs.Derive.{derived_key}
use Rattle.tdb_seal.specs.declared.record.Name.{Name}

-- the key of the records of the system, as tables and lists
abbrev pub system_key : List ℕ → List ℕ
system_key secret = derived_key secret (codes "TDBsystm") 0 0

-- the key of the records of a partition: home is its number, and birth the count of the commit that made it
abbrev pub partition_key : List ℕ → ℕ → ℕ → List ℕ
partition_key secret home birth = derived_key secret (codes "TDBpartn") home birth

-- a node of a tree, of level 0 (16), 1 (17) or 2 (18)
abbrev pub IsNodeKind : ℕ → Type 0
IsNodeKind kind = (16 ≤ kind) × (kind ≤ 18)

-- a table (4) or a list (5), a leader (3) of one of the 4,095 partitions, or a node of the roster, as the system's records are called
abbrev pub IsSystemName : Name → Type 0
IsSystemName name = (name.home ≡ 0) × (((name.rank ≡ 0) × ((name.kind ≡ 4) ⊎ (name.kind ≡ 5)))
    ⊎ ((name.kind ≡ 3) × (1 ≤ name.rank) × (name.rank ≤ 4095)) ⊎ (IsNodeKind name.kind × (name.rank < 262144)))

-- a chunk (1) of one of the 4,095 partitions, or a node of its tree
abbrev pub IsPartitionName : Name → Type 0
IsPartitionName name = ((name.kind ≡ 1) ⊎ IsNodeKind name.kind) × (1 ≤ name.home) × (name.home ≤ 4095) × (name.rank < 262144)

-- the key that a record has by its name
abbrev pub IsKeyFor : List ℕ → Name → List ℕ → Type 0
IsKeyFor secret name key =
    (IsSystemName name × (key ≡ system_key secret)) ⊎ (IsPartitionName name
    × ((birth : ℕ) × (1 ≤ birth) × (key ≡ partition_key secret name.home birth)))
