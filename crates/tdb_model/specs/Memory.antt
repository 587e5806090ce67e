-- The state that ordered maps in memory stand for.
use Rattle.std.specs.Prelude.{◌≡◌, ℕ, ◌==◌, ◌<◌, List, map, Option, Some, None, if◌then◌else◌, refl}
use Rattle.std.specs.BTreeMap.{BTreeMap}
use Rattle.std.specs.Global.{Vec}
use Rattle.std.specs.Coded.{Coded, coded_ℕ, coded_list, coded×, code_by}
use Rattle.std.specs.FinMap.{FinMap, from_entries, code}
use Rattle.std.specs.Ordering.{nat_cmp}
use Rattle.tdb_base.specs.SuiteNumber.{suite_number}
use Rattle.tdb_base.specs.declared.suite.Suite.{Suite}
use Rattle.tdb_base.specs.declared.suite.Suite.TheVariants.{Plain, Aes128, Aes256}
use Rattle.tdb_model.specs.Limits.{rank_limit}
use Rattle.tdb_model.specs.declared.change.Change.{Change}
use Rattle.tdb_model.specs.declared.change.Change.TheVariants.{Write, Free, Make, Copy, Drop}
use Rattle.tdb_model.specs.State.{State, Partition, Chunks}
use Rattle.tdb_model.specs.declared.memory.KeptPartition.{KeptPartition}

-- the finite map that an ordered map stands for, by what each value stands for
abbrev pub seen_as : {X Y : Type 0} → (X → Y) → BTreeMap ℕ X → FinMap nat_cmp Y
seen_as value m = from_entries (map (λ e. (e.0, value e.1)) m.entries)

-- a chunk is kept in a vector
abbrev pub chunk_bytes : Vec ℕ → List ℕ
chunk_bytes chunk = chunk.items

abbrev pub partition_of : KeptPartition → Partition
partition_of p = record {
  suite = p.suite;
  home = p.home;
  birth = p.birth;
  next = p.next;
  parent = p.parent;
  born = p.born;
  chunks = seen_as chunk_bytes p.chunks;
}

abbrev pub state_in : BTreeMap ℕ KeptPartition → State
state_in partitions = seen_as partition_of partitions

abbrev pub suite_of : ℕ → Suite
suite_of n = if n == 0 then Plain else (if n == 1 then Aes128 else Aes256)

pub suite_again : (suite : Suite) → suite_of (suite_number suite) ≡ suite
suite_again Plain = refl
suite_again Aes128 = refl
suite_again Aes256 = refl

abbrev pub coded_suite : Coded Suite
coded_suite = code_by ℕ coded_ℕ suite_number suite_of suite_again

abbrev pub coded_chunks : Coded Chunks
coded_chunks = code coded_ℕ (coded_list coded_ℕ)

abbrev pub coded_partition : Coded Partition
coded_partition = code_by (Suite × ((ℕ × ℕ) × ((ℕ × ℕ) × (ℕ × Chunks))))
    (coded× coded_suite (coded× (coded× coded_ℕ coded_ℕ) (coded× (coded× coded_ℕ coded_ℕ) (coded× coded_ℕ coded_chunks))))
    (λ p. (p.suite, ((p.home, p.birth), ((p.next, p.parent), (p.born, p.chunks)))))
    (λ t. record {
      suite = t.0;
      home = t.1.0.0;
      birth = t.1.0.1;
      next = t.1.1.0.0;
      parent = t.1.1.0.1;
      born = t.1.1.1.0;
      chunks = t.1.1.1.1;
    })
    (λ _. refl)

abbrev pub coded_state : Coded State
coded_state = code coded_ℕ coded_partition

-- a write is at a rank that there is
abbrev pub IsRankInRange : Change → Type 0
IsRankInRange (Write part rank bytes) = rank.0 < rank_limit
IsRankInRange (Free part rank) = Unit {0}
IsRankInRange (Make part suite) = Unit {0}
IsRankInRange (Copy from to) = Unit {0}
IsRankInRange (Drop part) = Unit {0}

-- the parent of a partition after a change that passes the check, by its parent before
abbrev pub parent_behind : Change → ℕ → Option ℕ → Option ℕ
parent_behind (Write part rank bytes) q parent = parent
parent_behind (Free part rank) q parent = parent
parent_behind (Make part suite) q parent = if part.0 == q then Some 0 else parent
parent_behind (Copy from to) q parent = if to.0 == q then Some from.0 else parent
parent_behind (Drop part) q parent = if part.0 == q then None else parent
