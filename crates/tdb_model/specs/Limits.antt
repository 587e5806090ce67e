-- The greatest numbers of everything.
use Rattle.std.specs.Prelude.{ℕ}

-- partitions are 1 to 4,095
abbrev pub partition_limit : ℕ
partition_limit = 4095

-- ranks are 0 to 262,143
abbrev pub rank_limit : ℕ
rank_limit = 262144

-- a chunk has at most 65,536 bytes
abbrev pub chunk_limit : ℕ
chunk_limit = 65536

-- a commit has at most 1,024 changes
abbrev pub change_limit : ℕ
change_limit = 1024

-- counts are 0 to 18,446,744,073,709,551,615
abbrev pub count_limit : ℕ
count_limit = 18446744073709551615
