use Rattle.std.proofs.Common.{◌≡◌, ℕ, ◌+◌, ◌*◌, ◌^◌, ◌<◌, ◌++◌, length, take, get_or}
use Rattle.std.specs.List.{flat_map}
use Rattle.std.specs.Int.{w64, to_be_bytes}
use Rattle.tdb_node.proofs.table.words_of.Given as goal

abbrev pub invariant-loop-word : goal.invariant-loop-word
invariant-loop-word l = record {
  length : length l.rest + 8 * l.word-index ≡ 512;
  words : (k : ℕ) → get_or l.word-items k 0 < 2 ^ 64;
  spelled : l.bytes ≡ flat_map (to_be_bytes w64) (take l.word-index l.word-items) ++ l.rest;
}
