-- The end of a backup's stream and its one spelling.
use Rattle.std.specs.Prelude.{ℕ, List, ◌++◌}
use Rattle.std.specs.Int.{w32, to_be_bytes}
use Rattle.tdb_base.specs.declared.piece.Digest.{Digest}

-- the number 3, and the tag
abbrev pub end_bytes : Digest → List ℕ
end_bytes tag = to_be_bytes w32 3 ++ tag.0
