-- What a batch has laid, for those who write trees.
use Rattle.std.specs.Prelude.{List, length, map}
use Rattle.sha2.specs.Sha256.{sha256}
use Rattle.tdb_append.specs.Placed.{Placed}
use Rattle.tdb_base.specs.declared.piece.Piece.{Piece}
use Rattle.tdb_map.specs.Laid.{LaidRecord}

-- the piece of bytes that have their place: by their number and their digest
abbrev pub piece_of : Placed → Piece
piece_of p = record { place = record { 0 = p.place }; length = length p.bytes; digest = record { 0 = sha256 p.bytes } }

-- each of the bytes, with its piece
abbrev pub pieces_laid : List Placed → List LaidRecord
pieces_laid = map (λ p. (piece_of p, p.bytes))
