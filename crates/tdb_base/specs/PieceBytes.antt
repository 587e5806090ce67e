-- How the formats write a piece.
use Rattle.std.specs.Prelude.{◌≡◌, ℕ, ◌+◌, ◌==◌, ◌<◌, ◌^◌, List, ◌++◌, length, take, drop, replicate, Option, Some, None, if◌then◌else◌}
use Rattle.std.specs.Int.{w32, w64, from_be_bytes, to_be_bytes}
use Rattle.tdb_base.specs.declared.piece.Piece.{Piece}

-- the numbers fit their types, and the digest has 32 bytes
pub record IsPieceValue (p : Piece) : Type 0 where
  pub place : p.place.0 < 2 ^ 64
  pub size : p.length < 2 ^ 32
  pub digest : length p.digest.0 ≡ 32

-- 44 bytes: length, place and digest
abbrev pub piece_bytes : Piece → List ℕ
piece_bytes p = to_be_bytes w32 p.length ++ to_be_bytes w64 p.place.0 ++ p.digest.0

-- an entry of 48 bytes: the number 1 and a piece, or zeros where there is none
abbrev pub entry_bytes : Option Piece → List ℕ
entry_bytes None = replicate 48 0
entry_bytes (Some p) = to_be_bytes w32 1 ++ piece_bytes p

-- the piece whose 44 bytes stand at a place
abbrev pub piece_from : List ℕ → ℕ → Piece
piece_from bytes at = record {
  place = record { 0 = from_be_bytes w64 (take 8 (drop (at + 4) bytes)) };
  length = from_be_bytes w32 (take 4 (drop at bytes));
  digest = record { 0 = take 32 (drop (at + 12) bytes) };
}

-- what the entry at a place says, where its 48 bytes are an entry
abbrev pub entry_from : List ℕ → ℕ → Option Piece
entry_from bytes at = if from_be_bytes w32 (take 4 (drop at bytes)) == 1 then Some (piece_from bytes (at + 4)) else None
