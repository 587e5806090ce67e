-- Why an update failed.
use Rattle.std.specs.Prelude.{◌≡◌, ℕ, Err}
use Rattle.tdb_base.specs.declared.piece.NoRoom.{NoRoom}
use Rattle.tdb_seg.specs.SegmentSpace.{SegmentSpace, place_in}
use Rattle.tdb_map.specs.declared.pieces.PieceError.{PieceError}
use Rattle.tdb_map.specs.declared.pieces.PieceError.TheVariants as piece_error
use Rattle.tdb_map.specs.declared.layer.UpdateError.{UpdateError}
use Rattle.tdb_map.specs.declared.layer.UpdateError.TheVariants as errors

-- the error of an update whose piece wasn't had
abbrev pub update_error : PieceError → UpdateError
update_error (piece_error.Tampered damage) = errors.Piece (piece_error.Tampered damage)
update_error (piece_error.Form place) = errors.Piece (piece_error.Form place)
update_error piece_error.Fault = errors.Piece piece_error.Fault
update_error piece_error.Memory = errors.Memory

-- A piece wasn't had, for its cause, which isn't want of memory. The layer has no room, for its cause.
abbrev pub IsUpdateCause : (NoRoom → Type 0) → (PieceError → Type 0) → UpdateError → Type 0
IsUpdateCause full cause (errors.Piece error) = (error ≡ piece_error.Memory → ⊥) × cause error
IsUpdateCause full cause (errors.Room refusal) = full refusal
IsUpdateCause full cause errors.Memory = Unit {0}

-- The refusal needs so many bytes, and as many don't fit, with no segment kept free.
abbrev pub IsFull : SegmentSpace → ℕ → NoRoom → Type 0
IsFull space length refusal = (refusal.need ≡ length) × (place_in space refusal.need 0 ≡ Err refusal)
