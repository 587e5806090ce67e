-- Damage that was told, and what was read.
use Rattle.std.specs.Prelude.{ℕ, IsTrue}
use Rattle.tdb_base.specs.declared.piece.Damage.{Damage}
use Rattle.tdb_base.specs.declared.piece.Piece.{Piece}
use Rattle.tdb_platform.specs.Outside.{Outside}
use Rattle.tdb_overlay.specs.Images.{StandsIn}
use Rattle.tdb_overlay.specs.Reading.{HasRead}
use Rattle.tdb_overlay.specs.Required.{IsDamaged}

-- the piece of which damage is told, with its length
abbrev pub damaged_piece : Damage → ℕ → Piece
damaged_piece damage size = record { place = damage.place; length = size; digest = damage.expected }

-- The damage is that of a piece that is needed: of what was read between two moments, the last read of it gave bytes with
-- the digest that was found, which isn't its own.
pub record IsDamageOf (old new : Outside) (needed : Piece → Type 0) (damage : Damage) : Type 0 where
  pub size : ℕ
  pub is_needed : needed (damaged_piece damage size)
  pub read : HasRead old new
  pub shown : IsDamaged read.more (damaged_piece damage size) damage.found.0
  -- an honest device doesn't show that where the piece stands
  pub hidden : IsTrue old.honest → StandsIn old.image (damaged_piece damage size) → ⊥
