-- What a read of a chunk says.
use Rattle.std.specs.Prelude.{◌≡◌, ℕ, List, IsTrue}
use Rattle.sha2.specs.Sha256.{sha256}
use Rattle.tdb_base.specs.declared.piece.Damage.{Damage}
use Rattle.tdb_base.specs.declared.piece.Piece.{Piece}
use Rattle.tdb_base.specs.Trace.{with_read}
use Rattle.tdb_model.specs.declared.error.ReadError.{ReadError}
use Rattle.tdb_model.specs.declared.error.ReadError.TheVariants.{Stopped, NoPartition, NoChunk, Tampered, Form, Fault, Memory}
use Rattle.tdb_platform.specs.Outside.{Outside}
use Rattle.tdb_seal.specs.declared.record.Name.{Name}
use Rattle.tdb_overlay.specs.Reading.{HasRead}
use Rattle.tdb_overlay.specs.Required.{IsDamaged}
use Rattle.tdb_overlay.specs.declared.overlay.Leader.{Leader}

-- what the record of a chunk of a partition is called
abbrev pub name_of : Leader → ℕ → Name
name_of leader rank = record { kind = 1; suite = leader.suite; home = leader.home; rank = rank }

-- The damage is of the piece: the last of what was read of it between two moments gave bytes with another digest.
pub record IsDamageOf (piece : Piece) (old new : Outside) (damage : Damage) : Type 0 where
  pub place : damage.place ≡ piece.place
  pub expected : damage.expected ≡ piece.digest
  pub read : IsTrue old.tells → (reads : HasRead old new) × IsDamaged reads.more piece damage.found.0

-- A piece was read, once and whole, and nothing else was.
abbrev pub HasReadWhole : Piece → Outside → Outside → Type 0
HasReadWhole piece old new = (bytes : List ℕ) × (new.trace ≡ with_read old.trace piece.place.0 piece.length bytes)

-- A piece was read, once and whole, and nothing else was. It showed its digest, and bytes that have P.
pub record HasShown (piece : Piece) (old new : Outside) (P : List ℕ → Type 0) : Type 0 where
  pub bytes : List ℕ
  pub read : new.trace ≡ with_read old.trace piece.place.0 piece.length bytes
  pub digest : sha256 bytes ≡ piece.digest.0
  pub holds : P bytes

-- an answer to a read whose chunk is there
abbrev pub IsLate : ReadError → Type 0
IsLate Stopped = ⊥
IsLate NoPartition = ⊥
IsLate NoChunk = ⊥
IsLate (Tampered damage) = Unit {0}
IsLate (Form place) = Unit {0}
IsLate Fault = Unit {0}
IsLate Memory = Unit {0}
