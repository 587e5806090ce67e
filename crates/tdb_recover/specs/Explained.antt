-- What the errors of opening a log say.
use Rattle.tdb_base.specs.declared.piece.Piece.{Piece}
use Rattle.tdb_map.specs.declared.pieces.PieceError.{PieceError}
use Rattle.tdb_map.specs.declared.pieces.PieceError as pieces
use Rattle.tdb_platform.specs.Outside.{Outside, Rose}
use Rattle.tdb_overlay.specs.declared.fetching.FetchError.{FetchError}
use Rattle.tdb_overlay.specs.declared.fetching.FetchError as fetching
use Rattle.tdb_recover.specs.declared.error.OpenError.{OpenError}
use Rattle.tdb_recover.specs.declared.error.OpenError.TheVariants.{Unformatted, Tampered, Form, Fault, Memory}
use Rattle.tdb_recover.specs.Damaged.{IsDamageOf}

-- what an error of reading a piece is called here
abbrev pub open_error_of : FetchError → OpenError
open_error_of (fetching.TheVariants.Tampered damage) = Tampered damage
open_error_of fetching.TheVariants.Fault = Fault
open_error_of fetching.TheVariants.Memory = Memory

-- and one of reading a node of the roster
abbrev pub open_error_of_piece : PieceError → OpenError
open_error_of_piece (pieces.TheVariants.Tampered damage) = Tampered damage
open_error_of_piece (pieces.TheVariants.Form place) = Form place
open_error_of_piece pieces.TheVariants.Fault = Fault
open_error_of_piece pieces.TheVariants.Memory = Memory

-- An error in the course of opening comes of the platform only where its faults rose. That there is no log is said before.
abbrev pub IsCaused : Outside → Outside → OpenError → Type 0
IsCaused old new Unformatted = ⊥
IsCaused old new (Tampered damage) = Unit {0}
IsCaused old new (Form place) = Unit {0}
IsCaused old new Fault = Rose old.faults new.faults
IsCaused old new Memory = Unit {0}

-- An error where the log is well formed: damage is told only of a piece that is needed, and every piece fits.
abbrev pub IsExplained : Outside → Outside → (Piece → Type 0) → OpenError → Type 0
IsExplained old new needed Unformatted = ⊥
IsExplained old new needed (Tampered damage) = IsDamageOf old new needed damage
IsExplained old new needed (Form place) = ⊥
IsExplained old new needed Fault = Unit {0}
IsExplained old new needed Memory = Unit {0}
