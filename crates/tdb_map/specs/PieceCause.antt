-- Why a piece wasn't had.
use Rattle.std.specs.Prelude.{◌≡◌, ◌⊎◌, ℕ, IsTrue, List, Result, Err}
use Rattle.sha2.specs.Sha256.{sha256}
use Rattle.tdb_base.specs.Rose.{Rose}
use Rattle.tdb_base.specs.declared.piece.Damage.{Damage}
use Rattle.tdb_base.specs.declared.piece.Piece.{Piece}
use Rattle.tdb_map.specs.declared.pieces.PieceError.{PieceError}
use Rattle.tdb_map.specs.declared.pieces.PieceError.TheVariants.{Tampered, Form, Fault, Memory}
use Rattle.tdb_map.specs.Shown.{Shown, IsShownLast}

-- Damage: bytes were shown that have another digest. Form: the piece doesn't fit the other pieces, or bytes were shown that have its
-- digest and are unfit. A fault: the count of faults rose.
abbrev pub IsPieceCause : Shown → Shown → Type 0 → (List ℕ → Type 0) → Piece → PieceError → Type 0
IsPieceCause old new misfits unfit piece (Tampered damage) =
    (bytes : List ℕ) × (damage.place ≡ piece.place) × (damage.expected ≡ piece.digest) × (damage.found.0 ≡ sha256 bytes)
    × (sha256 bytes ≡ piece.digest.0 → ⊥) × (IsTrue old.tells → IsShownLast old new piece bytes)
IsPieceCause old new misfits unfit piece (Form place) =
    (place ≡ piece.place) × (misfits ⊎ ((bytes : List ℕ) × (sha256 bytes ≡ piece.digest.0) × unfit bytes
    × (IsTrue old.tells → IsShownLast old new piece bytes)))
IsPieceCause old new misfits unfit piece Fault = Rose old.faults new.faults
IsPieceCause old new misfits unfit piece Memory = Unit {0}

-- no damage was told
abbrev pub IsUndamaged : {T : Type 0} → Result T PieceError → Type 0
IsUndamaged result = (damage : Damage) → result ≡ Err (Tampered damage) → ⊥
