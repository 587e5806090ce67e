-- What is taken for granted of SHA-256 and of the tags: no collision, and no forgery.
use Rattle.std.specs.Prelude.{◌≡◌, ◌⊎◌, ℕ, ◌*◌, ◌<◌, List, [], ◌∷◌, Option, IsSome}
use Rattle.sha2.specs.Sha256.{sha256}
use Rattle.tdb_base.specs.Trace.{WrittenPiece, ReadPiece, Trace}
use Rattle.tdb_mark.specs.declared.commit.Commit.{Commit}

-- these bytes were handed to a write
abbrev pub WasWritten : List WrittenPiece → List ℕ → Type 0
WasWritten [] p = ⊥
WasWritten (w ∷ ws) p = (w.bytes ≡ p) ⊎ WasWritten ws p

-- a read gave these bytes
abbrev pub WasRead : List ReadPiece → List ℕ → Type 0
WasRead [] p = ⊥
WasRead (r ∷ rs) p = (r.bytes ≡ p) ⊎ WasRead rs p

-- these bytes are a piece of the trace
abbrev pub IsPieceOf : Trace → List ℕ → Type 0
IsPieceOf t p = WasWritten t.written p ⊎ WasRead t.read p

-- a write before this call was handed these bytes
abbrev pub WrittenBefore : List WrittenPiece → ℕ → List ℕ → Type 0
WrittenBefore [] call p = ⊥
WrittenBefore (w ∷ ws) call p = ((w.bytes ≡ p) × (w.call < call)) ⊎ WrittenBefore ws call p

-- each piece that was read has this
abbrev pub EachRead : (ReadPiece → Type 0) → List ReadPiece → Type 0
EachRead P [] = Unit {0}
EachRead P (r ∷ rs) = P r × EachRead P rs

-- the place of one of the 1,024 slots for commit texts
abbrev pub IsSlot : ℕ → Type 0
IsSlot at = (k : ℕ) × (k < 1024) × (at ≡ 256 * k)

-- No two different pieces have one digest. A piece that was read at a slot's place, 256 bytes being
-- asked, and that the grammar accepts was written by an earlier call.
pub record IsUnforged (t : Trace) (grammar : List ℕ → Option Commit) : Type 0 where
  pub no_collision : (p q : List ℕ) → IsPieceOf t p → IsPieceOf t q → sha256 p ≡ sha256 q → p ≡ q
  pub slots : EachRead (λ r. IsSlot r.place → r.asked ≡ 256 → IsSome (grammar r.bytes) → WrittenBefore t.written r.call r.bytes) t.read
