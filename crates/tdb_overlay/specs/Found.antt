-- Stores, and the bytes that their pieces stand for.
use Rattle.std.specs.Prelude.{◌≡◌, ℕ, List, Some, length}
use Rattle.tdb_base.specs.declared.piece.Piece.{Piece}
use Rattle.tdb_base.specs.declared.suite.Suite.{Suite}
use Rattle.tdb_base.specs.Trace.{WrittenPiece}
use Rattle.tdb_mark.specs.declared.commit.Commit.{Commit}
use Rattle.tdb_mark.specs.TextOfDigest.{text_of_digest}

-- A store, by its secret and by what all its texts share: the suite of the records that are the system's.
pub record Store : Type 0 where
  pub secret : List ℕ
  pub suite : Suite

-- the store of a secret in a suite
abbrev pub store_under : List ℕ → Suite → Store
store_under secret suite = record { secret = secret; suite = suite }

-- the store that a text under a secret says
abbrev pub store_of_text : List ℕ → Commit → Store
store_of_text secret c = record { secret = secret; suite = c.suite }

-- which bytes a piece stands for
abbrev pub Finds : Type 1
Finds = Piece → List ℕ → Type 0

-- what one finding finds, another one finds too
abbrev pub Finer : Finds → Finds → Type 0
Finer f g = (piece : Piece) (bytes : List ℕ) → f piece bytes → g piece bytes

-- a piece stands for one list of bytes at most
abbrev pub FindsOne : Finds → Type 0
FindsOne f = (piece : Piece) (x y : List ℕ) → f piece x → f piece y → x ≡ y

-- In a trace those of the first written piece that has its digest. The piece says how many they are.
abbrev pub in_trace : List WrittenPiece → Finds
in_trace written piece bytes = (text_of_digest written piece.digest.0 ≡ Some bytes) × (piece.length ≡ length bytes)
