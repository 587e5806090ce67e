-- What a log needs stands in the image of a device.
use Rattle.std.specs.Prelude.{◌≡◌, ℕ, List, length, IsTrue}
use Rattle.sha2.specs.Sha256.{sha256}
use Rattle.tdb_base.specs.declared.piece.Piece.{Piece}
use Rattle.tdb_base.specs.declared.suite.Suite.{Suite}
use Rattle.tdb_base.specs.Trace.{WrittenPiece}
use Rattle.tdb_model.specs.Apply.{History}
use Rattle.tdb_platform.specs.Outside.{Anchor, Outside}
use Rattle.tdb_platform.specs.CrashStates.{CrashStates, now}
use Rattle.tdb_platform.specs.Image.{Holds}
use Rattle.tdb_overlay.specs.Found.{Store}
use Rattle.tdb_overlay.specs.Log.{IsLog}
use Rattle.tdb_overlay.specs.Required.{IsRequired}
use Rattle.tdb_overlay.specs.StoreState.{StoreState}

-- bytes of the piece's digest and length stand in the image at its place
pub record StandsIn (image : List ℕ) (piece : Piece) : Type 0 where
  pub bytes : List ℕ
  pub digest : sha256 bytes ≡ piece.digest.0
  pub size : length bytes ≡ piece.length
  pub holds : Holds image piece.place.0 bytes

-- each piece that the log of the anchor needs stands in the image
abbrev pub AllStandIn : List ℕ → List WrittenPiece → Store → Anchor → Type 0
AllStandIn image written store anchor = (piece : Piece) → IsRequired written store anchor piece → StandsIn image piece

-- The image is intact for an anchor: the anchor has a log of the store, and each piece that this needs stands in the image. So it is
-- with every image at count 0, where the log has no text.
pub record IsIntactIn (image : List ℕ) (written : List WrittenPiece) (store : Store) (anchor : Anchor) : Type 0 where
  pub history : History
  pub last : StoreState
  pub log : IsLog written store anchor history last
  pub stand : AllStandIn image written store anchor

-- The device is honest, and each image that a stop may leave now is intact for the anchor that it leaves with it.
pub record IsReliable {D : Type 0} (outside : D → Outside) (crash_states : D → CrashStates) (store : Store) (p : D) : Type 0 where
  pub honest : IsTrue (outside p).honest
  pub intact : (i : List ℕ) (a : Anchor) → now outside crash_states p i a → IsIntactIn i (outside p).trace.written store a

-- the same for a log of any store of the secret
abbrev pub IsIntactUnder : List ℕ → List WrittenPiece → List ℕ → Anchor → Type 0
IsIntactUnder image written secret anchor =
    (suite : Suite) × IsIntactIn image written (record { secret = secret; suite = suite }) anchor

-- The device is honest, and each image that a stop may leave now is intact for the anchor that it leaves with it, in whatever suite.
pub record IsReliableUnder {D : Type 0} (outside : D → Outside) (crash_states : D → CrashStates) (secret : List ℕ) (p : D) : Type 0 where
  pub honest : IsTrue (outside p).honest
  pub intact : (i : List ℕ) (a : Anchor) → now outside crash_states p i a → IsIntactUnder i (outside p).trace.written secret a
