-- What reads showed of a store's chunks, between two of its values.
use Rattle.std.specs.Prelude.{◌≡◌, ◌⊎◌, ◌/◌, ◌^◌, ◌∷◌, ◌++◌, ℕ, suc, List, IsTrue, Some}
use Rattle.std.specs.FinMap.{get}
use Rattle.sha2.specs.Sha256.{sha256}
use Rattle.tdb_base.specs.declared.piece.Damage.{Damage}
use Rattle.tdb_base.specs.declared.piece.Piece.{Piece}
use Rattle.tdb_base.specs.declared.piece.Place.{Place}
use Rattle.tdb_base.specs.Trace.{ReadPiece}
use Rattle.tdb_map.specs.Nodes.{IsUnfit, nodes_of}
use Rattle.tdb_map.specs.Tree.{HasAt, IsOnWay}
use Rattle.tdb_map.specs.declared.tree.Tree.{Tree}
use Rattle.tdb_platform.specs.CrashStates.{CrashStates}
use Rattle.tdb_platform.specs.Outside.{Outside}
use Rattle.tdb_seal.specs.SealedRecord.{IsSealedRecord}
use Rattle.tdb_overlay.specs.Covering.{Covered}
use Rattle.tdb_overlay.specs.Images.{StandsIn}
use Rattle.tdb_overlay.specs.Keys.{partition_key}
use Rattle.tdb_overlay.specs.Lookup.{seen_at}
use Rattle.tdb_overlay.specs.Placement.{LiesBelow}
use Rattle.tdb_overlay.specs.Reading.{HasRead, known_texts}
use Rattle.tdb_overlay.specs.Required.{IsDamaged, IsReadOf}
use Rattle.tdb_overlay.specs.Trees.{map_height, tree_of}
use Rattle.tdb_overlay.specs.declared.overlay.Seen.TheVariants.{Base, Here}
use Rattle.tdb_chunk.specs.Standing.{StoreGoes}
use Rattle.tdb_chunk.specs.StoreView.{StoreView, head_in}

-- what holds of two values of a store that come, one after the other, between two others
abbrev pub Between : {P : Type 0} → (P → Outside) → (P → CrashStates) → StoreView P → StoreView P → (StoreView P → StoreView P → Type 0)
    → Type 0
Between {P} outside crash_states old new Q =
    (m n : StoreView P) × StoreGoes outside crash_states old m × StoreGoes outside crash_states m n × StoreGoes outside crash_states n new
    × Q m n

-- the tree that a partition had at the last checkpoint, or had the one that it copies
abbrev pub base_tree : {P : Type 0} → StoreView P → Covered → Tree
base_tree s p = tree_of s.secret p.suite p.home p.birth p.root

-- No list since the last checkpoint names the chunk: it is looked up in this partition's tree.
pub record IsByTree {P : Type 0} (s : StoreView P) (part rank : ℕ) (p : Covered) : Type 0 where
  pub is_there : get s.log.overlay part ≡ Some p
  pub unnamed : seen_at s.log.overlay part rank ≡ Base

-- the piece of a chunk's record: what the lists that the store has taken in say of the chunk, or else what its tree has, whose nodes
-- are those that reads showed with their digests
abbrev pub IsRecordOf : {P : Type 0} → Outside → StoreView P → ℕ → ℕ → Piece → Type 0
IsRecordOf o s part rank piece = (seen_at s.log.overlay part rank ≡ Here piece)
    ⊎ ((p : Covered) × IsByTree s part rank p
    × HasAt (nodes_of (known_texts o) (base_tree s p)) map_height p.root rank (Some piece))

-- a node above a chunk in its tree, of this level
pub record IsNodeAbove {P : Type 0} (o : Outside) (s : StoreView P) (part rank level : ℕ) (p : Covered) (piece : Piece) : Type 0 where
  pub by_tree : IsByTree s part rank p
  pub inside : rank / 64 ^ map_height ≡ 0
  pub on_way : IsOnWay (nodes_of (known_texts o) (base_tree s p)) map_height 0 p.root rank level piece

-- a piece on the way to a chunk: its record, or a node above it
abbrev pub IsPieceOf : {P : Type 0} → Outside → StoreView P → ℕ → ℕ → Piece → Type 0
IsPieceOf o s part rank piece =
    IsRecordOf o s part rank piece ⊎ ((level : ℕ) × ((p : Covered) × IsNodeAbove o s part rank level p piece))

-- The last of the reads of a piece on the way to a chunk gave bytes of another digest, which an honest device doesn't where the piece
-- stands. The anchor then named the store's last text.
pub record IsDamageOfChunk {P : Type 0} (outside : P → Outside) (part rank : ℕ) (damage : Damage) (old new : StoreView P) : Type 0 where
  pub piece : Piece
  pub of_chunk : IsPieceOf (outside new.platform) old part rank piece
  pub place : damage.place ≡ piece.place
  pub expected : damage.expected ≡ piece.digest
  pub read : HasRead (outside old.platform) (outside new.platform)
  pub shown : IsDamaged read.more piece damage.found.0
  pub hidden : IsTrue (outside old.platform).honest → StandsIn (outside old.platform).image piece → ⊥
  pub at_head : IsTrue (outside old.platform).tells → (outside old.platform).anchor ≡ head_in old

-- one of the reads of the whole piece gave bytes of its digest, of which this holds
pub record WasShown (reads : List ReadPiece) (piece : Piece) (Q : List ℕ → Type 0) : Type 0 where
  pub earlier : List ReadPiece
  pub one : ReadPiece
  pub later : List ReadPiece
  pub in_order : reads ≡ earlier ++ one ∷ later
  pub of_piece : IsReadOf piece one
  pub digest : sha256 one.bytes ≡ piece.digest.0
  pub holds : Q one.bytes

-- the record of a chunk was shown with its digest
pub record IsVerifiedChunk {P : Type 0} (outside : P → Outside) (part rank : ℕ) (old new : StoreView P) : Type 0 where
  pub piece : Piece
  pub of_chunk : IsRecordOf (outside new.platform) old part rank piece
  pub read : HasRead (outside old.platform) (outside new.platform)
  pub shown : WasShown read.more piece (λ bytes. Unit {0})

-- The record of a chunk was shown with its digest, and is the record of no plain text under its key and name.
pub record IsMalformedRecord {P : Type 0} (outside : P → Outside) (part rank : ℕ) (piece : Piece) (old new : StoreView P) : Type 0 where
  pub of_chunk : IsRecordOf (outside new.platform) old part rank piece
  pub partition : Covered
  pub is_there : get old.log.overlay part ≡ Some partition
  pub read : HasRead (outside old.platform) (outside new.platform)
  pub shown : WasShown read.more piece (λ bytes. (plain : List ℕ)
      → IsSealedRecord (partition_key old.secret partition.home partition.birth)
      (record { kind = 1; suite = partition.suite; home = partition.home; rank = rank }) plain bytes → ⊥)

-- A node above a chunk was shown with its digest, and is the record of no node of its level there.
pub record IsMalformedNode {P : Type 0} (outside : P → Outside) (part rank : ℕ) (piece : Piece) (old new : StoreView P) : Type 0 where
  pub level : ℕ
  pub partition : Covered
  pub above : IsNodeAbove (outside new.platform) old part rank level partition piece
  pub read : HasRead (outside old.platform) (outside new.platform)
  pub shown : WasShown read.more piece (IsUnfit (base_tree old partition) level (rank / 64 ^ suc level))

-- A piece on the way to a chunk lies outside the store's segments.
pub record IsStrayPiece {P : Type 0} (outside : P → Outside) (part rank : ℕ) (piece : Piece) (old new : StoreView P) : Type 0 where
  pub of_chunk : IsPieceOf (outside new.platform) old part rank piece
  pub strays : LiesBelow old.log.segments.segments piece → ⊥

-- A piece on the way to a chunk that stands at this place doesn't fit: so it is of its record, of a node above it, or of the place.
pub record IsMalformedChunk {P : Type 0} (outside : P → Outside) (place : Place) (old new : StoreView P) : Type 0 where
  pub part : ℕ
  pub rank : ℕ
  pub piece : Piece
  pub at_place : place ≡ piece.place
  pub why : IsMalformedRecord outside part rank piece old new ⊎ IsMalformedNode outside part rank piece old new
      ⊎ IsStrayPiece outside part rank piece old new
