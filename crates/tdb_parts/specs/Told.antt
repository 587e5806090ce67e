-- Where two trees differ, and what is told of it.
use Rattle.std.specs.Prelude.{◌≡◌, ◌≢◌, ◌⊎◌, ℕ, ◌+◌, ◌*◌, ◌/◌, ◌^◌, ◌<◌, ◌≤◌, nat_eq, List, [], ◌∷◌, ◌++◌, Option, Some, None}
use Rattle.std.specs.Map.{lookup}
use Rattle.sha2.specs.Sha256.{sha256}
use Rattle.tdb_base.specs.declared.names.Rank.{Rank}
use Rattle.tdb_base.specs.declared.piece.Piece.{Piece}
use Rattle.tdb_map.specs.Nodes.{IsOneText, Texts, nodes_of}
use Rattle.tdb_map.specs.Tree.{IsAt, IsOnWay, digit, entry}
use Rattle.tdb_map.specs.declared.tree.Tree.{Tree}
use Rattle.tdb_model.specs.HasCompared.{side_of}
use Rattle.tdb_model.specs.declared.change.Side.{Side}
use Rattle.tdb_model.specs.declared.change.Side.TheVariants.{Here, Gone}
use Rattle.tdb_parts.specs.Chunk.{IsChunk}

abbrev pub Differences : Type 0
Differences = List (Rank × Side)

-- what a list of differences has at a rank
abbrev pub told : Differences → ℕ → Option Side
told found rank = lookup (λ r. nat_eq rank r.0) found

-- The ranks ascend, from the first one on and before the last.
abbrev pub Ascends : ℕ → ℕ → Differences → Type 0
Ascends from to [] = from ≤ to
Ascends from to (d ∷ ds) = (from ≤ d.0.0) × Ascends (d.0.0 + 1) to ds

-- the records of two trees are under one key, suite and home
pub record IsOneKey (a b : Tree) : Type 0 where
  pub key : a.key ≡ b.key
  pub suite : a.suite ≡ b.suite
  pub home : a.home ≡ b.home

-- Two roots stand for the same, whatever that is: neither is there, or both have one digest, under one key.
abbrev pub IsShared : Tree → Tree → Option Piece → Option Piece → Type 0
IsShared a b None None = Unit {0}
IsShared a b (Some one) (Some other) = IsOneKey a b × (one.digest ≡ other.digest)
IsShared a b None (Some other) = ⊥
IsShared a b (Some one) None = ⊥

-- Both records are read and have the same bytes, or other bytes.
pub record HaveSameBytes (texts : Texts) (a b : Tree) (rank : ℕ) (one other : Piece) : Type 0 where
  pub bytes : List ℕ
  pub first : IsChunk texts a rank one bytes
  pub second : IsChunk texts b rank other bytes

pub record HaveOtherBytes (texts : Texts) (a b : Tree) (rank : ℕ) (one other : Piece) : Type 0 where
  pub first_bytes : List ℕ
  pub second_bytes : List ℕ
  pub first : IsChunk texts a rank one first_bytes
  pub second : IsChunk texts b rank other second_bytes
  pub differ : first_bytes ≢ second_bytes

-- What is told of the leaves at a rank. Two records under one key differ where their digests do.
abbrev pub IsLeafTold : Texts → Tree → Tree → ℕ → Option Piece → Option Piece → Option Side → Type 0
IsLeafTold texts a b rank None None side = side ≡ None
IsLeafTold texts a b rank (Some one) None side = side ≡ Some Gone
IsLeafTold texts a b rank None (Some other) side = side ≡ Some Here
IsLeafTold texts a b rank (Some one) (Some other) side =
    ((side ≡ None) × ((IsOneKey a b × (one.digest ≡ other.digest)) ⊎ HaveSameBytes texts a b rank one other))
    ⊎ ((side ≡ Some Here) × ((IsOneKey a b × (one.digest ≢ other.digest)) ⊎ HaveOtherBytes texts a b rank one other))

-- The trees share a node on the way to the rank.
pub record ShareNode (texts : Texts) (a b : Tree) (height number : ℕ) (in_a in_b : Option Piece) (rank : ℕ) : Type 0 where
  pub level : ℕ
  pub one : Piece
  pub other : Piece
  pub way_a : IsOnWay (nodes_of texts a) height number in_a rank level one
  pub way_b : IsOnWay (nodes_of texts b) height number in_b rank level other
  pub one_key : IsOneKey a b
  pub digest : one.digest ≡ other.digest

-- Both trees have leaves there, or none, of which this is told.
pub record HaveLeaves (texts : Texts) (a b : Tree) (height number : ℕ) (in_a in_b : Option Piece) (rank : ℕ)
    (side : Option Side) : Type 0 where
  pub leaf_a : Option Piece
  pub leaf_b : Option Piece
  pub at_a : IsAt (nodes_of texts a) height number in_a rank leaf_a
  pub at_b : IsAt (nodes_of texts b) height number in_b rank leaf_b
  pub leaf_told : IsLeafTold texts a b rank leaf_a leaf_b side

-- What is told of two trees of a height with a number at a rank: nothing where they share a node on the way, else what their leaves say.
abbrev pub IsTold : Texts → Tree → Tree → (height number : ℕ) (in_a in_b : Option Piece) → ℕ → Option Side → Type 0
IsTold texts a b height number in_a in_b rank side =
    (ShareNode texts a b height number in_a in_b rank × (side ≡ None)) ⊎ HaveLeaves texts a b height number in_a in_b rank side

-- What a digest leads to is the one text that has the digest.
pub record AreDigests (texts : Texts) : Type 0 where
  pub one : IsOneText texts
  pub digest : (digest bytes : List ℕ) → texts digest bytes → sha256 bytes ≡ digest

-- What is told of the chunks, or none, that two maps have at a rank.
pub record IsDifference (one other : Option (List ℕ)) (side : Option Side) : Type 0 where
  pub same : one ≡ other → side ≡ None
  pub differ : one ≢ other → side ≡ Some (side_of other)

-- The list is the old one with the differences of two trees of a height with a number behind it.
pub record HasTold (texts : Texts) (a b : Tree) (height number : ℕ) (in_a in_b : Option Piece) (old new : Differences) : Type 0 where
  pub more : Differences
  pub is : new ≡ old ++ more
  pub ascends : Ascends (number * 64 ^ height) ((number + 1) * 64 ^ height) more
  pub at : (rank : ℕ) → rank / 64 ^ height ≡ number → IsTold texts a b height number in_a in_b rank (told more rank)

-- The list is the old one with the differences of the first trees below two nodes behind it.
-- The trees have numbers from one up to one before another.
pub record HasToldSome (texts : Texts) (a b : Tree) (height from to : ℕ) (node_a node_b : List (Option Piece))
    (old new : Differences) : Type 0 where
  pub more : Differences
  pub is : new ≡ old ++ more
  pub ascends : Ascends (from * 64 ^ height) (to * 64 ^ height) more
  pub at : (rank : ℕ) → from ≤ rank / 64 ^ height → rank / 64 ^ height < to
      → IsTold texts a b height (rank / 64 ^ height) (entry node_a (digit height rank)) (entry node_b (digit height rank)) rank
      (told more rank)
