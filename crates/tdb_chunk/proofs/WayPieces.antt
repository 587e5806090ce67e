-- The pieces on the way to a chunk, as more is read, and in other values of the store.
use Rattle.std.proofs.Common.{◌≡◌, ◌⊎◌, inl, inr, ℕ, zero, suc, ◌+◌, ◌*◌, ◌/◌, ◌^◌, List, [], ◌∷◌, ◌++◌, Bool, IsTrue, Option, Some, append-nil, refl, ap, sym, subst, ◌∙◌}
use Rattle.std.specs.FinMap.{get}
use Rattle.std.specs.List.{AllByRecursion}
use Rattle.tdb_base.specs.Trace.{Extends, ReadPiece, Trace}
use Rattle.tdb_base.specs.declared.piece.Piece.{Piece}
use Rattle.tdb_map.specs.Nodes.{Grows, Nodes, NodesGrow, nodes_of}
use Rattle.tdb_map.specs.Shown.{AsksOneOf, EachShown, Shown, ShowsOneOf}
use Rattle.tdb_map.specs.Tree.{HasAt, IsOnWay, IsOnWayTo, digit, entry}
use Rattle.tdb_map.proofs.TreeLemmas.{has_node_later, nodes_grow}
use Rattle.tdb_mark.specs.Unforged.{WasRead}
use Rattle.tdb_platform.specs.Outside.{Outside}
use Rattle.tdb_overlay.specs.Covering.{Covered}
use Rattle.tdb_overlay.specs.Lookup.{seen_at}
use Rattle.tdb_overlay.specs.Reading.{known_texts, shown_of}
use Rattle.tdb_overlay.specs.Trees.{map_height, tree_of}
use Rattle.tdb_overlay.specs.declared.recovered.Recovered.{Recovered}
use Rattle.tdb_overlay.proofs.TreeLaws.{has_at_later}
use Rattle.tdb_chunk.specs.Reading.{HasReadWhole, HasShown}
use Rattle.tdb_chunk.specs.Shown.{IsByTree, IsNodeAbove, IsPieceOf, IsRecordOf, base_tree}
use Rattle.tdb_chunk.specs.StoreView.{StoreView}
use Rattle.tdb_chunk.proofs.FoundChunks.{IsNodeOf, TellsAs}

read_more : (reads more : List ReadPiece) (bytes : List ℕ) → WasRead reads bytes → WasRead (reads ++ more) bytes
read_more [] more bytes is = absurd is
read_more (r ∷ reads) more bytes (inl here) = inl here
read_more (r ∷ reads) more bytes (inr later) = inr (read_more reads more bytes later)

-- what is known of texts stays known
pub known_later : (old new : Outside) → new.tells ≡ old.tells → (IsTrue old.tells → Extends old.trace new.trace)
    → Grows (known_texts old) (known_texts new)
known_later old new same extends = record {
  each = λ digest bytes known. (
    known.0,
    λ tells.
        let told : IsTrue old.tells = subst (λ (b : Bool). IsTrue b) same tells in
        let grows = extends told in
        subst (λ (rs : List ReadPiece). WasRead rs bytes) (sym grows.read) (read_more old.trace.read grows.more_read bytes (known.1 told)),
  );
}

way_later : (old new : Nodes) → NodesGrow old new → (height number : ℕ) (root : Option Piece) (rank level : ℕ) (piece : Piece)
    → IsOnWay old height number root rank level piece → IsOnWay new height number root rank level piece
way_later old new grows zero number root rank level piece is = absurd is
way_later old new grows (suc height) number root rank level piece (inl here) = inl here
way_later old new grows (suc height) number root rank level piece (inr (node, has, below)) =
    inr (
      node,
      has_node_later old new grows height number root node has,
      way_later old new grows height (number * 64 + digit height rank) (entry node (digit height rank)) rank level piece below,
    )

module _ {P : Type 0} (s : StoreView P) (part rank : ℕ) where
  pub record_of : (o : Outside) (piece : Piece) → TellsAs (known_texts o) s.secret rank (get s.log.overlay part) (Some piece)
      → IsRecordOf o s part rank piece
  record_of o piece (inl listed) = inl listed
  record_of o piece (inr (c, is, base, at)) = inr (c, record { is_there = is; unnamed = base }, at)

  pub tells_of : (o : Outside) (piece : Piece) → IsRecordOf o s part rank piece
      → TellsAs (known_texts o) s.secret rank (get s.log.overlay part) (Some piece)
  tells_of o piece (inl listed) = inl listed
  tells_of o piece (inr (c, by, at)) = inr (c, by.is_there, by.unnamed, at)

  pub node_of : (o : Outside) (level : ℕ) (p : Covered) (piece : Piece) → IsNodeAbove o s part rank level p piece
      → IsNodeOf (known_texts o) s.secret rank (get s.log.overlay part) level piece
  node_of o level p piece n = (p, n.by_tree.is_there, n.by_tree.unnamed, n.inside, n.on_way)

  -- what names a node on the way to the rank
  pub node_above : (o : Outside) (p : Covered) (piece : Piece) → IsByTree s part rank p
      → IsOnWayTo (nodes_of (known_texts o) (base_tree s p)) (λ r. r ≡ rank) map_height 0 p.root piece → IsPieceOf o s part rank piece
  node_above o p piece by w = inr (
    w.level,
    (
      p,
      record {
        by_tree = by;
        inside = subst (λ (r : ℕ). r / 64 ^ map_height ≡ 0) w.is_wanted w.within;
        on_way = subst (λ (r : ℕ). IsOnWay (nodes_of (known_texts o) (base_tree s p)) map_height 0 p.root r w.level piece) w.is_wanted w.on_way;
      },
    ),
  )

  pub tells_later : (old new : Outside) → Grows (known_texts old) (known_texts new) → (leaf : Option Piece)
      → TellsAs (known_texts old) s.secret rank (get s.log.overlay part) leaf → TellsAs (known_texts new) s.secret rank (get s.log.overlay part) leaf
  tells_later old new grows leaf (inl listed) = inl listed
  tells_later old new grows leaf (inr (c, is, base, at)) =
      let tree = tree_of s.secret c.suite c.home c.birth c.root in
      inr (
        c,
        is,
        base,
        has_at_later (nodes_of (known_texts old) tree) (nodes_of (known_texts new) tree) (nodes_grow (known_texts old) (known_texts new) tree grows)
            map_height c.root rank leaf at,
      )

  -- A piece on the way stays one.
  pub piece_later : (old new : Outside) → Grows (known_texts old) (known_texts new) → (piece : Piece) → IsPieceOf old s part rank piece
      → IsPieceOf new s part rank piece
  piece_later old new grows piece (inl is) = inl (record_of new piece (tells_later old new grows (Some piece) (tells_of old piece is)))
  piece_later old new grows piece (inr (level, (p, n))) =
      let tree = base_tree s p in
      inr (
        level,
        (
          p,
          record {
            by_tree = n.by_tree;
            inside = n.inside;
            on_way = way_later (nodes_of (known_texts old) tree) (nodes_of (known_texts new) tree)
                (nodes_grow (known_texts old) (known_texts new) tree grows) map_height 0 p.root rank level piece n.on_way;
          },
        ),
      )

-- the same memory of a store
module _ {P : Type 0} (m s : StoreView P) (part rank : ℕ) (same : m.log ≡ s.log) (secret : m.secret ≡ s.secret) (o : Outside) where
  tree_in : (p : Covered) → IsByTree m part rank p → IsByTree s part rank p
  tree_in p by = record {
    is_there = ap (λ (l : Recovered). get l.overlay part) (sym same) ∙ by.is_there;
    unnamed = ap (λ (l : Recovered). seen_at l.overlay part rank) (sym same) ∙ by.unnamed;
  }

  pub record_in : (piece : Piece) → IsRecordOf o m part rank piece → IsRecordOf o s part rank piece
  record_in piece (inl listed) = inl (ap (λ (l : Recovered). seen_at l.overlay part rank) (sym same) ∙ listed)
  record_in piece (inr (p, by, at)) = inr (
    p,
    tree_in p by,
    subst (λ (k : List ℕ). HasAt (nodes_of (known_texts o) (tree_of k p.suite p.home p.birth p.root)) map_height p.root rank (Some piece)) secret at,
  )

  pub piece_in : (piece : Piece) → IsPieceOf o m part rank piece → IsPieceOf o s part rank piece
  piece_in piece (inl is) = inl (record_in piece is)
  piece_in piece (inr (level, (p, n))) = inr (
    level,
    (
      p,
      record {
        by_tree = tree_in p n.by_tree;
        inside = n.inside;
        on_way = subst (λ (k : List ℕ). IsOnWay (nodes_of (known_texts o) (tree_of k p.suite p.home p.birth p.root)) map_height 0 p.root rank level piece) secret n.on_way;
      },
    ),
  )

all_asked : (some : Piece → Type 0) (rs : List ReadPiece) → AllByRecursion (ShowsOneOf some) rs → AllByRecursion (AsksOneOf some) rs
all_asked some [] all = tt
all_asked some (r ∷ rs) all = (
  record { piece = all.0.piece; is_one = all.0.is_one; place = all.0.place; asked = all.0.asked },
  all_asked some rs all.1,
)

-- what was shown was asked for
pub shows_asked : (old new : Shown) (some : Piece → Type 0) → EachShown old new (ShowsOneOf some) → EachShown old new (AsksOneOf some)
shows_asked old new some each told = let a = each told in (a.0, a.1, all_asked some a.0 a.2)

-- one read of a piece
module _ (old new : Outside) (some : Piece → Type 0) (piece : Piece) (is : some piece) where
  pub asks_whole : (IsTrue old.tells → (new.trace ≡ old.trace) ⊎ HasReadWhole piece old new) → EachShown (shown_of old) (shown_of new) (AsksOneOf some)
  asks_whole read told = elim (read told) [
    | inl none ↦ ([], ap (λ (t : Trace). t.read) none ∙ sym (append-nil old.trace.read), tt)
    | inr one ↦ (
      _,
      ap (λ (t : Trace). t.read) one.1,
      (record { piece = piece; is_one = is; place = refl; asked = refl }, tt),
    )
  ]

  pub shows_whole : (IsTrue old.tells → (new.trace ≡ old.trace) ⊎ HasShown piece old new (λ shown. Unit {0}))
      → EachShown (shown_of old) (shown_of new) (ShowsOneOf some)
  shows_whole read told = elim (read told) [
    | inl none ↦ ([], ap (λ (t : Trace). t.read) none ∙ sym (append-nil old.trace.read), tt)
    | inr one ↦ (
      _,
      ap (λ (t : Trace). t.read) one.read,
      (record { piece = piece; is_one = is; place = refl; asked = refl; digest = one.digest }, tt),
    )
  ]
