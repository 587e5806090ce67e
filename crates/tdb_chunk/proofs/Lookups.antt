-- What a lookup in a tree says of the pieces that a device showed for it.
use Rattle.std.proofs.Common.{◌≡◌, ◌⊎◌, inl, inr, ℕ, suc, ◌/◌, ◌^◌, List, [], ◌∷◌, ◌++◌, IsTrue, Option, None, refl, sym, ◌∙◌, ap, subst}
use Rattle.std.proofs.lemmas.List.{append_cancel_left}
use Rattle.std.specs.List.{AllByRecursion}
use Rattle.sha2.specs.Sha256.{sha256}
use Rattle.tdb_base.specs.declared.piece.Damage.{Damage}
use Rattle.tdb_base.specs.declared.piece.Piece.{Piece}
use Rattle.tdb_base.specs.declared.piece.Place.{Place}
use Rattle.tdb_base.specs.Trace.{ReadPiece}
use Rattle.tdb_map.specs.Nodes.{IsUnfit}
use Rattle.tdb_map.specs.Shown.{AsksOneOf, EachShown, IsShownLast, ShowsOneOf}
use Rattle.tdb_map.specs.Tree.{HasAt, IsOnWay, IsOnWayTo}
use Rattle.tdb_map.specs.TreeCause.{IsTreeCause}
use Rattle.tdb_map.specs.declared.pieces.PieceError.{PieceError}
use Rattle.tdb_map.specs.declared.pieces.PieceError.TheVariants.{Form, Tampered}
use Rattle.tdb_map.specs.declared.tree.Tree.{Tree}
use Rattle.tdb_map.proofs.TreeLemmas.{none_at}
use Rattle.tdb_platform.specs.Outside.{Outside}
use Rattle.tdb_overlay.specs.Images.{StandsIn}
use Rattle.tdb_overlay.specs.Placement.{LiesBelow}
use Rattle.tdb_overlay.specs.Reading.{ReadsImage, held, shown_of}
use Rattle.tdb_overlay.specs.Trees.{map_height}
use Rattle.tdb_overlay.proofs.ReadingLaws.{shows_held}
use Rattle.tdb_chunk.specs.Finding.{IsAbove, IsDamageAbove, IsStrayAbove, IsUnfitAbove, nodes_read}

-- the nodes above a rank were asked for, and shown with their digests
abbrev pub AsksAbove : Outside → Outside → Tree → ℕ → Type 0
AsksAbove old new tree rank =
    EachShown (shown_of old) (shown_of new) (AsksOneOf (IsOnWayTo (nodes_read new tree) (λ r. r ≡ rank) map_height 0 tree.root))

abbrev pub ShowsAbove : Outside → Outside → Tree → ℕ → Type 0
ShowsAbove old new tree rank =
    EachShown (shown_of old) (shown_of new) (ShowsOneOf (IsOnWayTo (nodes_read new tree) (λ r. r ≡ rank) map_height 0 tree.root))

-- why the tree couldn't be gone through, on a device with so many segments
abbrev pub IsCauseAbove : Outside → Outside → ℕ → Tree → ℕ → PieceError → Type 0
IsCauseAbove old new segments tree rank error = IsTreeCause (shown_of old) (shown_of new) (λ piece. LiesBelow segments piece → ⊥)
    (nodes_read new tree) tree (λ r. r ≡ rank) map_height 0 tree.root error

-- a read of a whole piece that stands shows bytes with its digest
stands_shown : (image : List ℕ) (piece : Piece) (bytes : List ℕ) → bytes ≡ held image piece.place.0 piece.length → StandsIn image piece
    → sha256 bytes ≡ piece.digest.0
stands_shown image piece bytes is stands =
    let same : held image piece.place.0 piece.length ≡ stands.bytes =
    ap (λ (n : ℕ). held image piece.place.0 n) (sym stands.size) ∙ shows_held image piece.place.0 stands.bytes stands.holds in
    ap sha256 (is ∙ same) ∙ stands.digest

-- the last of the reads of which each has Q
last_of : (Q : ReadPiece → Type 0) (before : List ReadPiece) (r : ReadPiece) → AllByRecursion Q (before ++ r ∷ []) → Q r
last_of Q [] r all = all.0
last_of Q (x ∷ before) r all = last_of Q before r all.1

-- what an honest device showed last is what its image had there
showed_last : (old new : Outside) (piece : Piece) (bytes : List ℕ) → ReadsImage old new → IsShownLast (shown_of old) (shown_of new) piece bytes
    → IsTrue old.honest → IsTrue old.tells → bytes ≡ held old.image piece.place.0 piece.length
showed_last old new piece bytes image last honest tells =
    let r : ReadPiece = record { bytes = bytes; place = piece.place.0; call = last.call; asked = piece.length } in
    let reads = image honest tells in
    let more : reads.0.more ≡ last.before ++ r ∷ [] = append_cancel_left old.trace.read reads.0.more (last.before ++ r ∷ []) (sym reads.0.read ∙ last.is) in
    last_of (λ x. x.bytes ≡ held old.image x.place x.asked) last.before r
    (subst (λ (l : List ReadPiece). AllByRecursion (λ x. x.bytes ≡ held old.image x.place x.asked) l) more reads.1)

module _ (old new : Outside) (segments : ℕ) (tree : Tree) (rank : ℕ) where
  node_is : (r level : ℕ) (piece : Piece) → r ≡ rank → r / 64 ^ map_height ≡ 0 → IsOnWay (nodes_read new tree) map_height 0 tree.root r level piece
      → IsAbove new tree rank level piece
  node_is r level piece same within on_way = record {
    inside = subst (λ (n : ℕ). n / 64 ^ map_height ≡ 0) same within;
    on_way = subst (λ (n : ℕ). IsOnWay (nodes_read new tree) map_height 0 tree.root n level piece) same on_way;
  }

  -- damage was told of a node
  pub damage_above : ReadsImage old new → (damage : Damage) → IsCauseAbove old new segments tree rank (Tampered damage)
      → IsDamageAbove old new tree rank damage
  damage_above image damage (inl memory) = absurd (cc memory)
  damage_above image damage (inr b) =
      let (bytes, place, expected, found, differs, last) = b.cause in
      record {
        level = b.level;
        piece = b.piece;
        above = node_is b.rank b.level b.piece b.is_wanted b.within b.on_way;
        damage_is = record {
          place = place;
          expected = expected;
          read = λ tells.
              let l = last tells in
              let r : ReadPiece = record { bytes = bytes; place = b.piece.place.0; call = l.call; asked = b.piece.length } in (
                record { more = l.before ++ r ∷ []; read = l.is },
                record {
                  earlier = l.before;
                  last = r;
                  later = [];
                  in_order = refl;
                  of_piece = (refl, refl);
                  no_later = tt;
                  digest = sym found;
                  differs = λ same. differs (sym found ∙ same);
                },
              );
        };
        hidden = λ honest tells stands.
            differs (stands_shown old.image b.piece bytes (showed_last old new b.piece bytes image (last tells) honest tells) stands);
      }

  -- a node doesn't fit
  pub form_above : (place : Place) → IsCauseAbove old new segments tree rank (Form place)
      → IsUnfitAbove old new tree rank place ⊎ IsStrayAbove new segments tree rank place
  form_above place (inl memory) = absurd (cc memory)
  form_above place (inr b) = elim b.cause.1 [
    | inl strays ↦ inr (record {
      piece = b.piece;
      on_way = inl (b.level, node_is b.rank b.level b.piece b.is_wanted b.within b.on_way);
      at_place = b.cause.0;
      strays = strays;
    })
    | inr shown ↦ inl (record {
      level = b.level;
      piece = b.piece;
      above = node_is b.rank b.level b.piece b.is_wanted b.within b.on_way;
      at_place = b.cause.0;
      shown = λ tells.
          let l = shown.3 tells in
          let r : ReadPiece = record { bytes = shown.0; place = b.piece.place.0; call = l.call; asked = b.piece.length } in (
            record { more = l.before ++ r ∷ []; read = l.is },
            record {
              earlier = l.before;
              one = r;
              later = [];
              in_order = refl;
              of_piece = (refl, refl);
              digest = shown.1;
              holds = subst (λ (n : ℕ). IsUnfit tree b.level (n / 64 ^ suc b.level) shown.0) b.is_wanted shown.2;
            },
          );
    })
  ]

-- a tree without a root has nothing at a rank
pub rootless : (o : Outside) (tree : Tree) (rank : ℕ) → tree.root ≡ None → HasAt (nodes_read o tree) map_height tree.root rank None
rootless o tree rank none = subst (λ (root : Option Piece). HasAt (nodes_read o tree) map_height root rank None) (sym none)
    (record { at = λ below. none_at (nodes_read o tree) map_height 0 rank; above = λ above. refl })
