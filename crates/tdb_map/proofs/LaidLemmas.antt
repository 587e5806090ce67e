-- What is said of the records that were laid, put together step by step.
use Rattle.std.proofs.Common.{◌≡◌, ℕ, suc, ◌+◌, ◌-◌, ◌*◌, ◌/◌, ◌^◌, ◌<◌, ◌≤◌, List, [], ◌∷◌, ◌++◌, map, length, append_assoc, append-nil, Option, Some, None, Result, Ok, refl, ap, sym, subst, ◌∙◌, arith}
use Rattle.std.proofs.Math.Nat.{div-lt_iff_lt-mul, mul-le-mul_right}
use Rattle.std.proofs.lemmas.Nat.{pow-add}
use Rattle.std.proofs.lemmas.List.{map-append}
use Rattle.std.proofs.lemmas.List.Elements.{All-nil, All-cons, All-append, All-weaker}
use Rattle.sha2.specs.Sha256.{sha256}
use Rattle.tdb_base.specs.declared.piece.Piece.{Piece}
use Rattle.tdb_base.specs.declared.piece.Place.{Place}
use Rattle.tdb_base.specs.declared.piece.NoRoom.{NoRoom}
use Rattle.tdb_base.specs.Segment.{LiesInOneSegment}
use Rattle.tdb_node.proofs.NodeSpelling.{length-node}
use Rattle.tdb_seal.specs.SealedRecord.{body_length}
use Rattle.tdb_seal.proofs.RecordSpelling.{length-sealed_record}
use Rattle.tdb_seg.specs.SegmentSpace.{SegmentSpace, place_in, fits}
use Rattle.tdb_seg.proofs.PlacingLaws.{fits-append, fits_after, prepended, fits-more}
use Rattle.tdb_map.specs.declared.tree.Tree.{Tree}
use Rattle.tdb_map.specs.Nodes.{IsNodeRecord, node_name}
use Rattle.tdb_map.specs.Edits.{Edits, HasEdit, edit_at}
use Rattle.tdb_map.specs.Laid.{LaidRecord, LaysRecords, LaysNodes, IsLaidNode, IsEditedNode, node_record_length}
use Rattle.tdb_map.specs.Updated.{EditsFit}
use Rattle.tdb_map.proofs.NumberLemmas.{width}

-- the record of each node of a tree has one length
pub node_record_long : (tree : Tree) (level number : ℕ) (node : List (Option Piece)) (bytes : List ℕ) → IsNodeRecord tree level number node bytes → length bytes ≡ node_record_length tree
node_record_long tree level number node bytes is =
    length-sealed_record tree.key.0 (node_name tree level number) is.plain bytes is.sealed
    ∙ ap (λ (n : ℕ). 48 + body_length tree.suite n) (length-node node is.plain is.spelled)

-- the lengths of records that were laid, and their places
abbrev lengths : List LaidRecord → List ℕ
lengths laid = map (λ one. length one.1) laid

abbrev places : List LaidRecord → List Place
places laid = map (λ one. one.0.place) laid

-- nothing was laid
pub records_none : (such : LaidRecord → Type 0) (laid : List LaidRecord) (space : SegmentSpace) → LaysRecords such laid laid space space
unfolding fits
records_none such laid space = record { added = []; is = sym (append-nil laid); each = All-nil such; placed = refl }

pub records_same : (such : LaidRecord → Type 0) (old new : List LaidRecord) (before after : SegmentSpace) → new ≡ old → after ≡ before → LaysRecords such old new before after
records_same such old new before after laid space =
    subst (λ (l : List LaidRecord). LaysRecords such old l before after) (sym laid) (subst (λ (s : SegmentSpace). LaysRecords such old old before s) (sym space) (records_none such old before))

pub records_one : (such : LaidRecord → Type 0) (piece : Piece) (bytes : List ℕ) (old new : List LaidRecord) (before after : SegmentSpace) → such (piece, bytes)
    → new ≡ old ++ (piece, bytes) ∷ [] → place_in before (length bytes) 0 ≡ Ok (piece.place, after) → LaysRecords such old new before after
unfolding fits
records_one such piece bytes old new before after is_such is placed = record {
  added = (piece, bytes) ∷ [];
  is = is;
  each = All-cons such (piece, bytes) [] is_such (All-nil such);
  placed = fits-more before [] 0 (length bytes) [] before after piece.place refl placed;
}

pub records_then : (such : LaidRecord → Type 0) (old mid new : List LaidRecord) (before between after : SegmentSpace)
    → LaysRecords such old mid before between → LaysRecords such mid new between after → LaysRecords such old new before after
records_then such old mid new before between after f g = record {
  added = f.added ++ g.added;
  is = g.is ∙ ap (λ (x : List LaidRecord). x ++ g.added) f.is ∙ append_assoc old f.added g.added;
  each = All-append such f.added g.added f.each g.each;
  placed =
      ap (λ (ns : List ℕ). fits before ns 0) (map-append (λ (one : LaidRecord). length one.1) f.added g.added)
      ∙ fits-append before (lengths f.added) (lengths g.added) 0
      ∙ ap (λ (o : Result (List Place × SegmentSpace) NoRoom). fits_after o (lengths g.added) 0) f.placed
      ∙ ap (λ (o : Result (List Place × SegmentSpace) NoRoom). prepended (places f.added) o) g.placed
      ∙ ap (λ (all : List Place). Ok (all, after)) (sym (map-append (λ (one : LaidRecord). one.0.place) f.added g.added));
}

-- such records are records of a wider kind
pub records_wider : (some more : LaidRecord → Type 0) → ((laid : LaidRecord) → some laid → more laid) → (old new : List LaidRecord) (before after : SegmentSpace)
    → LaysRecords some old new before after → LaysRecords more old new before after
records_wider some more f old new before after l = record { added = l.added; is = l.is; each = All-weaker some more f l.added l.each; placed = l.placed }

-- the record of one node was laid
pub nodes_one : (tree : Tree) (level number : ℕ) (node : List (Option Piece)) (piece : Piece) (bytes : List ℕ) (old new : List LaidRecord) (before after : SegmentSpace)
    → IsNodeRecord tree level number node bytes → new ≡ old ++ (piece, bytes) ∷ [] → piece.length ≡ length bytes → piece.digest.0 ≡ sha256 bytes → LiesInOneSegment piece
    → place_in before (length bytes) 0 ≡ Ok (piece.place, after) → LaysNodes tree (λ l n. (l ≡ level) × (n ≡ number)) old new before after
nodes_one tree level number node piece bytes old new before after sealed is size digest lies placed =
    records_one (IsLaidNode tree (λ l n. (l ≡ level) × (n ≡ number))) piece bytes old new before after (record {
      level = level;
      number = number;
      node = node;
      is_meant = (refl, refl);
      sealed = sealed;
      long = node_record_long tree level number node bytes sealed;
      size = size;
      digest = digest;
      lies = lies;
    }) is placed

pub nodes_wider : (tree : Tree) (some more : ℕ → ℕ → Type 0) → ((level number : ℕ) → some level number → more level number) → (old new : List LaidRecord) (before after : SegmentSpace)
    → LaysNodes tree some old new before after → LaysNodes tree more old new before after
nodes_wider tree some more f old new before after l =
    records_wider (IsLaidNode tree some) (IsLaidNode tree more) (λ laid is. record {
      level = is.level;
      number = is.number;
      node = is.node;
      is_meant = f is.level is.number is.is_meant;
      sealed = is.sealed;
      long = is.long;
      size = is.size;
      digest = is.digest;
      lies = is.lies;
    }) old new before after l

-- a node below a root of the height, on the way to a rank that has an edit
abbrev pub IsBelow : ℕ → Edits → ℕ → ℕ → Type 0
IsBelow height edits level number = (level < height) × HasEdit (suc level) number edits

-- What was laid below the entries so far, and then below one more.
pub nodes_child : (tree : Tree) (edits : Edits) (height below : ℕ) (old mid new : List LaidRecord) (before between after : SegmentSpace) → height ≡ suc below
    → LaysNodes tree (IsBelow height edits) old mid before between → LaysNodes tree (IsBelow below edits) mid new between after → LaysNodes tree (IsBelow height edits) old new before after
nodes_child tree edits height below old mid new before between after is f g =
    records_then (IsLaidNode tree (IsBelow height edits)) old mid new before between after f
    (nodes_wider tree (IsBelow below edits) (IsBelow height edits) (λ level number h. (omega (arith, is, h.0), h.1)) mid new between after g)

-- What was laid below all of the entries, and then the node of the root.
pub nodes_node : (tree : Tree) (edits : Edits) (height below number : ℕ) (old mid new : List LaidRecord) (before between after : SegmentSpace) → height ≡ suc below → HasEdit height number edits
    → LaysNodes tree (IsBelow height edits) old mid before between → LaysNodes tree (λ l n. (l ≡ below) × (n ≡ number)) mid new between after → LaysNodes tree (IsBelow height edits) old new before after
nodes_node tree edits height below number old mid new before between after is some f g =
    records_then (IsLaidNode tree (IsBelow height edits)) old mid new before between after f
    (nodes_wider tree (λ l n. (l ≡ below) × (n ≡ number)) (IsBelow height edits)
    (λ l n h. (omega (arith, is, h.0), subst (λ (k : ℕ). HasEdit k n edits) (is ∙ ap suc (sym h.0)) (subst (λ (k : ℕ). HasEdit height k edits) (sym h.1) some))) mid new between after g)

-- a rank that has an edit is one of the tree
rank_fits : (height : ℕ) (edits : Edits) → EditsFit height edits → (rank : ℕ) (edit : Option (Option Piece)) → edit_at edits rank ≡ edit → (edit ≡ None → ⊥) → rank < 64 ^ height
rank_fits height edits fit rank None is some = absurd (some refl)
rank_fits height edits fit rank (Some edit) is some = fit.each rank edit is

-- the trees of the height that have a number are those that a rank of the whole tree may be in
within : (height above level number rank : ℕ) → height ≡ above + suc level → rank < 64 ^ height → rank / 64 ^ suc level ≡ number → (number + 1) * 64 ^ suc level ≤ 64 ^ height
within height above level number rank is less at =
    let whole : 64 ^ height ≡ 64 ^ above * 64 ^ suc level = ap (λ (h : ℕ). 64 ^ h) is ∙ pow-add 64 above (suc level) in
    let q : rank / 64 ^ suc level < 64 ^ above = (div-lt_iff_lt-mul {k = 64 ^ suc level} {x = rank} {y = 64 ^ above} (width (suc level))).1 (subst (λ (w : ℕ). rank < w) whole less) in
    let n : number + 1 ≤ 64 ^ above = omega (arith, q, at) in
    subst (λ (w : ℕ). (number + 1) * 64 ^ suc level ≤ w) (sym whole) (mul-le-mul_right (64 ^ suc level) n)

-- where each edit is of a rank of the tree, each node that is meant is one of the tree's
pub nodes_fit : (tree : Tree) (edits : Edits) (height : ℕ) → EditsFit height edits → (old new : List LaidRecord) (before after : SegmentSpace)
    → LaysNodes tree (IsBelow height edits) old new before after → LaysNodes tree (IsEditedNode height edits) old new before after
nodes_fit tree edits height fit old new before after l =
    nodes_wider tree (IsBelow height edits) (IsEditedNode height edits) (λ level number h. record {
      below = h.0;
      within = within height (height - suc level) level number h.1.0 (omega (arith, h.0)) (rank_fits height edits fit h.1.0 (edit_at edits h.1.0) refl h.1.2) h.1.1;
      edited = h.1;
    }) old new before after l
