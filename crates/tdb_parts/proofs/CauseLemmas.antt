-- Which pieces are read and why one couldn't be, put together from what is said below two nodes.
use Rattle.std.proofs.Common.{◌≡◌, ◌⊎◌, inl, inr, ℕ, zero, suc, ◌+◌, ◌*◌, ◌/◌, ◌^◌, ◌<◌, ◌≤◌, List, Option, Some, refl, ap, sym, subst, ◌∙◌, arith}
use Rattle.std.proofs.Math.Nat.{div-one, mul-le-mul_right}
use Rattle.tdb_base.specs.declared.piece.Piece.{Piece}
use Rattle.tdb_map.specs.declared.tree.Tree.{Tree}
use Rattle.tdb_map.specs.declared.pieces.PieceError.{PieceError}
use Rattle.tdb_map.specs.declared.pieces.PieceError.TheVariants.{Memory}
use Rattle.tdb_map.specs.Shown.{Shown, Shows, EachShown, AsksOneOf, ShowsOneOf}
use Rattle.tdb_map.specs.PieceCause.{IsPieceCause}
use Rattle.tdb_map.specs.Nodes.{Texts, Nodes, Grows, NodesGrow, IsUnfit, nodes_of}
use Rattle.tdb_map.specs.Tree.{IsAt, Reaches, HasNode, digit, entry, node_count}
use Rattle.tdb_map.proofs.NumberLemmas.{number_above, last_digit, number_up, first_rank, count_above}
use Rattle.tdb_map.proofs.ShownLemmas.{asks_as, shows_as, each_then, cause_earlier}
use Rattle.tdb_map.proofs.TreeLemmas.{nodes_grow, has_node_later, step_at, blocked_here, blocked_below}
use Rattle.tdb_parts.specs.ChangedCause.{IsOfEither, IsUnread, IsMapCause, IsChangedCause}
use Rattle.tdb_parts.specs.Chunk.{IsNoChunk}

-- a tree reaches its root
pub reaches_here : (nodes : Nodes) (height number : ℕ) (root : Option Piece) (piece : Piece) → root ≡ Some piece → Reaches nodes height number root piece
reaches_here nodes zero number root piece is = is
reaches_here nodes (suc height) number root piece is = inl is

reaches_below : (nodes : Nodes) (height below number d : ℕ) (root : Option Piece) (node : List (Option Piece)) (piece : Piece) → height ≡ suc below → d < 64 → HasNode nodes below number root node
    → Reaches nodes below (number * 64 + d) (entry node d) piece → Reaches nodes height number root piece
reaches_below nodes height below number d root node piece is small has reaches =
    subst (λ (h : ℕ). Reaches nodes h number root piece) (sym is) (inr (node, has, (d, small, reaches)))

reaches_later : (old new : Nodes) → NodesGrow old new → (height number : ℕ) (root : Option Piece) (piece : Piece) → Reaches old height number root piece → Reaches new height number root piece
reaches_later old new grows zero number root piece h = h
reaches_later old new grows (suc height) number root piece (inl h) = inl h
reaches_later old new grows (suc height) number root piece (inr (node, has, (d, small, below))) =
    inr (node, has_node_later old new grows height number root node has, (d, small, reaches_later old new grows height (number * 64 + d) (entry node d) piece below))

pub either_later : (old new : Texts) (a b : Tree) → Grows old new → (height number : ℕ) (in_a in_b : Option Piece) (piece : Piece) → IsOfEither old a b height number in_a in_b piece → IsOfEither new a b height number in_a in_b piece
either_later old new a b grows height number in_a in_b piece (inl h) = inl (reaches_later (nodes_of old a) (nodes_of new a) (nodes_grow old new a grows) height number in_a piece h)
either_later old new a b grows height number in_a in_b piece (inr h) = inr (reaches_later (nodes_of old b) (nodes_of new b) (nodes_grow old new b grows) height number in_b piece h)

-- two nodes, one of each of two trees
pub record AreNodes (texts : Texts) (a b : Tree) (level number : ℕ) (in_a in_b : Option Piece) (node_a node_b : List (Option Piece)) : Type 0 where
  pub of_a : HasNode (nodes_of texts a) level number in_a node_a
  pub of_b : HasNode (nodes_of texts b) level number in_b node_b

pub are_later : (old new : Texts) (a b : Tree) → Grows old new → (level number : ℕ) (in_a in_b : Option Piece) (node_a node_b : List (Option Piece)) → AreNodes old a b level number in_a in_b node_a node_b
    → AreNodes new a b level number in_a in_b node_a node_b
are_later old new a b grows level number in_a in_b node_a node_b are = record {
  of_a = has_node_later (nodes_of old a) (nodes_of new a) (nodes_grow old new a grows) level number in_a node_a are.of_a;
  of_b = has_node_later (nodes_of old b) (nodes_of new b) (nodes_grow old new b grows) level number in_b node_b are.of_b;
}

either_below : (texts : Texts) (a b : Tree) (height below number d : ℕ) (in_a in_b : Option Piece) (node_a node_b : List (Option Piece)) (piece : Piece) → height ≡ suc below → d < 64
    → AreNodes texts a b below number in_a in_b node_a node_b → IsOfEither texts a b below (number * 64 + d) (entry node_a d) (entry node_b d) piece → IsOfEither texts a b height number in_a in_b piece
either_below texts a b height below number d in_a in_b node_a node_b piece is small are (inl h) = inl (reaches_below (nodes_of texts a) height below number d in_a node_a piece is small are.of_a h)
either_below texts a b height below number d in_a in_b node_a node_b piece is small are (inr h) = inr (reaches_below (nodes_of texts b) height below number d in_b node_b piece is small are.of_b h)

-- what was asked for, and then below two entries
pub asks_below : (old mid new : Shown) (texts later : Texts) (a b : Tree) (height below number d : ℕ) (in_a in_b : Option Piece) (node_a node_b : List (Option Piece)) → mid.tells ≡ old.tells → Grows texts later → height ≡ suc below → d < 64
    → AreNodes later a b below number in_a in_b node_a node_b → EachShown old mid (AsksOneOf (IsOfEither texts a b height number in_a in_b))
    → EachShown mid new (AsksOneOf (IsOfEither later a b below (number * 64 + d) (entry node_a d) (entry node_b d))) → EachShown old new (AsksOneOf (IsOfEither later a b height number in_a in_b))
asks_below old mid new texts later a b height below number d in_a in_b node_a node_b same grows is small are first then =
    each_then old mid new (AsksOneOf (IsOfEither later a b height number in_a in_b)) same
    (asks_as old mid (IsOfEither texts a b height number in_a in_b) (IsOfEither later a b height number in_a in_b) (either_later texts later a b grows height number in_a in_b) first)
    (asks_as mid new (IsOfEither later a b below (number * 64 + d) (entry node_a d) (entry node_b d)) (IsOfEither later a b height number in_a in_b)
    (λ p. either_below later a b height below number d in_a in_b node_a node_b p is small are) then)

pub shows_below : (old mid new : Shown) (texts later : Texts) (a b : Tree) (height below number d : ℕ) (in_a in_b : Option Piece) (node_a node_b : List (Option Piece)) → mid.tells ≡ old.tells → Grows texts later → height ≡ suc below → d < 64
    → AreNodes later a b below number in_a in_b node_a node_b → EachShown old mid (ShowsOneOf (IsOfEither texts a b height number in_a in_b))
    → EachShown mid new (ShowsOneOf (IsOfEither later a b below (number * 64 + d) (entry node_a d) (entry node_b d))) → EachShown old new (ShowsOneOf (IsOfEither later a b height number in_a in_b))
shows_below old mid new texts later a b height below number d in_a in_b node_a node_b same grows is small are first then =
    each_then old mid new (ShowsOneOf (IsOfEither later a b height number in_a in_b)) same
    (shows_as old mid (IsOfEither texts a b height number in_a in_b) (IsOfEither later a b height number in_a in_b) (either_later texts later a b grows height number in_a in_b) first)
    (shows_as mid new (IsOfEither later a b below (number * 64 + d) (entry node_a d) (entry node_b d)) (IsOfEither later a b height number in_a in_b)
    (λ p. either_below later a b height below number d in_a in_b node_a node_b p is small are) then)

-- the root of the first tree was asked for, and then that of the second one
pub asks_first : (old new : Shown) (texts : Texts) (a b : Tree) (height number : ℕ) (in_a in_b : Option Piece) → EachShown old new (AsksOneOf (λ p. in_a ≡ Some p)) → EachShown old new (AsksOneOf (IsOfEither texts a b height number in_a in_b))
asks_first old new texts a b height number in_a in_b each =
    asks_as old new (λ p. in_a ≡ Some p) (IsOfEither texts a b height number in_a in_b) (λ p is. inl (reaches_here (nodes_of texts a) height number in_a p is)) each

pub asks_second : (old new : Shown) (texts : Texts) (a b : Tree) (height number : ℕ) (in_a in_b : Option Piece) → EachShown old new (AsksOneOf (λ p. in_b ≡ Some p)) → EachShown old new (AsksOneOf (IsOfEither texts a b height number in_a in_b))
asks_second old new texts a b height number in_a in_b each =
    asks_as old new (λ p. in_b ≡ Some p) (IsOfEither texts a b height number in_a in_b) (λ p is. inr (reaches_here (nodes_of texts b) height number in_b p is)) each

pub asks_both : (old mid new : Shown) (texts : Texts) (a b : Tree) (height number : ℕ) (in_a in_b : Option Piece) → mid.tells ≡ old.tells → EachShown old mid (AsksOneOf (λ p. in_a ≡ Some p)) → EachShown mid new (AsksOneOf (λ p. in_b ≡ Some p))
    → EachShown old new (AsksOneOf (IsOfEither texts a b height number in_a in_b))
asks_both old mid new texts a b height number in_a in_b same first second =
    each_then old mid new (AsksOneOf (IsOfEither texts a b height number in_a in_b)) same (asks_first old mid texts a b height number in_a in_b first) (asks_second mid new texts a b height number in_a in_b second)

pub shows_first : (old new : Shown) (texts : Texts) (a b : Tree) (height number : ℕ) (in_a in_b : Option Piece) → EachShown old new (ShowsOneOf (λ p. in_a ≡ Some p)) → EachShown old new (ShowsOneOf (IsOfEither texts a b height number in_a in_b))
shows_first old new texts a b height number in_a in_b each =
    shows_as old new (λ p. in_a ≡ Some p) (IsOfEither texts a b height number in_a in_b) (λ p is. inl (reaches_here (nodes_of texts a) height number in_a p is)) each

shows_second : (old new : Shown) (texts : Texts) (a b : Tree) (height number : ℕ) (in_a in_b : Option Piece) → EachShown old new (ShowsOneOf (λ p. in_b ≡ Some p)) → EachShown old new (ShowsOneOf (IsOfEither texts a b height number in_a in_b))
shows_second old new texts a b height number in_a in_b each =
    shows_as old new (λ p. in_b ≡ Some p) (IsOfEither texts a b height number in_a in_b) (λ p is. inr (reaches_here (nodes_of texts b) height number in_b p is)) each

pub shows_both : (old mid new : Shown) (texts : Texts) (a b : Tree) (height number : ℕ) (in_a in_b : Option Piece) → mid.tells ≡ old.tells → EachShown old mid (ShowsOneOf (λ p. in_a ≡ Some p)) → EachShown mid new (ShowsOneOf (λ p. in_b ≡ Some p))
    → EachShown old new (ShowsOneOf (IsOfEither texts a b height number in_a in_b))
shows_both old mid new texts a b height number in_a in_b same first second =
    each_then old mid new (ShowsOneOf (IsOfEither texts a b height number in_a in_b)) same (shows_first old mid texts a b height number in_a in_b first) (shows_second mid new texts a b height number in_a in_b second)

-- one piece was asked for
pub asks_one : (old new : Shown) (root : Option Piece) (piece : Piece) → root ≡ Some piece → EachShown old new (AsksOneOf (λ p. p ≡ piece)) → EachShown old new (AsksOneOf (λ p. root ≡ Some p))
asks_one old new root piece is each = asks_as old new (λ p. p ≡ piece) (λ p. root ≡ Some p) (λ p same. is ∙ ap Some (sym same)) each

pub shows_one : (old new : Shown) (root : Option Piece) (piece : Piece) → root ≡ Some piece → EachShown old new (ShowsOneOf (λ p. p ≡ piece)) → EachShown old new (ShowsOneOf (λ p. root ≡ Some p))
shows_one old new root piece is each = shows_as old new (λ p. p ≡ piece) (λ p. root ≡ Some p) (λ p same. is ∙ ap Some (sym same)) each

-- the node of a root couldn't be had
pub cause_node : (first old new : Shown) (most : ℕ) (misfits : Piece → Type 0) (texts : Texts) (tree : Tree) (level number : ℕ) (root : Option Piece) (error : PieceError) → Shows first old most
    → (error ≡ Memory) ⊎ ((piece : Piece) × (root ≡ Some piece) × IsPieceCause old new (misfits piece) (IsUnfit tree level number) piece error)
    → IsMapCause first new misfits texts tree (suc level) number root error
cause_node first old new most misfits texts tree level number root error shows (inl memory) = inl (inl memory)
cause_node first old new most misfits texts tree level number root error shows (inr (piece, is, cause)) =
    inl (inr (blocked_here first new misfits (nodes_of texts tree) tree (λ (r : ℕ). Unit {0}) (suc level) level number (number * 64 ^ suc level) root piece error refl is tt (first_rank (suc level) number)
    (cause_earlier first old new most (misfits piece) (IsUnfit tree level number) piece error shows cause)))

-- the record of a leaf couldn't be had
pub cause_leaf : (first old new : Shown) (most : ℕ) (misfits : Piece → Type 0) (texts : Texts) (tree : Tree) (rank : ℕ) (piece : Piece) (error : PieceError) → Shows first old most
    → IsPieceCause old new (misfits piece) (IsNoChunk tree rank) piece error → IsMapCause first new misfits texts tree 0 rank (Some piece) error
cause_leaf first old new most misfits texts tree rank piece error shows cause = inr (record {
  rank = rank;
  within = div-one rank;
  piece = piece;
  at = refl;
  cause = cause_earlier first old new most (misfits piece) (IsNoChunk tree rank) piece error shows cause;
})

unread_below : (first old new : Shown) (most : ℕ) (misfits : Piece → Type 0) (texts : Texts) (tree : Tree) (height below number d : ℕ) (root : Option Piece) (node : List (Option Piece)) (error : PieceError)
    → height ≡ suc below → d < 64 → Shows first old most → HasNode (nodes_of texts tree) below number root node
    → IsUnread old new misfits texts tree below (number * 64 + d) (entry node d) error → IsUnread first new misfits texts tree height number root error
unread_below first old new most misfits texts tree height below number d root node error is small shows has u =
    let at_d : digit below u.rank ≡ d = last_digit (u.rank / 64 ^ below) number d small u.within in
    let within : u.rank / 64 ^ suc below ≡ number = number_above u.rank below ∙ number_up (u.rank / 64 ^ below) number d small u.within in
    record {
      rank = u.rank;
      within = subst (λ (h : ℕ). u.rank / 64 ^ h ≡ number) (sym is) within;
      piece = u.piece;
      at = step_at (nodes_of texts tree) height below number u.rank root node (Some u.piece) is has
          (subst (λ (k : ℕ). IsAt (nodes_of texts tree) below (number * 64 + k) (entry node k) u.rank (Some u.piece)) (sym at_d) u.at);
      cause = cause_earlier first old new most (misfits u.piece) (IsNoChunk tree u.rank) u.piece error shows u.cause;
    }

map_below : (first old new : Shown) (most : ℕ) (misfits : Piece → Type 0) (texts : Texts) (tree : Tree) (height below number d : ℕ) (root : Option Piece) (node : List (Option Piece)) (error : PieceError)
    → height ≡ suc below → d < 64 → Shows first old most → HasNode (nodes_of texts tree) below number root node
    → IsMapCause old new misfits texts tree below (number * 64 + d) (entry node d) error → IsMapCause first new misfits texts tree height number root error
map_below first old new most misfits texts tree height below number d root node error is small shows has (inl (inl memory)) = inl (inl memory)
map_below first old new most misfits texts tree height below number d root node error is small shows has (inl (inr blocked)) =
    inl (inr (blocked_below first old new most misfits (nodes_of texts tree) tree (λ (r : ℕ). Unit {0}) height below number d root node error is small shows has blocked))
map_below first old new most misfits texts tree height below number d root node error is small shows has (inr unread) =
    inr (unread_below first old new most misfits texts tree height below number d root node error is small shows has unread)

-- a piece below two entries couldn't be had
pub cause_below : (first old new : Shown) (most : ℕ) (misfits : Piece → Type 0) (texts : Texts) (a b : Tree) (height below number d : ℕ) (in_a in_b : Option Piece) (node_a node_b : List (Option Piece)) (error : PieceError)
    → height ≡ suc below → d < 64 → Shows first old most → AreNodes texts a b below number in_a in_b node_a node_b
    → IsChangedCause old new misfits texts a b below (number * 64 + d) (entry node_a d) (entry node_b d) error → IsChangedCause first new misfits texts a b height number in_a in_b error
cause_below first old new most misfits texts a b height below number d in_a in_b node_a node_b error is small shows are (inl h) =
    inl (map_below first old new most misfits texts a height below number d in_a node_a error is small shows are.of_a h)
cause_below first old new most misfits texts a b height below number d in_a in_b node_a node_b error is small shows are (inr h) =
    inr (map_below first old new most misfits texts b height below number d in_b node_b error is small shows are.of_b h)

-- what is read of two trees, by what is read below their nodes
pub pair_count : (height below : ℕ) → height ≡ suc below → 2 * node_count (height + 1) ≡ 2 + 64 * (2 * node_count (below + 1))
pair_count height below is =
    let up : node_count (height + 1) ≡ 1 + 64 * node_count height = count_above (height + 1) height (omega arith) in
    let same : node_count height ≡ node_count (below + 1) = ap (λ (h : ℕ). node_count h) (let e : height ≡ below + 1 = omega (arith, is) in e) in
    omega (arith, up, same)

pub pair_room : (digit each all : ℕ) → digit < 64 → all ≡ 2 + 64 * each → 2 + digit * each + each ≤ all
pair_room digit each all small is = let p : (digit + 1) * each ≤ 64 * each = mul-le-mul_right each (let s : digit + 1 ≤ 64 = omega (arith, small) in s) in omega (arith, p, is)

pub pair_done : (digit each all : ℕ) → digit ≤ 64 → all ≡ 2 + 64 * each → 2 + digit * each ≤ all
pair_done digit each all small is = let p : digit * each ≤ 64 * each = mul-le-mul_right each small in omega (arith, p, is)

pub pair_next : (digit each : ℕ) → 2 + digit * each + each ≤ 2 + (digit + 1) * each
pair_next digit each = omega arith
