-- What is told of two trees, put together from what is told below their nodes.
use Rattle.std.proofs.Common.{◌≡◌, inl, inr, ℕ, zero, suc, ◌+◌, ◌*◌, ◌/◌, ◌%◌, ◌^◌, ◌<◌, ◌≤◌, nat_eq, nat_lt, Bool, true, false, cond, List, [], ◌∷◌, ◌++◌, append_assoc, append-nil, Option, None, Some, refl, ap, sym, subst, ◌∙◌, arith}
use Rattle.std.proofs.lemmas.Bool.Decides.{nat_tests}
use Rattle.std.proofs.Math.Nat.{div-one, div-eq_of_lt, div-lt_iff_lt-mul, pow-suc}
use Rattle.tdb_base.specs.declared.piece.Piece.{Piece}
use Rattle.tdb_map.specs.declared.tree.Tree.{Tree}
use Rattle.tdb_map.specs.Nodes.{Texts, Nodes, Grows, NodesGrow, nodes_of}
use Rattle.tdb_map.specs.Tree.{IsOnWay, entry, digit}
use Rattle.tdb_map.proofs.NumberLemmas.{number_above, number_below, last_digit, width, le_of_not_lt}
use Rattle.tdb_map.proofs.TreeLemmas.{nodes_grow, has_node_later, none_at}
use Rattle.tdb_map.proofs.WalkLemmas.{at_later}
use Rattle.tdb_model.specs.declared.change.Side.{Side}
use Rattle.tdb_parts.specs.Chunk.{IsChunk}
use Rattle.tdb_parts.specs.Told.{Differences, told, Ascends, IsShared, IsLeafTold, IsTold, HasTold, HasToldSome}
use Rattle.tdb_parts.proofs.CauseLemmas.{AreNodes}

chunk_later : (old new : Texts) → Grows old new → (tree : Tree) (rank : ℕ) (piece : Piece) (bytes : List ℕ) → IsChunk old tree rank piece bytes → IsChunk new tree rank piece bytes
chunk_later old new grows tree rank piece bytes c = record { sealed = c.sealed; known = grows.each piece.digest.0 c.sealed c.known; opened = c.opened }

leaf_later : (old new : Texts) → Grows old new → (a b : Tree) (rank : ℕ) (one other : Option Piece) (side : Option Side) → IsLeafTold old a b rank one other side → IsLeafTold new a b rank one other side
leaf_later old new grows a b rank None None side h = h
leaf_later old new grows a b rank (Some one) None side h = h
leaf_later old new grows a b rank None (Some other) side h = h
leaf_later old new grows a b rank (Some one) (Some other) side (inl (is, inl k)) = inl (is, inl k)
leaf_later old new grows a b rank (Some one) (Some other) side (inl (is, inr k)) =
    inl (is, inr (record { bytes = k.bytes; first = chunk_later old new grows a rank one k.bytes k.first; second = chunk_later old new grows b rank other k.bytes k.second }))
leaf_later old new grows a b rank (Some one) (Some other) side (inr (is, inl k)) = inr (is, inl k)
leaf_later old new grows a b rank (Some one) (Some other) side (inr (is, inr k)) = inr (
  is,
  inr (record {
    first_bytes = k.first_bytes;
    second_bytes = k.second_bytes;
    first = chunk_later old new grows a rank one k.first_bytes k.first;
    second = chunk_later old new grows b rank other k.second_bytes k.second;
    differ = k.differ;
  }),
)

way_later : (old new : Nodes) → NodesGrow old new → (height number : ℕ) (root : Option Piece) (rank level : ℕ) (piece : Piece) → IsOnWay old height number root rank level piece → IsOnWay new height number root rank level piece
way_later old new grows zero number root rank level piece h = h
way_later old new grows (suc height) number root rank level piece (inl h) = inl h
way_later old new grows (suc height) number root rank level piece (inr (node, has, below)) =
    inr (node, has_node_later old new grows height number root node has, way_later old new grows height (number * 64 + digit height rank) (entry node (digit height rank)) rank level piece below)

-- what is told stays so, as more is known
pub told_later : (old new : Texts) → Grows old new → (a b : Tree) (height number : ℕ) (in_a in_b : Option Piece) (rank : ℕ) (side : Option Side) → IsTold old a b height number in_a in_b rank side
    → IsTold new a b height number in_a in_b rank side
told_later old new grows a b height number in_a in_b rank side (inl (s, is)) = inl (
  record {
    level = s.level;
    one = s.one;
    other = s.other;
    way_a = way_later (nodes_of old a) (nodes_of new a) (nodes_grow old new a grows) height number in_a rank s.level s.one s.way_a;
    way_b = way_later (nodes_of old b) (nodes_of new b) (nodes_grow old new b grows) height number in_b rank s.level s.other s.way_b;
    one_key = s.one_key;
    digest = s.digest;
  },
  is,
)
told_later old new grows a b height number in_a in_b rank side (inr h) = inr (record {
  leaf_a = h.leaf_a;
  leaf_b = h.leaf_b;
  at_a = at_later (nodes_of old a) (nodes_of new a) (nodes_grow old new a grows) height number in_a rank h.leaf_a h.at_a;
  at_b = at_later (nodes_of old b) (nodes_of new b) (nodes_grow old new b grows) height number in_b rank h.leaf_b h.at_b;
  leaf_told = leaf_later old new grows a b rank h.leaf_a h.leaf_b side h.leaf_told;
})

-- what is told below two nodes is told of their trees
told_above : (texts : Texts) (a b : Tree) (below number : ℕ) (in_a in_b : Option Piece) (node_a node_b : List (Option Piece)) (rank : ℕ) (side : Option Side) → AreNodes texts a b below number in_a in_b node_a node_b
    → IsTold texts a b below (number * 64 + digit below rank) (entry node_a (digit below rank)) (entry node_b (digit below rank)) rank side → IsTold texts a b (suc below) number in_a in_b rank side
told_above texts a b below number in_a in_b node_a node_b rank side are (inl (s, is)) = inl (
  record {
    level = s.level;
    one = s.one;
    other = s.other;
    way_a = inr (node_a, are.of_a, s.way_a);
    way_b = inr (node_b, are.of_b, s.way_b);
    one_key = s.one_key;
    digest = s.digest;
  },
  is,
)
told_above texts a b below number in_a in_b node_a node_b rank side are (inr h) = inr (record {
  leaf_a = h.leaf_a;
  leaf_b = h.leaf_b;
  at_a = (node_a, are.of_a, h.at_a);
  at_b = (node_b, are.of_b, h.at_b);
  leaf_told = h.leaf_told;
})

-- nothing is told of what two trees share
told_shared : (texts : Texts) (a b : Tree) (height number : ℕ) (in_a in_b : Option Piece) (rank : ℕ) → IsShared a b in_a in_b → IsTold texts a b height number in_a in_b rank None
told_shared texts a b height number None None rank h = inr (record {
  leaf_a = None;
  leaf_b = None;
  at_a = none_at (nodes_of texts a) height number rank;
  at_b = none_at (nodes_of texts b) height number rank;
  leaf_told = refl;
})
told_shared texts a b height number (Some one) None rank h = absurd h
told_shared texts a b height number None (Some other) rank h = absurd h
told_shared texts a b zero number (Some one) (Some other) rank h = inr (record { leaf_a = Some one; leaf_b = Some other; at_a = refl; at_b = refl; leaf_told = inl (refl, inl h) })
told_shared texts a b (suc height) number (Some one) (Some other) rank h =
    inl (record { level = height; one = one; other = other; way_a = inl (refl, refl); way_b = inl (refl, refl); one_key = h.0; digest = h.1 }, refl)

ascends_from : (a b c : ℕ) (xs : Differences) → a ≤ b → Ascends b c xs → Ascends a c xs
ascends_from a b c [] h k = omega (arith, h, k)
ascends_from a b c (x ∷ xs) h k = (omega (arith, h, k.0), k.1)

ascends_then : (a b c : ℕ) (xs ys : Differences) → Ascends a b xs → Ascends b c ys → Ascends a c (xs ++ ys)
ascends_then a b c [] ys h k = ascends_from a b c ys h k
ascends_then a b c (x ∷ xs) ys h k = (h.0, ascends_then (x.0.0 + 1) b c xs ys h.1 k)

ascends_le : (a b : ℕ) (xs : Differences) → Ascends a b xs → a ≤ b
ascends_le a b [] h = h
ascends_le a b (x ∷ xs) h = let rest = ascends_le (x.0.0 + 1) b xs h.1 in omega (arith, h.0, rest)

apart : (a b : ℕ) → a < b → nat_eq a b ≡ false
apart a b h = grind (arith, nat_tests)

apart' : (a b : ℕ) → b < a → nat_eq a b ≡ false
apart' a b h = grind (arith, nat_tests)

same : (a b : ℕ) → a ≡ b → nat_eq a b ≡ true
same a b h = grind (arith, nat_tests)

is_less : (a b : ℕ) → nat_lt a b ≡ true → a < b
is_less a b h = grind (arith, nat_tests)

is_more : (a b : ℕ) → nat_lt a b ≡ false → b ≤ a
is_more a b h = grind (arith, nat_tests)

passes : (b : Bool) (x : Side) (rest : Option Side) → b ≡ false → rest ≡ None → cond b (Some x) rest ≡ None
passes true x rest h k = absurd (cc h)
passes false x rest h k = k

told_before : (a b rank : ℕ) (xs : Differences) → Ascends a b xs → rank < a → told xs rank ≡ None
told_before a b rank [] h k = refl
told_before a b rank (x ∷ xs) h k = passes _ _ _ (apart rank x.0.0 (omega (arith, h.0, k))) (told_before (x.0.0 + 1) b rank xs h.1 (omega (arith, h.0, k)))

told_behind : (a b rank : ℕ) (xs : Differences) → Ascends a b xs → b ≤ rank → told xs rank ≡ None
told_behind a b rank [] h k = refl
told_behind a b rank (x ∷ xs) h k = passes _ _ _ (apart' rank x.0.0 (let rest = ascends_le (x.0.0 + 1) b xs h.1 in omega (arith, rest, k))) (told_behind (x.0.0 + 1) b rank xs h.1 k)

told_left : (rank : ℕ) (xs ys : Differences) → told ys rank ≡ None → told (xs ++ ys) rank ≡ told xs rank
told_left rank [] ys h = h
told_left rank (x ∷ xs) ys h = ap (cond (nat_eq rank x.0.0) (Some x.1)) (told_left rank xs ys h)

right : (b : Bool) (x : Side) (rest : Option Side) (all other : Option Side) → cond b (Some x) rest ≡ None → (rest ≡ None → all ≡ other) → cond b (Some x) all ≡ other
right true x rest all other h f = absurd (cc h)
right false x rest all other h f = f h

told_right : (rank : ℕ) (xs ys : Differences) → told xs rank ≡ None → told (xs ++ ys) rank ≡ told ys rank
told_right rank [] ys h = refl
told_right rank (x ∷ xs) ys h = right (nat_eq rank x.0.0) x.1 (told xs rank) _ _ h (told_right rank xs ys)

-- which ranks are before the tree with a number
before : (rank height to : ℕ) → rank / 64 ^ height < to → rank < to * 64 ^ height
before rank height to h = (div-lt_iff_lt-mul {k = 64 ^ height} {x = rank} {y = to} (width height)).0 h

from_on : (rank height to : ℕ) → to ≤ rank / 64 ^ height → to * 64 ^ height ≤ rank
from_on rank height to h = le_of_not_lt rank (to * 64 ^ height) (λ less.
    let l = (div-lt_iff_lt-mul {k = 64 ^ height} {x = rank} {y = to} (width height)).1 less in omega (arith, l, h))

low_of : (q number : ℕ) → q / 64 ≡ number → number * 64 ≤ q
low_of q number h = omega (arith, h)

high_of : (q number : ℕ) → q / 64 ≡ number → q < number * 64 + 64
high_of q number h = omega (arith, h)

wider : (number below : ℕ) → number * 64 * 64 ^ below ≡ number * 64 ^ suc below
wider number below = let p = pow-suc 64 below in omega (arith, ap (λ (w : ℕ). number * w) p)

wider_next : (number below : ℕ) → (number * 64 + 64) * 64 ^ below ≡ (number + 1) * 64 ^ suc below
wider_next number below = let p = pow-suc 64 below in omega (arith, p, ap (λ (w : ℕ). number * w) p)

low_high : (number height : ℕ) → number * 64 ^ height ≤ (number + 1) * 64 ^ height
low_high number height = omega arith

-- Trees that share their roots add nothing.
pub has_shared : (texts : Texts) (a b : Tree) (height number : ℕ) (in_a in_b : Option Piece) (old : Differences) → IsShared a b in_a in_b → HasTold texts a b height number in_a in_b old old
has_shared texts a b height number in_a in_b old h = record {
  more = [];
  is = sym (append-nil old);
  ascends = low_high number height;
  at = λ rank within. told_shared texts a b height number in_a in_b rank h;
}

told_leaf : (texts : Texts) (a b : Tree) (rank : ℕ) (one other : Option Piece) (side : Option Side) → IsLeafTold texts a b rank one other side → IsTold texts a b 0 rank one other rank side
told_leaf texts a b rank one other side h = inr (record { leaf_a = one; leaf_b = other; at_a = refl; at_b = refl; leaf_told = h })

-- two leaves of which nothing is told, and of which it is
pub has_no_leaf : (texts : Texts) (a b : Tree) (number : ℕ) (one other : Option Piece) (old : Differences) → IsLeafTold texts a b number one other None → HasTold texts a b 0 number one other old old
has_no_leaf texts a b number one other old h = record {
  more = [];
  is = sym (append-nil old);
  ascends = low_high number 0;
  at = λ rank within. subst (λ (r : ℕ). IsTold texts a b 0 number one other r None) (sym (sym (div-one rank) ∙ within)) (told_leaf texts a b number one other None h);
}

pub has_leaf : (texts : Texts) (a b : Tree) (number : ℕ) (one other : Option Piece) (side : Side) (old new : Differences) → IsLeafTold texts a b number one other (Some side) → new ≡ old ++ (record { 0 = number }, side) ∷ []
    → HasTold texts a b 0 number one other old new
has_leaf texts a b number one other side old new h is = record {
  more = (record { 0 = number }, side) ∷ [];
  is = is;
  ascends = (omega arith, omega arith);
  at = λ rank within.
      let here : rank ≡ number = sym (div-one rank) ∙ within in
      let side_is : told ((record { 0 = number }, side) ∷ []) rank ≡ Some side = ap (λ (t : Bool). cond t (Some side) None) (same rank number here) in
      subst (λ (s : Option Side). IsTold texts a b 0 number one other rank s) (sym side_is)
      (subst (λ (r : ℕ). IsTold texts a b 0 number one other r (Some side)) (sym here) (told_leaf texts a b number one other (Some side) h));
}

pub has_no_child : (texts : Texts) (a b : Tree) (height from : ℕ) (node_a node_b : List (Option Piece)) (old : Differences) → HasToldSome texts a b height from from node_a node_b old old
has_no_child texts a b height from node_a node_b old = record {
  more = [];
  is = sym (append-nil old);
  ascends = omega arith;
  at = λ rank low high. absurd (omega (arith, low, high));
}

-- what is told of a rank below two nodes
abbrev IsBelow : Texts → Tree → Tree → ℕ → List (Option Piece) → List (Option Piece) → ℕ → Option Side → Type 0
IsBelow texts a b height node_a node_b rank side = IsTold texts a b height (rank / 64 ^ height) (entry node_a (digit height rank)) (entry node_b (digit height rank)) rank side

at_next : (texts : Texts) (a b : Tree) (height from to : ℕ) (node_a node_b : List (Option Piece)) (xs ys : Differences) (rank : ℕ)
    → Ascends (from * 64 ^ height) (to * 64 ^ height) xs → Ascends (to * 64 ^ height) ((to + 1) * 64 ^ height) ys
    → (rank / 64 ^ height < to → IsBelow texts a b height node_a node_b rank (told xs rank))
    → (rank / 64 ^ height ≡ to → IsBelow texts a b height node_a node_b rank (told ys rank))
    → rank / 64 ^ height < to + 1 → (test : Bool) → nat_lt (rank / 64 ^ height) to ≡ test → IsBelow texts a b height node_a node_b rank (told (xs ++ ys) rank)
at_next texts a b height from to node_a node_b xs ys rank f g h k high true is =
    let less : rank / 64 ^ height < to = is_less (rank / 64 ^ height) to is in
    subst (λ (side : Option Side). IsBelow texts a b height node_a node_b rank side)
    (sym (told_left rank xs ys (told_before _ _ rank ys g (before rank height to less)))) (h less)
at_next texts a b height from to node_a node_b xs ys rank f g h k high false is =
    let more : to ≤ rank / 64 ^ height = is_more (rank / 64 ^ height) to is in
    subst (λ (side : Option Side). IsBelow texts a b height node_a node_b rank side)
    (sym (told_right rank xs ys (told_behind _ _ rank xs f (from_on rank height to more)))) (k (omega (arith, more, high)))

-- the differences below one entry more
pub has_child : (texts later : Texts) → Grows texts later → (a b : Tree) (height number d : ℕ) (node_a node_b : List (Option Piece)) (old mid new : Differences) → d < 64
    → HasToldSome texts a b height (number * 64) (number * 64 + d) node_a node_b old mid → HasTold later a b height (number * 64 + d) (entry node_a d) (entry node_b d) mid new
    → HasToldSome later a b height (number * 64) (number * 64 + (d + 1)) node_a node_b old new
has_child texts later grows a b height number d node_a node_b old mid new small some one =
    let next : number * 64 + d + 1 ≡ number * 64 + (d + 1) = omega arith in
    record {
      more = some.more ++ one.more;
      is = one.is ∙ ap (λ (x : Differences). x ++ one.more) some.is ∙ append_assoc old some.more one.more;
      ascends = ascends_then _ ((number * 64 + d) * 64 ^ height) _ some.more one.more some.ascends
          (subst (λ (n : ℕ). Ascends ((number * 64 + d) * 64 ^ height) (n * 64 ^ height) one.more) next one.ascends);
      at = λ rank low high. at_next later a b height (number * 64) (number * 64 + d) node_a node_b some.more one.more rank some.ascends one.ascends
          (λ less. told_later texts later grows a b height (rank / 64 ^ height) (entry node_a (digit height rank)) (entry node_b (digit height rank)) rank (told some.more rank) (some.at rank low less))
          (λ here.
          let at_d : (number * 64 + d) % 64 ≡ d = last_digit (number * 64 + d) number d small refl in
          subst (λ (q : ℕ). IsTold later a b height q (entry node_a (q % 64)) (entry node_b (q % 64)) rank (told one.more rank)) (sym here)
          (subst (λ (k : ℕ). IsTold later a b height (number * 64 + d) (entry node_a k) (entry node_b k) rank (told one.more rank)) (sym at_d) (one.at rank here)))
          (omega (arith, high)) (nat_lt (rank / 64 ^ height) (number * 64 + d)) refl;
    }

-- the differences of two trees, by those below their nodes
pub has_node : (texts : Texts) (a b : Tree) (height below number : ℕ) (in_a in_b : Option Piece) (node_a node_b : List (Option Piece)) (old new : Differences) → height ≡ suc below
    → AreNodes texts a b below number in_a in_b node_a node_b → HasToldSome texts a b below (number * 64) (number * 64 + 64) node_a node_b old new → HasTold texts a b height number in_a in_b old new
has_node texts a b height below number in_a in_b node_a node_b old new is are some = subst (λ (h : ℕ). HasTold texts a b h number in_a in_b old new) (sym is) (record {
  more = some.more;
  is = some.is;
  ascends = subst (λ (from : ℕ). Ascends from ((number + 1) * 64 ^ suc below) some.more) (wider number below)
      (subst (λ (to : ℕ). Ascends (number * 64 * 64 ^ below) to some.more) (wider_next number below) some.ascends);
  at = λ rank within. let q : rank / 64 ^ below / 64 ≡ number = sym (number_above rank below) ∙ within in
      told_above texts a b below number in_a in_b node_a node_b rank (told some.more rank) are
      (subst (λ (n : ℕ). IsTold texts a b below n (entry node_a (digit below rank)) (entry node_b (digit below rank)) rank (told some.more rank)) (number_below rank below number within)
      (some.at rank (low_of (rank / 64 ^ below) number q) (high_of (rank / 64 ^ below) number q)));
})

-- the differences of whole trees
pub has_whole : (texts : Texts) (a b : Tree) (height : ℕ) (in_a in_b : Option Piece) (old new : Differences) → old ≡ [] → HasTold texts a b height 0 in_a in_b old new
    → ((rank : ℕ) → rank < 64 ^ height → IsTold texts a b height 0 in_a in_b rank (told new rank)) × Ascends 0 (64 ^ height) new
has_whole texts a b height in_a in_b old new none h =
    let is : h.more ≡ new = ap (λ (x : Differences). x ++ h.more) (sym none) ∙ sym h.is in (
      λ rank below. subst (λ (ds : Differences). IsTold texts a b height 0 in_a in_b rank (told ds rank)) is (h.at rank (div-eq_of_lt below)),
      subst (λ (w : ℕ). Ascends 0 w new) (let e : (0 + 1) * 64 ^ height ≡ 64 ^ height = omega arith in e) (subst (λ (low : ℕ). Ascends low ((0 + 1) * 64 ^ height) new) (let z : 0 * 64 ^ height ≡ 0 = omega arith in z)
          (subst (λ (ds : Differences). Ascends (0 * 64 ^ height) ((0 + 1) * 64 ^ height) ds) is h.ascends)),
    )

-- a tree shares its root with itself
shared_with_itself : (tree : Tree) (root : Option Piece) → IsShared tree tree root root
shared_with_itself tree None = record {}
shared_with_itself tree (Some piece) = (record { key = refl; suite = refl; home = refl }, refl)

-- so do equal trees
pub equal_shared : (a b : Tree) → a ≡ b → IsShared a b a.root b.root
equal_shared a b same = subst (λ (t : Tree). IsShared a t a.root t.root) same (shared_with_itself a a.root)
