-- The entries of a tree, put together from those of the trees below its node.
use Rattle.std.proofs.Common.{◌≡◌, ℕ, zero, suc, ◌+◌, ◌*◌, ◌/◌, ◌%◌, ◌^◌, ◌<◌, ◌≤◌, nat_eq, nat_lt, Bool, true, false, cond, List, [], ◌∷◌, ◌++◌, append_assoc, append-nil, Option, None, Some, refl, ap, sym, subst, ◌∙◌, arith}
use Rattle.std.proofs.lemmas.Bool.Decides.{nat_tests}
use Rattle.std.proofs.Math.Nat.{div-one, div-eq_of_lt, div-lt_iff_lt-mul, pow-suc}
use Rattle.tdb_base.specs.declared.piece.Piece.{Piece}
use Rattle.tdb_map.specs.Nodes.{Nodes, NodesGrow}
use Rattle.tdb_map.specs.Tree.{IsAt, HasNode, entry, digit}
use Rattle.tdb_map.specs.Walk.{Listed, Ascends, listed, HasWalked, HasWalkedSome}
use Rattle.tdb_map.proofs.NumberLemmas.{number_above, number_below, last_digit, width}
use Rattle.tdb_map.proofs.TreeLemmas.{has_node_later, none_at}

pub at_later : (old new : Nodes) → NodesGrow old new → (height number : ℕ) (root : Option Piece) (rank : ℕ) (leaf : Option Piece) → IsAt old height number root rank leaf → IsAt new height number root rank leaf
at_later old new grows zero number root rank leaf h = h
at_later old new grows (suc height) number root rank leaf (node, is, below) =
    (node, has_node_later old new grows height number root node is, at_later old new grows height (number * 64 + digit height rank) (entry node (digit height rank)) rank leaf below)

ascends_from : (a b c : ℕ) (xs : Listed) → a ≤ b → Ascends b c xs → Ascends a c xs
ascends_from a b c [] h k = omega (arith, h, k)
ascends_from a b c (x ∷ xs) h k = (omega (arith, h, k.0), k.1)

ascends_then : (a b c : ℕ) (xs ys : Listed) → Ascends a b xs → Ascends b c ys → Ascends a c (xs ++ ys)
ascends_then a b c [] ys h k = ascends_from a b c ys h k
ascends_then a b c (x ∷ xs) ys h k = (h.0, ascends_then (x.0.0 + 1) b c xs ys h.1 k)

ascends_le : (a b : ℕ) (xs : Listed) → Ascends a b xs → a ≤ b
ascends_le a b [] h = h
ascends_le a b (x ∷ xs) h = let rest = ascends_le (x.0.0 + 1) b xs h.1 in omega (arith, h.0, rest)

apart : (a b : ℕ) → a < b → nat_eq a b ≡ false
apart a b h = grind (arith, nat_tests)

apart' : (a b : ℕ) → b < a → nat_eq a b ≡ false
apart' a b h = grind (arith, nat_tests)

same : (a b : ℕ) → a ≡ b → nat_eq a b ≡ true
same a b h = grind (arith, nat_tests)

passes : {A : Type 0} (b : Bool) (x : A) (rest : Option A) → b ≡ false → rest ≡ None → cond b (Some x) rest ≡ None
passes true x rest h k = absurd (cc h)
passes false x rest h k = k

listed_before : (a b rank : ℕ) (xs : Listed) → Ascends a b xs → rank < a → listed xs rank ≡ None
listed_before a b rank [] h k = refl
listed_before a b rank (x ∷ xs) h k = passes _ _ _ (apart rank x.0.0 (omega (arith, h.0, k))) (listed_before (x.0.0 + 1) b rank xs h.1 (omega (arith, h.0, k)))

listed_behind : (a b rank : ℕ) (xs : Listed) → Ascends a b xs → b ≤ rank → listed xs rank ≡ None
listed_behind a b rank [] h k = refl
listed_behind a b rank (x ∷ xs) h k = passes _ _ _ (apart' rank x.0.0 (let rest = ascends_le (x.0.0 + 1) b xs h.1 in omega (arith, rest, k))) (listed_behind (x.0.0 + 1) b rank xs h.1 k)

listed_left : (rank : ℕ) (xs ys : Listed) → listed ys rank ≡ None → listed (xs ++ ys) rank ≡ listed xs rank
listed_left rank [] ys h = h
listed_left rank (x ∷ xs) ys h = ap (cond (nat_eq rank x.0.0) (Some x.1)) (listed_left rank xs ys h)

right : (b : Bool) (x : Piece) (rest : Option Piece) (all other : Option Piece) → cond b (Some x) rest ≡ None → (rest ≡ None → all ≡ other) → cond b (Some x) all ≡ other
right true x rest all other h f = absurd (cc h)
right false x rest all other h f = f h

not_before : (a b : ℕ) → (a < b → ⊥) → b ≤ a
not_before a b h = omega (arith, h)

is_less : (a b : ℕ) → nat_lt a b ≡ true → a < b
is_less a b h = grind (arith, nat_tests)

is_more : (a b : ℕ) → nat_lt a b ≡ false → b ≤ a
is_more a b h = grind (arith, nat_tests)

low_of : (q number : ℕ) → q / 64 ≡ number → number * 64 ≤ q
low_of q number h = omega (arith, h)

high_of : (q number : ℕ) → q / 64 ≡ number → q < number * 64 + 64
high_of q number h = omega (arith, h)

wider : (number below : ℕ) → number * 64 * 64 ^ below ≡ number * 64 ^ suc below
wider number below = let p = pow-suc 64 below in omega (arith, ap (λ (w : ℕ). number * w) p)

wider_next : (number below : ℕ) → (number * 64 + 64) * 64 ^ below ≡ (number + 1) * 64 ^ suc below
wider_next number below = let p = pow-suc 64 below in omega (arith, p, ap (λ (w : ℕ). number * w) p)

listed_right : (rank : ℕ) (xs ys : Listed) → listed xs rank ≡ None → listed (xs ++ ys) rank ≡ listed ys rank
listed_right rank [] ys h = refl
listed_right rank (x ∷ xs) ys h = right (nat_eq rank x.0.0) x.1 (listed xs rank) _ _ h (listed_right rank xs ys)

-- which ranks are before the tree with a number
before : (rank height to : ℕ) → rank / 64 ^ height < to → rank < to * 64 ^ height
before rank height to h = (div-lt_iff_lt-mul {k = 64 ^ height} {x = rank} {y = to} (width height)).0 h

from_on : (rank height to : ℕ) → to ≤ rank / 64 ^ height → to * 64 ^ height ≤ rank
from_on rank height to h = not_before rank (to * 64 ^ height) (λ less.
    let l = (div-lt_iff_lt-mul {k = 64 ^ height} {x = rank} {y = to} (width height)).1 less in omega (arith, l, h))

pub walked_none : (nodes : Nodes) (height number : ℕ) (old : Listed) → HasWalked nodes height number None old old
walked_none nodes height number old = record {
  entries = [];
  is = sym (append-nil old);
  walk = record { ascends = omega arith; at = λ rank within. none_at nodes height number rank };
}

pub walked_leaf : (nodes : Nodes) (number : ℕ) (piece : Piece) (old new : Listed) → new ≡ old ++ (record { 0 = number }, piece) ∷ [] → HasWalked nodes zero number (Some piece) old new
walked_leaf nodes number piece old new is = record {
  entries = (record { 0 = number }, piece) ∷ [];
  is = is;
  walk = record { ascends = (omega arith, omega arith); at = λ rank within. ap (λ (b : Bool). cond b (Some piece) None) (same rank number (sym (div-one rank) ∙ within)) };
}

pub walked_no_child : (nodes : Nodes) (height from : ℕ) (node : List (Option Piece)) (old : Listed) → HasWalkedSome nodes height from from node old old
walked_no_child nodes height from node old = record {
  entries = [];
  is = sym (append-nil old);
  ascends = omega arith;
  at = λ rank low high. absurd (omega (arith, low, high));
}

-- what the tree of a rank has, below a node
abbrev IsBelow : Nodes → ℕ → List (Option Piece) → ℕ → Option Piece → Type 0
IsBelow nodes height node rank leaf = IsAt nodes height (rank / 64 ^ height) (entry node (digit height rank)) rank leaf

at_next : (nodes : Nodes) (height from to : ℕ) (node : List (Option Piece)) (xs ys : Listed) (rank : ℕ)
    → Ascends (from * 64 ^ height) (to * 64 ^ height) xs → Ascends (to * 64 ^ height) ((to + 1) * 64 ^ height) ys
    → (rank / 64 ^ height < to → IsBelow nodes height node rank (listed xs rank))
    → (rank / 64 ^ height ≡ to → IsBelow nodes height node rank (listed ys rank))
    → rank / 64 ^ height < to + 1 → (test : Bool) → nat_lt (rank / 64 ^ height) to ≡ test → IsBelow nodes height node rank (listed (xs ++ ys) rank)
at_next nodes height from to node xs ys rank f g h k high true is =
    let less : rank / 64 ^ height < to = is_less (rank / 64 ^ height) to is in
    subst (λ (leaf : Option Piece). IsBelow nodes height node rank leaf)
    (sym (listed_left rank xs ys (listed_before _ _ rank ys g (before rank height to less)))) (h less)
at_next nodes height from to node xs ys rank f g h k high false is =
    let more : to ≤ rank / 64 ^ height = is_more (rank / 64 ^ height) to is in
    subst (λ (leaf : Option Piece). IsBelow nodes height node rank leaf)
    (sym (listed_right rank xs ys (listed_behind _ _ rank xs f (from_on rank height to more)))) (k (omega (arith, more, high)))

-- the entries below one more
pub walked_child : (nodes later : Nodes) → NodesGrow nodes later → (height number d : ℕ) (node : List (Option Piece)) (old mid new : Listed) → d < 64
    → HasWalkedSome nodes height (number * 64) (number * 64 + d) node old mid → HasWalked later height (number * 64 + d) (entry node d) mid new
    → HasWalkedSome later height (number * 64) (number * 64 + (d + 1)) node old new
walked_child nodes later grows height number d node old mid new small some one =
    let next : number * 64 + d + 1 ≡ number * 64 + (d + 1) = omega arith in
    record {
      entries = some.entries ++ one.entries;
      is = one.is ∙ ap (λ (x : Listed). x ++ one.entries) some.is ∙ append_assoc old some.entries one.entries;
      ascends = ascends_then _ ((number * 64 + d) * 64 ^ height) _ some.entries one.entries some.ascends
          (subst (λ (n : ℕ). Ascends ((number * 64 + d) * 64 ^ height) (n * 64 ^ height) one.entries) next one.walk.ascends);
      at = λ rank low high. at_next later height (number * 64) (number * 64 + d) node some.entries one.entries rank some.ascends one.walk.ascends
          (λ less. at_later nodes later grows height (rank / 64 ^ height) (entry node (digit height rank)) rank (listed some.entries rank) (some.at rank low less))
          (λ here.
          let at_d : (number * 64 + d) % 64 ≡ d = last_digit (number * 64 + d) number d small refl in
          subst (λ (q : ℕ). IsAt later height q (entry node (q % 64)) rank (listed one.entries rank)) (sym here)
          (subst (λ (k : ℕ). IsAt later height (number * 64 + d) (entry node k) rank (listed one.entries rank)) (sym at_d) (one.walk.at rank here)))
          (omega (arith, high)) (nat_lt (rank / 64 ^ height) (number * 64 + d)) refl;
    }

-- the entries of a tree, by those below its node
pub walked_node : (nodes : Nodes) (height below number : ℕ) (root : Option Piece) (node : List (Option Piece)) (old new : Listed) → height ≡ suc below
    → HasNode nodes below number root node → HasWalkedSome nodes below (number * 64) (number * 64 + 64) node old new → HasWalked nodes height number root old new
walked_node nodes height below number root node old new is has some = subst (λ (h : ℕ). HasWalked nodes h number root old new) (sym is) (record {
  entries = some.entries;
  is = some.is;
  walk = record {
    ascends = subst (λ (a : ℕ). Ascends a ((number + 1) * 64 ^ suc below) some.entries) (wider number below)
        (subst (λ (b : ℕ). Ascends (number * 64 * 64 ^ below) b some.entries) (wider_next number below) some.ascends);
    at = λ rank within. let q : rank / 64 ^ below / 64 ≡ number = sym (number_above rank below) ∙ within in (
      node,
      has,
      subst (λ (n : ℕ). IsAt nodes below n (entry node (digit below rank)) rank (listed some.entries rank)) (number_below rank below number within)
          (some.at rank (low_of (rank / 64 ^ below) number q) (high_of (rank / 64 ^ below) number q)),
    );
  };
})

-- the walk of a whole tree
pub whole_walk : (nodes : Nodes) (height : ℕ) (root : Option Piece) (old new : Listed) → old ≡ [] → HasWalked nodes height 0 root old new
    → ((rank : ℕ) → rank < 64 ^ height → IsAt nodes height 0 root rank (listed new rank)) × Ascends 0 (64 ^ height) new
whole_walk nodes height root old new none h =
    let is : h.entries ≡ new = ap (λ (x : Listed). x ++ h.entries) (sym none) ∙ sym h.is in (
      λ rank below. subst (λ (es : Listed). IsAt nodes height 0 root rank (listed es rank)) is (h.walk.at rank (div-eq_of_lt below)),
      subst (λ (w : ℕ). Ascends 0 w new) (let e : (0 + 1) * 64 ^ height ≡ 64 ^ height = omega arith in e) (subst (λ (low : ℕ). Ascends low ((0 + 1) * 64 ^ height) new) (let z : 0 * 64 ^ height ≡ 0 = omega arith in z)
          (subst (λ (es : Listed). Ascends (0 * 64 ^ height) ((0 + 1) * 64 ^ height) es) is h.walk.ascends)),
    )

high_digit : (rank : ℕ) → 4096 ≤ rank → rank < 262144 → (1 ≤ rank / 4096 % 64) × (rank / 4096 % 64 < 64)
high_digit rank low high = (omega (arith, low, high), omega arith)

low_digit : (rank : ℕ) → rank < 4096 → rank / 4096 % 64 ≡ 0
low_digit rank low = omega (arith, low)

narrow_rank : (nodes : Nodes) (root : Option Piece) (node : List (Option Piece)) (new : Listed) → HasNode nodes 2 0 root node
    → ((k : ℕ) → 1 ≤ k → k < 64 → entry node k ≡ None) → ((rank : ℕ) → rank < 4096 → IsAt nodes 2 0 (entry node 0) rank (listed new rank)) → Ascends 0 4096 new
    → (rank : ℕ) → rank < 262144 → (test : Bool) → nat_lt rank 4096 ≡ test → IsAt nodes 3 0 root rank (listed new rank)
narrow_rank nodes root node new has none at ascends rank fits true is =
    let less : rank < 4096 = is_less rank 4096 is in (
      node,
      has,
      subst (λ (d : ℕ). IsAt nodes 2 (0 * 64 + d) (entry node d) rank (listed new rank)) (sym (low_digit rank less)) (at rank less),
    )
narrow_rank nodes root node new has none at ascends rank fits false is =
    let more : 4096 ≤ rank = is_more rank 4096 is in
    let d = high_digit rank more fits in (
      node,
      has,
      subst (λ (leaf : Option Piece). IsAt nodes 2 (0 * 64 + digit 2 rank) (entry node (digit 2 rank)) rank leaf) (sym (listed_behind 0 4096 rank new ascends more))
          (subst (λ (child : Option Piece). IsAt nodes 2 (0 * 64 + digit 2 rank) child rank None) (sym (none (digit 2 rank) d.0 d.1)) (none_at nodes 2 (0 * 64 + digit 2 rank) rank)),
    )

-- the walk of a tree whose root has no entry beyond the first one
pub narrow_walk : (nodes : Nodes) (root : Option Piece) (node : List (Option Piece)) (old new : Listed) → old ≡ [] → HasNode nodes 2 0 root node
    → ((k : ℕ) → 1 ≤ k → k < 64 → entry node k ≡ None) → HasWalked nodes 2 0 (entry node 0) old new
    → ((rank : ℕ) → rank < 262144 → IsAt nodes 3 0 root rank (listed new rank)) × Ascends 0 4096 new
narrow_walk nodes root node old new none has beyond walked =
    let first = whole_walk nodes 2 (entry node 0) old new none walked in
    (λ rank fits. narrow_rank nodes root node new has beyond first.0 first.1 rank fits (nat_lt rank 4096) refl, first.1)
