-- How what was rewritten and laid goes on as more is known and laid.
use Rattle.std.proofs.Common.{◌≡◌, inl, inr, ℕ, zero, suc, ◌+◌, ◌*◌, ◌<◌, ◌≤◌, List, [], ◌∷◌, ◌++◌, length, length-append, append_assoc, append-nil, get_or, set, get_or-set_other, get_or-set_same, ◌≢◌, Option, None, refl, ap, sym, subst, ◌∙◌, arith}
use Rattle.std.proofs.lemmas.Bool.{cases_lt}
use Rattle.std.proofs.Math.Nat.{mul-le-mul, mul-le-mul_left, le_trans}
use Rattle.tdb_base.specs.declared.piece.Piece.{Piece}
use Rattle.tdb_map.specs.declared.tree.Tree.{Tree}
use Rattle.tdb_map.specs.Shown.{Shown, Shows}
use Rattle.tdb_map.specs.Nodes.{Nodes, NodesGrow}
use Rattle.tdb_map.specs.Tree.{HasNode, entry}
use Rattle.tdb_map.specs.Edits.{Edits, edits_in}
use Rattle.tdb_map.specs.Laid.{LaidRecord, Lays, laid_nodes}
use Rattle.tdb_map.specs.Rewritten.{Becomes, Rewritten}
use Rattle.tdb_map.proofs.NumberLemmas.{edits_above, edits_more, edits_fewer}
use Rattle.tdb_map.proofs.ShownLemmas.{shows_then, shows_fewer}
use Rattle.tdb_map.proofs.TreeLemmas.{has_node_later}

pub nodes_same : (nodes : Nodes) → NodesGrow nodes nodes
nodes_same nodes = record { each = λ level number piece node known. known }

-- what was laid since a later list was laid since an earlier one
pub laid_earlier : (tree : Tree) (old mid new : List LaidRecord) (most : ℕ) → Lays old mid most → NodesGrow (laid_nodes tree mid new) (laid_nodes tree old new)
laid_earlier tree old mid new most l = record {
  each = λ level number piece node laid.
      (laid.0, record { before = laid.1.before; after = laid.1.after; is = laid.1.is; since = omega (arith, laid.1.since, ap length l.is, length-append old l.added) }, laid.2);
}

-- what was laid stays so
pub laid_later : (tree : Tree) (old mid new : List LaidRecord) (most : ℕ) → Lays mid new most → NodesGrow (laid_nodes tree old mid) (laid_nodes tree old new)
laid_later tree old mid new most l = record {
  each = λ level number piece node laid. (
    laid.0,
    record {
      before = laid.1.before;
      after = laid.1.after ++ l.added;
      is = l.is ∙ ap (λ (x : List LaidRecord). x ++ l.added) laid.1.is ∙ append_assoc laid.1.before ((piece, laid.0) ∷ laid.1.after) l.added;
      since = laid.1.since;
    },
    laid.2,
  );
}

pub lays_none : (laid : List LaidRecord) (most : ℕ) → Lays laid laid most
lays_none laid most = record { added = []; is = sym (append-nil laid); few = omega arith }

pub lays_then : (old mid new : List LaidRecord) (m n most : ℕ) → Lays old mid m → Lays mid new n → m + n ≤ most → Lays old new most
lays_then old mid new m n most f g h = record {
  added = f.added ++ g.added;
  is = g.is ∙ ap (λ (x : List LaidRecord). x ++ g.added) f.is ∙ append_assoc old f.added g.added;
  few = omega (arith, f.few, g.few, length-append f.added g.added);
}

pub lays_fewer : (old new : List LaidRecord) (m n : ℕ) → Lays old new m → m ≤ n → Lays old new n
lays_fewer old new m n l h = record { added = l.added; is = l.is; few = omega (arith, l.few) }

pub becomes_later : (old new : Nodes) → NodesGrow old new → (level number : ℕ) (root : Option Piece) (before after : List (Option Piece)) (then : Option Piece)
    → Becomes old level number root before after then → Becomes new level number root before after then
becomes_later old new grows level number root before after then (inl h) = inl h
becomes_later old new grows level number root before after then (inr (inl h)) = inr (inl h)
becomes_later old new grows level number root before after then (inr (inr (piece, is, laid, other, some))) = inr (inr (piece, is, grows.each level number piece after laid, other, some))

-- what was rewritten stays so, as more is known and laid
pub rewritten_later : (nodes nodes' lays lays' : Nodes) (edits : Edits) → NodesGrow nodes nodes' → NodesGrow lays lays' → (height number : ℕ) (old new : Option Piece)
    → Rewritten nodes lays edits height number old new → Rewritten nodes' lays' edits height number old new
rewritten_later nodes nodes' lays lays' edits f g zero number old new h = h
rewritten_later nodes nodes' lays lays' edits f g (suc height) number old new (inl h) = inl h
rewritten_later nodes nodes' lays lays' edits f g (suc height) number old new (inr (before, after, node, becomes, each)) =
    inr (
      before,
      after,
      has_node_later nodes nodes' f height number old before node,
      becomes_later lays lays' g height number old before after new becomes,
      λ d below. rewritten_later nodes nodes' lays lays' edits f g height (number * 64 + d) (entry before d) (entry after d) (each d below),
    )

-- a tree without edits stays
pub rewritten_same : (nodes lays : Nodes) (edits : Edits) (height below number : ℕ) (root : Option Piece) → height ≡ suc below
    → edits_in height number (number + 1) edits ≡ 0 → Rewritten nodes lays edits height number root root
rewritten_same nodes lays edits height below number root is none =
    subst (λ (h : ℕ). Rewritten nodes lays edits h number root root) (sym is) (inl (refl, subst (λ (h : ℕ). edits_in h number (number + 1) edits ≡ 0) is none))

-- a tree with edits, by the trees below it
pub rewritten_node : (nodes lays : Nodes) (edits : Edits) (height below number : ℕ) (old new : Option Piece) (before after : List (Option Piece)) → height ≡ suc below
    → HasNode nodes below number old before → Becomes lays below number old before after new
    → ((d : ℕ) → d < 64 → Rewritten nodes lays edits below (number * 64 + d) (entry before d) (entry after d)) → Rewritten nodes lays edits height number old new
rewritten_node nodes lays edits height below number old new before after is node becomes each =
    subst (λ (h : ℕ). Rewritten nodes lays edits h number old new) (sym is) (inr (before, after, node, becomes, each))

bound : (below a b c : ℕ) → a + b ≡ c → below * a + below * b ≤ below * c
bound below a b c e = omega (arith, ap (λ (n : ℕ). below * n) e)

above : (height below number : ℕ) (edits : Edits) → height ≡ suc below → edits_in height number (number + 1) edits ≡ edits_in below (number * 64) (number * 64 + 64) edits
above height below number edits is = ap (λ (h : ℕ). edits_in h number (number + 1) edits) is ∙ edits_above below number edits

most : (height below all some : ℕ) {total : ℕ} → height ≡ suc below → total ≡ all → some ≤ all → below * some ≤ height * total
most height below all some is e h = le_trans (mul-le-mul_left below h) (omega (arith, e, ap (λ (n : ℕ). height * n) e, ap (λ (n : ℕ). n * all) is))

one_above : (height below all total : ℕ) → height ≡ suc below → total ≡ all → 0 < total → below * all + 1 ≤ height * total
one_above height below all total is e h = omega (arith, e, ap (λ (n : ℕ). height * n) e, ap (λ (n : ℕ). n * all) is)

more_below : (edits : Edits) (below number digit : ℕ)
    → below * edits_in below (number * 64) (number * 64 + digit) edits + below * edits_in below (number * 64 + digit) (number * 64 + digit + 1) edits ≤ below * edits_in below (number * 64) (number * 64 + (digit + 1)) edits
more_below edits below number digit = bound below _ _ _ (edits_more below (number * 64) (number * 64 + digit) (number * 64 + (digit + 1)) edits (omega arith) (omega arith))

-- What was laid below the entries so far, and then below one more.
pub lays_child : (old mid new : List LaidRecord) (edits : Edits) (below number digit : ℕ)
    → Lays old mid (below * edits_in below (number * 64) (number * 64 + digit) edits)
    → Lays mid new (below * edits_in below (number * 64 + digit) (number * 64 + digit + 1) edits)
    → Lays old new (below * edits_in below (number * 64) (number * 64 + (digit + 1)) edits)
lays_child old mid new edits below number digit f g = lays_then old mid new _ _ _ f g (more_below edits below number digit)

-- What was laid below some of the entries is within what may be laid.
pub lays_within : (old new : List LaidRecord) (edits : Edits) (height below number digit : ℕ) → height ≡ suc below → digit ≤ 64
    → Lays old new (below * edits_in below (number * 64) (number * 64 + digit) edits) → Lays old new (height * edits_in height number (number + 1) edits)
lays_within old new edits height below number digit is small l =
    lays_fewer old new _ _ l (most height below _ _ is (above height below number edits is) (edits_fewer below (number * 64) (number * 64 + digit) (number * 64 + 64) edits (omega arith)))

-- What was laid below all of the entries, and then one.
pub lays_node : (old mid new : List LaidRecord) (edits : Edits) (height below number : ℕ) → height ≡ suc below → 0 < edits_in height number (number + 1) edits
    → Lays old mid (below * edits_in below (number * 64) (number * 64 + 64) edits) → Lays mid new 1 → Lays old new (height * edits_in height number (number + 1) edits)
lays_node old mid new edits height below number is some f g =
    lays_then old mid new _ _ _ f g (one_above height below _ _ is (above height below number edits is) some)

-- What was shown below the entries so far, and then below one more.
pub shows_child : (old mid new : Shown) (edits : Edits) (below number digit : ℕ)
    → Shows old mid (1 + below * edits_in below (number * 64) (number * 64 + digit) edits)
    → Shows mid new (below * edits_in below (number * 64 + digit) (number * 64 + digit + 1) edits)
    → Shows old new (1 + below * edits_in below (number * 64) (number * 64 + (digit + 1)) edits)
shows_child old mid new edits below number digit f g =
    shows_then old mid new _ _ _ f g (let few = more_below edits below number digit in omega (arith, few))

-- One node and what was shown below some of its entries are within what may be shown.
pub shows_within : (old new : Shown) (edits : Edits) (height below number digit : ℕ) → height ≡ suc below → digit ≤ 64 → 0 < edits_in height number (number + 1) edits
    → Shows old new (1 + below * edits_in below (number * 64) (number * 64 + digit) edits) → Shows old new (height * edits_in height number (number + 1) edits)
shows_within old new edits height below number digit is small some f =
    let few : below * edits_in below (number * 64) (number * 64 + digit) edits ≤ below * edits_in below (number * 64) (number * 64 + 64) edits
    = mul-le-mul_left below (edits_fewer below (number * 64) (number * 64 + digit) (number * 64 + 64) edits (omega arith)) in
    let all = one_above height below _ _ is (above height below number edits is) some in
    shows_fewer old new _ _ f (omega (arith, few, all))

pub shows_one : (old new : Shown) (height total : ℕ) → (height ≡ 0 → ⊥) → 0 < total → Shows old new 1 → Shows old new (height * total)
shows_one old new height total some more f =
    let one : 1 ≤ height = omega (arith, some) in let total_one : 1 ≤ total = more in let p : 1 * 1 ≤ height * total = mul-le-mul one total_one in shows_fewer old new _ _ f (omega (arith, p))

-- one node, and nothing below it yet
pub shows_first : (old new : Shown) (edits : Edits) (below number : ℕ) → Shows old new 1 → Shows old new (1 + below * edits_in below (number * 64) (number * 64 + 0) edits)
shows_first old new edits below number f = shows_fewer old new _ _ f (omega arith)

-- what holds of each entry holds after one was set
pub each_set : (P : Option Piece → Type 0) (entries : List (Option Piece)) (at : ℕ) (made : Option Piece) → at < length entries → ((k : ℕ) → P (get_or entries k None)) → P made → (k : ℕ) → P (get_or (set entries at made) k None)
each_set P entries at made inside each here k = elim (cases_lt k at) [
  | inl less ↦ let other : k ≢ at = omega (arith, less) in subst P (sym (get_or-set_other entries at k made None other)) (each k)
  | inr more ↦ elim (cases_lt at k) [
    | inl less ↦ let other : k ≢ at = omega (arith, less) in subst P (sym (get_or-set_other entries at k made None other)) (each k)
    | inr same ↦ let is : at ≡ k = omega (arith, more, same) in subst (λ (j : ℕ). P (get_or (set entries at made) j None)) is (subst P (sym (get_or-set_same entries at made None inside)) here)
  ]
]
