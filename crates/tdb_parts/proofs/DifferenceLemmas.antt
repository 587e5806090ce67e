-- What is told of two trees is where their maps differ, where a digest leads to one text.
use Rattle.std.proofs.Common.{◌≡◌, ◌≢◌, inl, inr, ℕ, zero, suc, ◌+◌, ◌*◌, ◌<◌, List, Option, None, Some, refl, ap, sym, subst, ◌∙◌, arith}
use Rattle.sha2.specs.Sha256.{sha256}
use Rattle.tdb_base.specs.declared.piece.Digest.{Digest}
use Rattle.tdb_base.specs.declared.piece.Key.{Key}
use Rattle.tdb_base.specs.declared.piece.Piece.{Piece}
use Rattle.tdb_seal.specs.declared.record.Name.{Name}
use Rattle.tdb_seal.specs.SealedRecord.{IsSealedRecord, sealed_record}
use Rattle.tdb_seal.proofs.RecordSpelling.{same_plain}
use Rattle.tdb_map.specs.declared.tree.Tree.{Tree}
use Rattle.tdb_map.specs.Nodes.{Texts, Nodes, NodesGrow, IsOneText, IsOneNode, nodes_of, node_name}
use Rattle.tdb_map.specs.Tree.{IsAt, IsOnWay, HasNode, entry, digit}
use Rattle.tdb_map.proofs.UpdateLaws.{one_nodes}
use Rattle.tdb_map.proofs.WalkLemmas.{at_later}
use Rattle.tdb_model.specs.HasCompared.{side_of}
use Rattle.tdb_model.specs.declared.change.Side.{Side}
use Rattle.tdb_parts.specs.Chunk.{IsChunk, IsLeafOf, chunk_name}
use Rattle.tdb_parts.specs.Told.{AreDigests, IsDifference, IsLeafTold, IsOneKey, IsTold}

one_node : (nodes : Nodes) → IsOneNode nodes → (level number : ℕ) (root : Option Piece) (x y : List (Option Piece)) → HasNode nodes level number root x → HasNode nodes level number root y → x ≡ y
one_node nodes one level number None x y h k = h ∙ sym k
one_node nodes one level number (Some piece) x y h k = one.each level number piece x y h k

-- a tree has one leaf, or none, at a rank
one_leaf : (nodes : Nodes) → IsOneNode nodes → (height number : ℕ) (root : Option Piece) (rank : ℕ) (x y : Option Piece) → IsAt nodes height number root rank x → IsAt nodes height number root rank y → x ≡ y
one_leaf nodes one zero number root rank x y h k = h ∙ sym k
one_leaf nodes one (suc height) number root rank x y (node, has, below) (other, is, under) =
    let d = digit height rank in
    let same : other ≡ node = one_node nodes one height number root other node is has in
    one_leaf nodes one height (number * 64 + d) (entry node d) rank x y below
    (subst (λ (n : List (Option Piece)). IsAt nodes height (number * 64 + d) (entry n d) rank y) same under)

way_low : (nodes : Nodes) (height number : ℕ) (root : Option Piece) (rank level : ℕ) (piece : Piece) → IsOnWay nodes height number root rank level piece → level < height
way_low nodes zero number root rank level piece h = absurd h
way_low nodes (suc height) number root rank level piece (inl h) = omega (arith, h.1)
way_low nodes (suc height) number root rank level piece (inr (node, has, below)) =
    let low = way_low nodes height (number * 64 + digit height rank) (entry node (digit height rank)) rank level piece below in omega (arith, low)

-- what a node is known by is its digest
abbrev ByDigest : Nodes → Type 0
ByDigest nodes = (level number : ℕ) (one other : Piece) (node : List (Option Piece)) → one.digest ≡ other.digest → nodes level number one node → nodes level number other node

by_digest : (texts : Texts) (tree : Tree) → ByDigest (nodes_of texts tree)
by_digest texts tree level number one other node same (bytes, known, is) = (bytes, subst (λ (d : Digest). texts d.0 bytes) same known, is)

-- Trees that share a node on the way to a rank have one leaf there, or none.
shared_leaf : (nodes : Nodes) → IsOneNode nodes → ByDigest nodes → (height number : ℕ) (in_a in_b : Option Piece) (rank level : ℕ) (one other : Piece) (x y : Option Piece) → one.digest ≡ other.digest
    → IsOnWay nodes height number in_a rank level one → IsOnWay nodes height number in_b rank level other → IsAt nodes height number in_a rank x → IsAt nodes height number in_b rank y → x ≡ y
shared_leaf nodes unique by zero number in_a in_b rank level one other x y same way_a way_b at_a at_b = absurd way_a
shared_leaf nodes unique by (suc height) number in_a in_b rank level one other x y same (inl (is_a, at_height)) (inl (is_b, also)) (node_a, has_a, below_a) (node_b, has_b, below_b) =
    let d = digit height rank in
    let of_one : nodes height number one node_a = subst (λ (r : Option Piece). HasNode nodes height number r node_a) is_a has_a in
    let of_other : nodes height number other node_b = subst (λ (r : Option Piece). HasNode nodes height number r node_b) is_b has_b in
    let nodes_are : node_b ≡ node_a = unique.each height number other node_b node_a of_other (by height number one other node_a same of_one) in
    one_leaf nodes unique height (number * 64 + d) (entry node_a d) rank x y below_a
    (subst (λ (n : List (Option Piece)). IsAt nodes height (number * 64 + d) (entry n d) rank y) nodes_are below_b)
shared_leaf nodes unique by (suc height) number in_a in_b rank level one other x y same (inl (is_a, at_height)) (inr (node, has, way)) at_a at_b =
    let low = way_low nodes height (number * 64 + digit height rank) (entry node (digit height rank)) rank level other way in absurd (omega (arith, low, at_height))
shared_leaf nodes unique by (suc height) number in_a in_b rank level one other x y same (inr (node, has, way)) (inl (is_b, at_height)) at_a at_b =
    let low = way_low nodes height (number * 64 + digit height rank) (entry node (digit height rank)) rank level one way in absurd (omega (arith, low, at_height))
shared_leaf nodes unique by (suc height) number in_a in_b rank level one other x y same (inr (way_node_a, way_has_a, way_a)) (inr (way_node_b, way_has_b, way_b)) (node_a, has_a, below_a) (node_b, has_b, below_b) =
    let d = digit height rank in
    let is_a : node_a ≡ way_node_a = one_node nodes unique height number in_a node_a way_node_a has_a way_has_a in
    let is_b : node_b ≡ way_node_b = one_node nodes unique height number in_b node_b way_node_b has_b way_has_b in
    shared_leaf nodes unique by height (number * 64 + d) (entry way_node_a d) (entry way_node_b d) rank level one other x y same way_a way_b
    (subst (λ (n : List (Option Piece)). IsAt nodes height (number * 64 + d) (entry n d) rank x) is_a below_a)
    (subst (λ (n : List (Option Piece)). IsAt nodes height (number * 64 + d) (entry n d) rank y) is_b below_b)

-- Under one key the nodes of one tree are those of the other.
nodes_as : (texts : Texts) (a b : Tree) → IsOneKey a b → NodesGrow (nodes_of texts b) (nodes_of texts a)
nodes_as texts a b k = record {
  each = λ level number piece node h.
      let name : node_name b level number ≡ node_name a level number = cc (k.suite, k.home) in (
        h.0,
        h.1,
        record {
          plain = h.2.plain;
          spelled = h.2.spelled;
          sealed = subst (λ (n : Name). IsSealedRecord a.key.0 n h.2.plain h.0) name (subst (λ (y : Key). IsSealedRecord y.0 (node_name b level number) h.2.plain h.0) (sym k.key) h.2.sealed);
        },
      );
}

way_as : (old new : Nodes) → NodesGrow old new → (height number : ℕ) (root : Option Piece) (rank level : ℕ) (piece : Piece) → IsOnWay old height number root rank level piece → IsOnWay new height number root rank level piece
way_as old new grows zero number root rank level piece h = h
way_as old new grows (suc height) number root rank level piece (inl h) = inl h
way_as old new grows (suc height) number None rank level piece (inr (node, has, below)) =
    inr (node, has, way_as old new grows height (number * 64 + digit height rank) (entry node (digit height rank)) rank level piece below)
way_as old new grows (suc height) number (Some root) rank level piece (inr (node, has, below)) =
    inr (node, grows.each height number root node has, way_as old new grows height (number * 64 + digit height rank) (entry node (digit height rank)) rank level piece below)

chunk_as : (texts : Texts) (a b : Tree) → IsOneKey a b → (rank : ℕ) (piece : Piece) (bytes : List ℕ) → IsChunk texts b rank piece bytes → IsChunk texts a rank piece bytes
chunk_as texts a b k rank piece bytes c =
    let name : chunk_name b rank ≡ chunk_name a rank = cc (k.suite, k.home) in
    record {
      sealed = c.sealed;
      known = c.known;
      opened = subst (λ (n : Name). IsSealedRecord a.key.0 n bytes c.sealed) name (subst (λ (y : Key). IsSealedRecord y.0 (chunk_name b rank) bytes c.sealed) (sym k.key) c.opened);
    }

-- Records with one digest have the same bytes.
one_chunk : (texts : Texts) → IsOneText texts → (tree : Tree) (rank : ℕ) (one other : Piece) (x y : List ℕ) → one.digest ≡ other.digest → IsChunk texts tree rank one x → IsChunk texts tree rank other y → x ≡ y
one_chunk texts unique tree rank one other x y same c d =
    let known : texts other.digest.0 c.sealed = subst (λ (g : Digest). texts g.0 c.sealed) same c.known in
    let sealed : c.sealed ≡ d.sealed = unique.each other.digest.0 c.sealed d.sealed known d.known in
    same_plain tree.key.0 (chunk_name tree rank) x y d.sealed (subst (λ (s : List ℕ). IsSealedRecord tree.key.0 (chunk_name tree rank) x s) sealed c.opened) d.opened

-- Under one key and name the same bytes have one record, which has one digest.
one_record : (tree : Tree) (rank : ℕ) (x y one other : List ℕ) → x ≡ y → IsSealedRecord tree.key.0 (chunk_name tree rank) x one → IsSealedRecord tree.key.0 (chunk_name tree rank) y other → one ≡ other
one_record tree rank x y one other same c d = c.spelled ∙ ap (λ (p : List ℕ). sealed_record tree.key.0 (chunk_name tree rank) p) same ∙ sym d.spelled

made : List ℕ → Digest
made digest = record { 0 = digest }

made_is : (d : Digest) → made d.0 ≡ d
unfolding made
made_is d = refl

digest_is : (d e : Digest) → d.0 ≡ e.0 → d ≡ e
digest_is d e same = sym (made_is d) ∙ ap made same ∙ made_is e

difference_none : (one other : Option (List ℕ)) (side : Option Side) → one ≡ other → side ≡ None → IsDifference one other side
difference_none one other side same is = record { same = λ _. is; differ = λ differ. absurd (differ same) }

difference_some : (one other : Option (List ℕ)) (side : Option Side) → one ≢ other → side ≡ Some (side_of other) → IsDifference one other side
difference_some one other side differ is = record { same = λ same. absurd (differ same); differ = λ _. is }

one_digest : (texts : Texts) → AreDigests texts → (tree : Tree) (rank : ℕ) (one other : Piece) (x y : List ℕ) → x ≡ y → IsChunk texts tree rank one x → IsChunk texts tree rank other y → one.digest ≡ other.digest
one_digest texts are tree rank one other x y same c d =
    let sealed : c.sealed ≡ d.sealed = one_record tree rank x y c.sealed d.sealed same c.opened d.opened in
    let first : sha256 c.sealed ≡ one.digest.0 = are.digest one.digest.0 c.sealed c.known in
    let second : sha256 d.sealed ≡ other.digest.0 = are.digest other.digest.0 d.sealed d.known in
    digest_is one.digest other.digest (sym first ∙ ap sha256 sealed ∙ second)

-- a leaf stands for one chunk, or none
one_leaf_of : (texts : Texts) → IsOneText texts → (tree : Tree) (rank : ℕ) (leaf : Option Piece) (one other : Option (List ℕ)) → IsLeafOf texts tree rank leaf one → IsLeafOf texts tree rank leaf other → one ≡ other
one_leaf_of texts unique tree rank None None None h k = refl
one_leaf_of texts unique tree rank None (Some x) other h k = absurd h
one_leaf_of texts unique tree rank None None (Some y) h k = absurd k
one_leaf_of texts unique tree rank (Some piece) None other h k = absurd h
one_leaf_of texts unique tree rank (Some piece) (Some x) None h k = absurd k
one_leaf_of texts unique tree rank (Some piece) (Some x) (Some y) h k = ap Some (one_chunk texts unique tree rank piece piece x y refl h k)

leaf_as : (texts : Texts) (a b : Tree) → IsOneKey a b → (rank : ℕ) (leaf : Option Piece) (chunk : Option (List ℕ)) → IsLeafOf texts b rank leaf chunk → IsLeafOf texts a rank leaf chunk
leaf_as texts a b k rank None None h = h
leaf_as texts a b k rank None (Some y) h = h
leaf_as texts a b k rank (Some piece) None h = h
leaf_as texts a b k rank (Some piece) (Some y) h = chunk_as texts a b k rank piece y h

some_is : (x y : List ℕ) → Some x ≡ Some y → x ≡ y
some_is x y h = cc h

-- what is told of two leaves is told of their chunks
difference_of : (texts : Texts) → AreDigests texts → (a b : Tree) (rank : ℕ) (leaf_a leaf_b : Option Piece) (one other : Option (List ℕ)) (side : Option Side)
    → IsLeafOf texts a rank leaf_a one → IsLeafOf texts b rank leaf_b other → IsLeafTold texts a b rank leaf_a leaf_b side → IsDifference one other side
difference_of texts are a b rank None None None None side h k is = difference_none None None side refl is
difference_of texts are a b rank None leaf_b (Some x) other side h k is = absurd h
difference_of texts are a b rank (Some p) leaf_b None other side h k is = absurd h
difference_of texts are a b rank leaf_a None one (Some y) side h k is = absurd k
difference_of texts are a b rank leaf_a (Some q) one None side h k is = absurd k
difference_of texts are a b rank (Some p) None (Some x) None side h k is = difference_some (Some x) None side (λ same. absurd (cc same)) is
difference_of texts are a b rank None (Some q) None (Some y) side h k is = difference_some None (Some y) side (λ same. absurd (cc same)) is
difference_of texts are a b rank (Some p) (Some q) (Some x) (Some y) side h k (inl (is, inl (key, same))) =
    difference_none (Some x) (Some y) side (ap Some (one_chunk texts are.one a rank p q x y same h (chunk_as texts a b key rank q y k))) is
difference_of texts are a b rank (Some p) (Some q) (Some x) (Some y) side h k (inl (is, inr s)) =
    difference_none (Some x) (Some y) side
    (ap Some (one_chunk texts are.one a rank p p x s.bytes refl h s.first ∙ one_chunk texts are.one b rank q q s.bytes y refl s.second k)) is
difference_of texts are a b rank (Some p) (Some q) (Some x) (Some y) side h k (inr (is, inl (key, differ))) =
    difference_some (Some x) (Some y) side (λ same. differ (one_digest texts are a rank p q x y (some_is x y same) h (chunk_as texts a b key rank q y k))) is
difference_of texts are a b rank (Some p) (Some q) (Some x) (Some y) side h k (inr (is, inr s)) =
    difference_some (Some x) (Some y) side (λ same. s.differ (one_chunk texts are.one a rank p p s.first_bytes x refl s.first h ∙ some_is x y same ∙ one_chunk texts are.one b rank q q y s.second_bytes refl k s.second)) is

-- what is told of two trees is where their maps differ
pub told_differs : (texts : Texts) → AreDigests texts → (a b : Tree) (height number : ℕ) (in_a in_b : Option Piece) (rank : ℕ) (leaf_a leaf_b : Option Piece) (one other : Option (List ℕ)) (side : Option Side)
    → IsAt (nodes_of texts a) height number in_a rank leaf_a → IsAt (nodes_of texts b) height number in_b rank leaf_b → IsLeafOf texts a rank leaf_a one → IsLeafOf texts b rank leaf_b other
    → IsTold texts a b height number in_a in_b rank side → IsDifference one other side
told_differs texts are a b height number in_a in_b rank leaf_a leaf_b one other side at_a at_b h k (inl (s, is)) =
    let grows = nodes_as texts a b s.one_key in
    let leaves : leaf_a ≡ leaf_b = shared_leaf (nodes_of texts a) (one_nodes texts a are.one) (by_digest texts a) height number in_a in_b rank s.level s.one s.other leaf_a leaf_b s.digest
    s.way_a (way_as (nodes_of texts b) (nodes_of texts a) grows height number in_b rank s.level s.other s.way_b) at_a (at_later (nodes_of texts b) (nodes_of texts a) grows height number in_b rank leaf_b at_b) in
    difference_none one other side
    (one_leaf_of texts are.one a rank leaf_b one other (subst (λ (l : Option Piece). IsLeafOf texts a rank l one) leaves h) (leaf_as texts a b s.one_key rank leaf_b other k)) is
told_differs texts are a b height number in_a in_b rank leaf_a leaf_b one other side at_a at_b h k (inr t) =
    let is_a : t.leaf_a ≡ leaf_a = one_leaf (nodes_of texts a) (one_nodes texts a are.one) height number in_a rank t.leaf_a leaf_a t.at_a at_a in
    let is_b : t.leaf_b ≡ leaf_b = one_leaf (nodes_of texts b) (one_nodes texts b are.one) height number in_b rank t.leaf_b leaf_b t.at_b at_b in
    difference_of texts are a b rank leaf_a leaf_b one other side h k
    (subst (λ (l : Option Piece). IsLeafTold texts a b rank l leaf_b side) is_a (subst (λ (l : Option Piece). IsLeafTold texts a b rank t.leaf_a l side) is_b t.leaf_told))
