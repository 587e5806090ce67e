-- The laws of the words that the contracts use.
use native.Mathlib.Omega.{arith}
use Rattle.std.proofs.Common.{◌≡◌, ◌≤◌, ◌-◌, ℕ, zero, suc, Bool, true, false, cond, List, [], ◌∷◌, None, Some, Option, refl, sym, ap, subst, take, length, length-take, ◌⊎◌, inl, inr, ◌∙◌}
use Rattle.std.specs.Map.{lookup, remove_entry}
use Rattle.tdb_node.specs.declared.node.Node.{Node}
use Rattle.tdb_base.specs.declared.piece.Digest.{Digest}
use Rattle.tdb_cache.specs.CachedNodes.{CachedNodes, node_under, is_digest, asked, with_node, with_new, with_first}
use Rattle.tdb_cache.proofs.Cached.{same, is_same}

abbrev Nodes : Type 0
Nodes = List (Digest × Node)

length-remove : (test : Digest → Bool) (nodes : Nodes) (node : Node) → lookup test nodes ≡ Some node → suc (length (remove_entry test nodes)) ≡ length nodes
length-remove test [] node is = cc
length-remove test (e ∷ es) node is = (elim (test e.0) as (λ b. test e.0 ≡ b → suc (length (remove_entry test (e ∷ es))) ≡ length (e ∷ es)) [
  | true ↦ λ t. rw t refl
  | false ↦ λ t. rw t (ap suc (length-remove test es node (rw t at is)))
]) refl

pub asked-within : (cache : CachedNodes) (digest : Digest) → length cache.nodes ≤ cache.capacity → length (asked cache digest).nodes ≤ cache.capacity
asked-within cache digest within = (elim (node_under cache digest) as (λ o. node_under cache digest ≡ o → length (asked cache digest).nodes ≤ cache.capacity) [
  | None ↦ λ is. rw is within
  | Some node ↦ λ is. rw is (rw (length-remove (is_digest digest) cache.nodes node is) within)
]) refl

pub with_node-within : (cache : CachedNodes) (digest : Digest) (node : Node) → 1 ≤ cache.capacity → length cache.nodes ≤ cache.capacity → length (with_node cache digest node).nodes ≤ cache.capacity
with_node-within cache digest node some within = (elim (node_under cache digest) as (λ o. node_under cache digest ≡ o → length (with_node cache digest node).nodes ≤ cache.capacity) [
  | None ↦ λ is. rw is (omega (arith, length-take (cache.capacity - 1) cache.nodes, some))
  | Some old ↦ λ is. rw is (rw (length-remove (is_digest digest) cache.nodes old is) within)
]) refl

-- a look-up under another digest passes over what was taken out
passed : (digest other : Digest) → is_digest other digest ≡ false → (nodes : Nodes) → lookup (is_digest other) (remove_entry (is_digest digest) nodes) ≡ lookup (is_digest other) nodes
passed digest other apart [] = refl
passed digest other apart (e ∷ es) = (elim (is_digest digest e.0) as (λ b. is_digest digest e.0 ≡ b → lookup (is_digest other) (remove_entry (is_digest digest) (e ∷ es)) ≡ lookup (is_digest other) (e ∷ es)) [
  | true ↦ λ t. let key : is_digest other e.0 ≡ false = subst (λ d. is_digest other d ≡ false) (same digest e.0 t) apart in rw t (rw key refl)
  | false ↦ λ t. rw t (ap (λ (o : Option Node). cond (is_digest other e.0) (Some e.1) o) (passed digest other apart es))
]) refl

taken : (test : Digest → Bool) (n : ℕ) (nodes : Nodes) (node : Node) → lookup test (take n nodes) ≡ Some node → lookup test nodes ≡ Some node
taken test zero nodes node is = cc
taken test (suc n) [] node is = is
taken test (suc n) (e ∷ es) node is = (elim (test e.0) as (λ b. test e.0 ≡ b → lookup test (e ∷ es) ≡ Some node) [
  | true ↦ λ t. rw t (rw t at is)
  | false ↦ λ t. rw t (taken test n es node (rw t at is))
]) refl

first-others : (cache : CachedNodes) (digest other : Digest) (node : Node) → is_digest other digest ≡ false → node_under (with_first cache digest node) other ≡ node_under cache other
first-others cache digest other node apart = rw apart (passed digest other apart cache.nodes)

pub asked-keeps : (cache : CachedNodes) (digest other : Digest) → node_under (asked cache digest) other ≡ node_under cache other
asked-keeps cache digest other = (elim (node_under cache digest) as (λ o. node_under cache digest ≡ o → node_under (asked cache digest) other ≡ node_under cache other) [
  | None ↦ λ is. rw is refl
  | Some node ↦ λ is. (elim (is_digest other digest) as (λ b. is_digest other digest ≡ b → node_under (asked cache digest) other ≡ node_under cache other) [
    | true ↦ λ t. let key = same other digest t in let there : node_under cache other ≡ Some node = subst (λ d. node_under cache d ≡ Some node) (sym key) is in rw is (rw t (sym there))
    | false ↦ λ t. rw is (first-others cache digest other node t)
  ]) refl
]) refl

pub kept-found : (cache : CachedNodes) (digest : Digest) (node : Node) → node_under (with_node cache digest node) digest ≡ Some node
kept-found cache digest node = (elim (node_under cache digest) as (λ o. node_under cache digest ≡ o → node_under (with_node cache digest node) digest ≡ Some node) [
  | None ↦ λ is. rw is (rw (is_same digest) refl)
  | Some old ↦ λ is. rw is (rw (is_same digest) refl)
]) refl

apart-found : (cache : CachedNodes) (digest other : Digest) (node found : Node) → is_digest other digest ≡ false → node_under (with_node cache digest node) other ≡ Some found → node_under cache other ≡ Some found
apart-found cache digest other node found apart there = (elim (node_under cache digest) as (λ o. node_under cache digest ≡ o → node_under cache other ≡ Some found) [
  | None ↦ λ is. let now : node_under (with_new cache digest node) other ≡ Some found = rw is at there in taken (is_digest other) (cache.capacity - 1) cache.nodes found (rw apart at now)
  | Some old ↦ λ is. let now : node_under (with_first cache digest node) other ≡ Some found = rw is at there in sym (first-others cache digest other node apart) ∙ now
]) refl

pub others-found : (cache : CachedNodes) (digest other : Digest) (node found : Node) → node_under (with_node cache digest node) other ≡ Some found → ((other ≡ digest) × (found ≡ node)) ⊎ (node_under cache other ≡ Some found)
others-found cache digest other node found there = (elim (is_digest other digest) as (λ b. is_digest other digest ≡ b → ((other ≡ digest) × (found ≡ node)) ⊎ (node_under cache other ≡ Some found)) [
  | true ↦ λ t. let key = same other digest t in let now : node_under (with_node cache digest node) digest ≡ Some found = subst (λ d. node_under (with_node cache digest node) d ≡ Some found) key there in
      let one : found ≡ node = cc (now, kept-found cache digest node) in inl (key, one)
  | false ↦ λ t. inr (apart-found cache digest other node found t there)
]) refl
