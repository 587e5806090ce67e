-- What a cache's map of boxes says of its nodes.
use Rattle.std.proofs.Common.{◌≡◌, ℕ, ◌-◌, Bool, true, false, List, [], ◌∷◌, None, Some, Option, map, refl, ap, Result, Ok, Err, OnOk, OnErr, IsSome, IsOk, ◌⊎◌, inl, inr, ◌∙◌}
use Rattle.std.specs.Option.{option_map, option_map_or}
use Rattle.std.specs.Map.{lookup, lookup_entry, remove_entry}
use Rattle.std.specs.Global.{Box}
use Rattle.std.proofs.lemmas.Slice.Eq.{bytes_eq-Decides}
use Rattle.std.proofs.lemmas.Map.Made.{lookup-map_values}
use Rattle.std.proofs.lemmas.List.{take-map}
use Rattle.lru.proofs.CallerLemmas.{Contains-lookup_entry}
use Rattle.lru.specs.LruCache.{LruCache, lru_cache, promoted, put_entries}
use Rattle.tdb_node.specs.declared.node.Node.{Node}
use Rattle.tdb_base.specs.declared.piece.Digest.{Digest}
use Rattle.tdb_cache.specs.CachedNodes.{CachedNodes, nodes_in, node_under, is_digest, asked, with_node, with_first}

abbrev pub Boxes : Type 0
Boxes = List (Digest × Box Node)

abbrev pub seen : Digest × Box Node → Digest × Node
seen entry = (entry.0, entry.1.value)

pub node_under-lookup : (digest : Digest) (cache : LruCache Digest (Box Node)) → node_under (nodes_in cache) digest ≡ option_map (λ (b : Box Node). b.value) (lookup (is_digest digest) cache.entries)
node_under-lookup digest cache = lookup-map_values (λ (b : Box Node). b.value) (is_digest digest) cache.entries

abbrev digest_of : List ℕ → Digest
digest_of bytes = record { 0 = bytes }

pub same : (digest other : Digest) → is_digest digest other ≡ true → digest ≡ other
same digest other is = let bytes : digest.0 ≡ other.0 = (bytes_eq-Decides digest.0 other.0).0 is in ap digest_of bytes

module _ (test : Digest → Bool) where
  pub lookup-seen : (boxes : Boxes) → lookup test (map seen boxes) ≡ option_map (λ (e : Digest × Box Node). e.1.value) (lookup_entry test boxes)
  lookup-seen [] = refl
  lookup-seen (e ∷ es) = (elim (test e.0) as (λ b. test e.0 ≡ b → lookup test (map seen (e ∷ es)) ≡ option_map (λ (f : Digest × Box Node). f.1.value) (lookup_entry test (e ∷ es))) [
    | true ↦ λ t. rw t refl
    | false ↦ λ t. rw t (lookup-seen es)
  ]) refl

  pub remove-seen : (boxes : Boxes) → remove_entry test (map seen boxes) ≡ map seen (remove_entry test boxes)
  remove-seen [] = refl
  remove-seen (e ∷ es) = (elim (test e.0) as (λ b. test e.0 ≡ b → remove_entry test (map seen (e ∷ es)) ≡ map seen (remove_entry test (e ∷ es))) [
    | true ↦ λ t. rw t refl
    | false ↦ λ t. rw t (ap (λ (l : List (Digest × Node)). seen e ∷ l) (remove-seen es))
  ]) refl

-- the key of the first entry whose key passes is the digest
found_key : (digest : Digest) (boxes : Boxes) (e : Digest × Box Node) → lookup_entry (is_digest digest) boxes ≡ Some e → digest ≡ e.0
found_key digest boxes e is = same digest e.0 (Contains-lookup_entry (is_digest digest) boxes e is).1

module _ (digest : Digest) (cache : LruCache Digest (Box Node)) where
  under : (o : Option (Digest × Box Node)) → lookup_entry (is_digest digest) cache.entries ≡ o → node_under (nodes_in cache) digest ≡ option_map (λ (e : Digest × Box Node). e.1.value) o
  under o is = lookup-seen (is_digest digest) cache.entries ∙ ap (option_map (λ (e : Digest × Box Node). e.1.value)) is

  replaced : (e : Digest × Box Node) (node : Box Node) → lookup_entry (is_digest digest) cache.entries ≡ Some e
      → nodes_in (lru_cache ((e.0, node) ∷ remove_entry (is_digest digest) cache.entries) cache.cap) ≡ with_first (nodes_in cache) digest node.value
  replaced e node is =
      let key = found_key digest cache.entries e is in
      let rest = remove-seen (is_digest digest) cache.entries in
      cc (key, rest)

  pub promoted-asked : nodes_in (lru_cache (promoted (is_digest digest) cache.entries) cache.cap) ≡ asked (nodes_in cache) digest
  promoted-asked = (elim (lookup_entry (is_digest digest) cache.entries) as (λ o. lookup_entry (is_digest digest) cache.entries ≡ o → nodes_in (lru_cache (promoted (is_digest digest) cache.entries) cache.cap) ≡ asked (nodes_in cache) digest) [
    | None ↦ λ is. rw is (rw (under None is) refl)
    | Some e ↦ λ is. rw is (rw (under (Some e) is) (replaced e e.1 is))
  ]) refl

  pub put-with_node : (node : Box Node) → nodes_in (lru_cache (put_entries is_digest cache digest node) cache.cap) ≡ with_node (nodes_in cache) digest node.value
  put-with_node node = (elim (lookup_entry (is_digest digest) cache.entries) as (λ o. lookup_entry (is_digest digest) cache.entries ≡ o → nodes_in (lru_cache (put_entries is_digest cache digest node) cache.cap) ≡ with_node (nodes_in cache) digest node.value) [
    | None ↦ λ is. rw is (rw (under None is) (rw (take-map seen (cache.cap - 1) cache.entries) refl))
    | Some e ↦ λ is. rw is (rw (under (Some e) is) (replaced e node is))
  ]) refl

pub is_same : (digest : Digest) → is_digest digest digest ≡ true
is_same digest = (bytes_eq-Decides digest.0 digest.0).1 refl

-- a node that was asked for is there still
pub under_asked : (cache : CachedNodes) (digest : Digest) → node_under (asked cache digest) digest ≡ node_under cache digest
under_asked cache digest = (elim (node_under cache digest) as (λ o. node_under cache digest ≡ o → node_under (option_map_or (with_first cache digest) o cache) digest ≡ o) [
  | None ↦ λ is. is
  | Some node ↦ λ is. rw (is_same digest) refl
]) refl

-- what `put` says of the nodes, for any result of it
pub kept : {X E : Type 0} (cache after : LruCache Digest (Box Node)) (digest : Digest) (node : Box Node) (result : Result X E)
    → OnOk result (after ≡ lru_cache (put_entries is_digest cache digest node) cache.cap) → OnErr result (after ≡ cache)
    → (IsSome (lookup (is_digest digest) cache.entries) → IsOk result)
    → (nodes_in after ≡ with_node (nodes_in cache) digest node.value) ⊎ ((nodes_in after ≡ nodes_in cache) × (node_under (nodes_in cache) digest ≡ None))
kept cache after digest node (Ok x) entries err succeeds = inl (ap nodes_in entries ∙ put-with_node digest cache node)
kept {X = X} cache after digest node (Err e) entries err succeeds =
    let none : node_under (nodes_in cache) digest ≡ None = (elim (lookup (is_digest digest) cache.entries) as (λ o. lookup (is_digest digest) cache.entries ≡ o → node_under (nodes_in cache) digest ≡ None) [
      | None ↦ λ is. node_under-lookup digest cache ∙ ap (option_map (λ (b : Box Node). b.value)) is
      | Some b ↦ λ is. let no : IsOk {T = X} (Err e) = succeeds (rw is refl) in cc
    ]) refl in
    inr (ap nodes_in err, none)
