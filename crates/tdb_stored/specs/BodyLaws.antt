-- The bytes of each form are those of one object.
use Rattle.std.specs.Prelude.{◌≡◌, ℕ, ◌<◌, ◌≤◌, ◌^◌, List, [], ◌++◌, length}
use Rattle.std.proofs.Common.{ap, arith}
use Rattle.std.specs.List.{flat_map}
use Rattle.std.specs.Int.{w32, to_be_bytes}
use Rattle.std.proofs.Math.Pow.{pow_mono}
use Rattle.tdb_base.proofs.SameFields.{same_u32}
use Rattle.tdb_stored.specs.Spelling.{AreRanks}
use Rattle.tdb_stored.specs.SpellingLaws.{IsPrefixFree, one_rank, same_counted, same_items}
use Rattle.tdb_stored.specs.Pair.{pair_bytes, IsPair}
use Rattle.tdb_stored.specs.PairLaws.{one_pair}
use Rattle.tdb_stored.specs.Entries.{IsEntries, entries_bytes}
use Rattle.tdb_stored.specs.Catalog.{listed_bytes, catalog_bytes, IsCatalog, IsListed}
use Rattle.tdb_stored.specs.CatalogLaws.{one_listed}
use Rattle.tdb_stored.specs.Head.{HeadFields, indexed_bytes, head_bytes, IsHead, IsIndexed}
use Rattle.tdb_stored.specs.HeadLaws.{one_indexed}
use Rattle.tdb_stored.specs.Inner.{InnerFields, inner_bytes, IsInner}
use Rattle.tdb_stored.specs.Node.{node_bytes, IsTreeNode}
use Rattle.tdb_stored.specs.Directory.{DirectoryFields, directory_bytes, IsDirectory}
use Rattle.tdb_stored.specs.Bucket.{bucket_bytes, IsBucket}
use Rattle.tdb_stored.specs.declared.pair.Pair.{Pair}
use Rattle.tdb_stored.specs.declared.catalog.Listed.{Listed}
use Rattle.tdb_stored.specs.declared.head.Indexed.{Indexed}
use Rattle.tdb_stored.specs.declared.bucket.Bucket.{Bucket}
use Rattle.tdb_stored.specs.declared.node.TreeNode.{TreeNode}
use Rattle.tdb_stored.specs.declared.node.TreeNode.TheVariants.{Leaf, Inner}

pub pairs_free : IsPrefixFree IsPair pair_bytes
pairs_free = record { one = one_pair }

pub listed_free : IsPrefixFree IsListed listed_bytes
listed_free = record { one = one_listed }

pub indexed_free : IsPrefixFree IsIndexed indexed_bytes
indexed_free = record { one = one_indexed }

pub ranks_free : IsPrefixFree (λ (rank : ℕ). rank < 2 ^ 32) (to_be_bytes w32)
ranks_free = record { one = one_rank }

ended : (a b : List ℕ) → a ≡ b → a ++ [] ≡ b ++ []
ended a b e = ap (λ (l : List ℕ). l ++ []) e

pub same_entries : (limit : ℕ) (a b : List Pair) (r s : List ℕ) → limit < 2 ^ 32 → IsEntries limit a → IsEntries limit b
    → entries_bytes a ++ r ≡ entries_bytes b ++ s → (a ≡ b) × (r ≡ s)
same_entries limit a b r s fits is_a is_b e = same_counted pairs_free limit a b r s fits (is_a.values, is_a.size) (is_b.values, is_b.size) e

pub one_entries : (limit : ℕ) (a b : List Pair) → limit < 2 ^ 32 → IsEntries limit a → IsEntries limit b
    → entries_bytes a ≡ entries_bytes b → a ≡ b
one_entries limit a b fits is_a is_b e = (same_entries limit a b [] [] fits is_a is_b (ended (entries_bytes a) (entries_bytes b) e)).0

pub one_catalog : (a b : List Listed) → IsCatalog a → IsCatalog b → catalog_bytes a ≡ catalog_bytes b → a ≡ b
one_catalog a b is_a is_b e =
    (same_counted listed_free 16 a b [] [] (omega arith) (is_a.values, is_a.size) (is_b.values, is_b.size)
    (ended (catalog_bytes a) (catalog_bytes b) e)).0

head_of : ℕ → List Indexed → HeadFields
head_of class indexes = record { class = class; indexes = indexes }

pub one_head : (a b : HeadFields) → IsHead a → IsHead b → head_bytes a ≡ head_bytes b → a ≡ b
unfolding head_of
one_head a b is_a is_b e =
    let class = same_u32 a.class b.class _ _ is_a.class is_b.class e in
    let indexes = same_counted indexed_free 4 a.indexes b.indexes [] [] (omega arith) (is_a.values, is_a.indexes.size)
    (is_b.values, is_b.indexes.size) (ended _ _ class.1) in
    let same : head_of a.class a.indexes ≡ head_of b.class b.indexes = cc (class.0, indexes.0) in
    same

one_ranks : (a b : List ℕ) → AreRanks a → AreRanks b → length a ≡ length b
    → flat_map (to_be_bytes w32) a ≡ flat_map (to_be_bytes w32) b → a ≡ b
one_ranks a b is_a is_b same e = (same_items ranks_free a b [] [] is_a is_b same (ended _ _ e)).0

inner_of : List Pair → List ℕ → InnerFields
inner_of separators children = record { separators = separators; children = children }

pub one_inner : (a b : InnerFields) → IsInner a → IsInner b → inner_bytes a ≡ inner_bytes b → a ≡ b
unfolding inner_of
one_inner a b is_a is_b e =
    let separators = same_entries 32 a.separators b.separators _ _ (omega arith) is_a.separators is_b.separators e in
    let sizes : length a.separators ≡ length b.separators = ap (λ (l : List Pair). length l) separators.0 in
    let children = one_ranks a.children b.children is_a.children is_b.children
    (omega (arith, is_a.count, is_b.count, sizes)) separators.1 in
    let same : inner_of a.separators a.children ≡ inner_of b.separators b.children = cc (separators.0, children) in
    same

pub one_node : (a b : TreeNode) → IsTreeNode a → IsTreeNode b → node_bytes a ≡ node_bytes b → a ≡ b
one_node (Leaf a) (Leaf b) is_a is_b e =
    ap Leaf (one_entries 32 a b (omega arith) is_a is_b (same_u32 0 0 _ _ (omega arith) (omega arith) e).1)
one_node (Inner a) (Inner b) is_a is_b e = ap Inner (one_inner a b is_a is_b (same_u32 1 1 _ _ (omega arith) (omega arith) e).1)
one_node (Leaf a) (Inner b) is_a is_b e =
    absurd (omega (arith, (same_u32 0 1 (entries_bytes a) (inner_bytes b) (omega arith) (omega arith) e).0))
one_node (Inner a) (Leaf b) is_a is_b e =
    absurd (omega (arith, (same_u32 1 0 (inner_bytes a) (entries_bytes b) (omega arith) (omega arith) e).0))

directory_of : ℕ → ℕ → ℕ → List ℕ → DirectoryFields
directory_of level split entries buckets = record { level = level; split = split; entries = entries; buckets = buckets }

-- fewer buckets are split than four bytes hold
pub split_fits : (d : DirectoryFields) → IsDirectory d → d.split < 2 ^ 32
split_fits d is =
    let small : d.level ≤ 32 = omega (arith, is.count.level_small) in
    let power : 2 ^ d.level ≤ 2 ^ 32 = pow_mono small in
    omega (arith, power, is.count.split_small)

pub one_directory : (a b : DirectoryFields) → IsDirectory a → IsDirectory b → directory_bytes a ≡ directory_bytes b → a ≡ b
unfolding directory_of
one_directory a b is_a is_b e =
    let level = same_u32 a.level b.level _ _ (omega (arith, is_a.count.level_small)) (omega (arith, is_b.count.level_small)) e in
    let split = same_u32 a.split b.split _ _ (split_fits a is_a) (split_fits b is_b) level.1 in
    let entries = same_u32 a.entries b.entries _ _ is_a.entries is_b.entries split.1 in
    let powers : 2 ^ a.level ≡ 2 ^ b.level = ap (λ (n : ℕ). 2 ^ n) level.0 in
    let sizes : length a.buckets ≡ length b.buckets = omega (arith, is_a.count.count_is, is_b.count.count_is, powers, split.0) in
    let buckets = one_ranks a.buckets b.buckets is_a.buckets is_b.buckets sizes entries.1 in
    let same : directory_of a.level a.split a.entries a.buckets ≡ directory_of b.level b.split b.entries b.buckets =
    cc (level.0, split.0, entries.0, buckets) in
    same

pub one_bucket : (a b : Bucket) → IsBucket a → IsBucket b → bucket_bytes a ≡ bucket_bytes b → a ≡ b
one_bucket a b is_a is_b e =
    let next = same_u32 a.next b.next (entries_bytes a.entries) (entries_bytes b.entries) is_a.next is_b.next e in
    let entries = one_entries 128 a.entries b.entries (omega arith) is_a.entries is_b.entries next.1 in
    let made : ℕ → List Pair → Bucket = λ next entries. record { next = next; entries = entries } in
    let same : made a.next a.entries ≡ made b.next b.entries = cc (next.0, entries) in
    same
