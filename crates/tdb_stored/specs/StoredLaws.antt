-- The laws of the universe of what chunks of objects hold.
use Rattle.std.specs.Prelude.{◌≡◌, ℕ, ◌<◌, ◌^◌, Bool, nat_lt, List, ◌++◌, take, drop, if◌then◌else◌}
use Rattle.std.proofs.Common.{sym, ap, ◌∙◌, arith, subst}
use Rattle.std.specs.Int.{w32, to_be_bytes, from_be_bytes}
use Rattle.std.proofs.lemmas.Nat.{from_be_bytes-to_be_bytes_4}
use Rattle.std.proofs.lemmas.Bool.{lt-ltb}
use Rattle.tdb_base.proofs.SameFields.{same_u32}
use Rattle.tdb_stored.specs.Entries.{entries_bytes}
use Rattle.tdb_stored.specs.Catalog.{catalog_bytes}
use Rattle.tdb_stored.specs.Head.{head_bytes}
use Rattle.tdb_stored.specs.Node.{node_bytes}
use Rattle.tdb_stored.specs.Directory.{directory_bytes}
use Rattle.tdb_stored.specs.Bucket.{bucket_bytes}
use Rattle.tdb_stored.specs.BodyLaws.{one_entries, one_catalog, one_head, one_node, one_directory, one_bucket}
use Rattle.tdb_stored.specs.Stored.{stored_class, stored_pickle, ReadsStored, IsForm, IsNewestStored}
use Rattle.tdb_stored.specs.declared.pair.Pair.{Pair}
use Rattle.tdb_stored.specs.declared.sorted.Sorted.{Sorted as ASorted}
use Rattle.tdb_stored.specs.declared.member.Member.{Member as AMember}
use Rattle.tdb_stored.specs.declared.stored.Stored.{Stored}
use Rattle.tdb_stored.specs.declared.stored.Stored.TheVariants as stored

-- the class of an object by the number that its chunk begins with
class_by : ℕ → ℕ
class_by first = if nat_lt first 65536 then 0 else first

-- two spellings of one list of bytes have one number and one body
pub same_form : (bytes : List ℕ) (m n : ℕ) (x y : List ℕ) → m < 2 ^ 32 → n < 2 ^ 32 → IsForm bytes m x → IsForm bytes n y
    → (m ≡ n) × (x ≡ y)
same_form bytes m n x y m_fits n_fits is_m is_n = same_u32 m n x y m_fits n_fits (sym is_m ∙ is_n)

-- the number that the bytes begin with
number_in_front : (bytes : List ℕ) (n : ℕ) (x : List ℕ) → n < 2 ^ 32 → IsForm bytes n x → from_be_bytes w32 (take 4 bytes) ≡ n
number_in_front bytes n x fits is = ap (λ (l : List ℕ). from_be_bytes w32 (take 4 l)) is ∙ from_be_bytes-to_be_bytes_4 n fits

class_of-mask : (mask : ℕ) → mask < 65536 → class_by mask ≡ 0
unfolding class_by
class_of-mask mask small = ap (λ (b : Bool). if b then 0 else mask) (lt-ltb mask 65536 small)

abbrev sorted_of : List Pair → ASorted
sorted_of entries = record { entries = entries }

module _ {U : Type 0} (reads : List ℕ → U → Type 0) where
  -- the class of what the bytes stand for is told by the number in front
  class_is : (bytes : List ℕ) (x : Stored U) → ReadsStored reads bytes x → stored_class x ≡ class_by (from_be_bytes w32 (take 4 bytes))
  unfolding class_by
  class_is bytes (stored.Member m) is = sym (ap class_by (number_in_front bytes m.mask is.1 (omega (arith, is.0)) is.2)
      ∙ class_of-mask m.mask is.0)
  class_is bytes (stored.Catalog c) is = sym (ap class_by (number_in_front bytes 65536 (catalog_bytes c) (omega arith) is.1))
  class_is bytes (stored.Head h) is = sym (ap class_by (number_in_front bytes 65537 (head_bytes h) (omega arith) is.1))
  class_is bytes (stored.Sorted s) is = sym (ap class_by (number_in_front bytes 65538 (entries_bytes s.entries) (omega arith) is.1))
  class_is bytes (stored.Node n) is = sym (ap class_by (number_in_front bytes 65539 (node_bytes n) (omega arith) is.1))
  class_is bytes (stored.Directory d) is = sym (ap class_by (number_in_front bytes 65540 (directory_bytes d) (omega arith) is.1))
  class_is bytes (stored.Bucket b) is = sym (ap class_by (number_in_front bytes 65541 (bucket_bytes b) (omega arith) is.1))

  abbrev member_of : U → ℕ → AMember U
  member_of value mask = record { value = value; mask = mask }

  module _ (one_object : (bytes : List ℕ) (v w : U) → reads bytes v → reads bytes w → v ≡ w) where
    one_member : (bytes : List ℕ) (a b : AMember U) → ReadsStored reads bytes (stored.Member a)
        → ReadsStored reads bytes (stored.Member b) → a ≡ b
    one_member bytes a b is_a is_b =
        let forms = same_form bytes a.mask b.mask is_a.1 is_b.1 (omega (arith, is_a.0)) (omega (arith, is_b.0)) is_a.2 is_b.2 in
        let value = one_object is_a.1 a.value b.value is_a.3 (subst (λ (l : List ℕ). reads l b.value) (sym forms.1) is_b.3) in
        let same : member_of a.value a.mask ≡ member_of b.value b.mask = cc (value, forms.0) in
        same

    one_of_class : (bytes : List ℕ) (x y : Stored U) → stored_class x ≡ stored_class y → ReadsStored reads bytes x
        → ReadsStored reads bytes y → x ≡ y
    one_of_class bytes (stored.Member a) (stored.Member b) same is_x is_y = ap stored.Member (one_member bytes a b is_x is_y)
    one_of_class bytes (stored.Catalog a) (stored.Catalog b) same is_x is_y =
        ap stored.Catalog (one_catalog a b is_x.0 is_y.0
        (same_form bytes 65536 65536 (catalog_bytes a) (catalog_bytes b) (omega arith) (omega arith) is_x.1 is_y.1).1)
    one_of_class bytes (stored.Head a) (stored.Head b) same is_x is_y =
        ap stored.Head (one_head a b is_x.0 is_y.0
        (same_form bytes 65537 65537 (head_bytes a) (head_bytes b) (omega arith) (omega arith) is_x.1 is_y.1).1)
    one_of_class bytes (stored.Sorted a) (stored.Sorted b) same is_x is_y =
        let entries = one_entries 512 a.entries b.entries (omega arith) is_x.0 is_y.0
        (same_form bytes 65538 65538 (entries_bytes a.entries) (entries_bytes b.entries) (omega arith) (omega arith) is_x.1 is_y.1).1 in
        ap (λ (l : List Pair). stored.Sorted (sorted_of l)) entries
    one_of_class bytes (stored.Node a) (stored.Node b) same is_x is_y =
        ap stored.Node (one_node a b is_x.0 is_y.0
        (same_form bytes 65539 65539 (node_bytes a) (node_bytes b) (omega arith) (omega arith) is_x.1 is_y.1).1)
    one_of_class bytes (stored.Directory a) (stored.Directory b) same is_x is_y =
        ap stored.Directory (one_directory a b is_x.0 is_y.0
        (same_form bytes 65540 65540 (directory_bytes a) (directory_bytes b) (omega arith) (omega arith) is_x.1 is_y.1).1)
    one_of_class bytes (stored.Bucket a) (stored.Bucket b) same is_x is_y =
        ap stored.Bucket (one_bucket a b is_x.0 is_y.0
        (same_form bytes 65541 65541 (bucket_bytes a) (bucket_bytes b) (omega arith) (omega arith) is_x.1 is_y.1).1)
    one_of_class bytes x y same is_x is_y = absurd (omega (arith, same))

    -- bytes stand for one object
    pub one_stored : (bytes : List ℕ) (x y : Stored U) → ReadsStored reads bytes x → ReadsStored reads bytes y → x ≡ y
    one_stored bytes x y is_x is_y = one_of_class bytes x y (class_is bytes x is_x ∙ sym (class_is bytes y is_y)) is_x is_y

  module _ (is_newest : List ℕ → Type 0) (pickle_of : U → List ℕ) where
    -- in the newest version an object has one pickle
    pub one_stored_pickle : ((bytes : List ℕ) (v : U) → reads bytes v → is_newest bytes → bytes ≡ pickle_of v)
        → (bytes : List ℕ) (x : Stored U) → ReadsStored reads bytes x → IsNewestStored is_newest bytes → bytes ≡ stored_pickle pickle_of x
    one_stored_pickle one bytes (stored.Member m) is newest =
        let behind : drop 4 bytes ≡ is.1 = ap (λ (l : List ℕ). drop 4 l) is.2 in
        let front : from_be_bytes w32 (take 4 bytes) ≡ m.mask = number_in_front bytes m.mask is.1 (omega (arith, is.0)) is.2 in
        let pickle = one is.1 m.value is.3 (subst is_newest behind (newest (omega (arith, front, is.0)))) in
        is.2 ∙ ap (λ (l : List ℕ). to_be_bytes w32 m.mask ++ l) pickle
    one_stored_pickle one bytes (stored.Catalog c) is newest = is.1
    one_stored_pickle one bytes (stored.Head h) is newest = is.1
    one_stored_pickle one bytes (stored.Sorted s) is newest = is.1
    one_stored_pickle one bytes (stored.Node n) is newest = is.1
    one_stored_pickle one bytes (stored.Directory d) is newest = is.1
    one_stored_pickle one bytes (stored.Bucket b) is newest = is.1

    pub stored_pickle_is_newest : ((v : U) → reads (pickle_of v) v → is_newest (pickle_of v))
        → (x : Stored U) → ReadsStored reads (stored_pickle pickle_of x) x → IsNewestStored is_newest (stored_pickle pickle_of x)
    stored_pickle_is_newest newest (stored.Member m) is small =
        let behind : pickle_of m.value ≡ is.1 = ap (λ (l : List ℕ). drop 4 l) is.2 in
        newest m.value (subst (λ (l : List ℕ). reads l m.value) (sym behind) is.3)
    stored_pickle_is_newest newest (stored.Catalog c) is small = absurd (omega (arith, small))
    stored_pickle_is_newest newest (stored.Head h) is small = absurd (omega (arith, small))
    stored_pickle_is_newest newest (stored.Sorted s) is small = absurd (omega (arith, small))
    stored_pickle_is_newest newest (stored.Node n) is small = absurd (omega (arith, small))
    stored_pickle_is_newest newest (stored.Directory d) is small = absurd (omega (arith, small))
    stored_pickle_is_newest newest (stored.Bucket b) is small = absurd (omega (arith, small))
