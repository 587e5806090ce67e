-- What chunks of objects hold: its classes, and its bytes.
use Rattle.std.specs.Prelude.{◌≡◌, ℕ, ◌<◌, List, ◌++◌, take, drop}
use Rattle.std.specs.Int.{w32, to_be_bytes, from_be_bytes}
use Rattle.tdb_stored.specs.Entries.{IsEntries, entries_bytes}
use Rattle.tdb_stored.specs.Catalog.{IsCatalog, catalog_bytes}
use Rattle.tdb_stored.specs.Head.{IsHead, head_bytes}
use Rattle.tdb_stored.specs.Node.{IsTreeNode, node_bytes}
use Rattle.tdb_stored.specs.Directory.{IsDirectory, directory_bytes}
use Rattle.tdb_stored.specs.Bucket.{IsBucket, bucket_bytes}
use Rattle.tdb_stored.specs.declared.stored.Stored.{Stored}
use Rattle.tdb_stored.specs.declared.stored.Stored.TheVariants as stored

-- the bytes are a number and a body
abbrev pub IsForm : List ℕ → ℕ → List ℕ → Type 0
IsForm bytes class body = bytes ≡ to_be_bytes w32 class ++ body

module _ {U : Type 0} where
  -- a member has class 0, each other object the number that it begins with
  abbrev pub stored_class : Stored U → ℕ
  stored_class (stored.Member member) = 0
  stored_class (stored.Catalog catalog) = 65536
  stored_class (stored.Head head) = 65537
  stored_class (stored.Sorted sorted) = 65538
  stored_class (stored.Node node) = 65539
  stored_class (stored.Directory directory) = 65540
  stored_class (stored.Bucket bucket) = 65541

  -- A member begins with its mask, and its value's pickle follows. Each other object begins with its class.
  abbrev pub stored_pickle : (U → List ℕ) → Stored U → List ℕ
  stored_pickle pickle_of (stored.Member member) = to_be_bytes w32 member.mask ++ pickle_of member.value
  stored_pickle pickle_of (stored.Catalog catalog) = to_be_bytes w32 65536 ++ catalog_bytes catalog
  stored_pickle pickle_of (stored.Head head) = to_be_bytes w32 65537 ++ head_bytes head
  stored_pickle pickle_of (stored.Sorted sorted) = to_be_bytes w32 65538 ++ entries_bytes sorted.entries
  stored_pickle pickle_of (stored.Node node) = to_be_bytes w32 65539 ++ node_bytes node
  stored_pickle pickle_of (stored.Directory directory) = to_be_bytes w32 65540 ++ directory_bytes directory
  stored_pickle pickle_of (stored.Bucket bucket) = to_be_bytes w32 65541 ++ bucket_bytes bucket

  -- The bytes stand for the object. A member's value is what the application reads behind the mask.
  abbrev pub ReadsStored : (List ℕ → U → Type 0) → List ℕ → Stored U → Type 0
  ReadsStored reads bytes (stored.Member member) =
      (member.mask < 65536) × (pickle : List ℕ) × IsForm bytes member.mask pickle × reads pickle member.value
  ReadsStored reads bytes (stored.Catalog catalog) = IsCatalog catalog × IsForm bytes 65536 (catalog_bytes catalog)
  ReadsStored reads bytes (stored.Head head) = IsHead head × IsForm bytes 65537 (head_bytes head)
  ReadsStored reads bytes (stored.Sorted sorted) = IsEntries 512 sorted.entries × IsForm bytes 65538 (entries_bytes sorted.entries)
  ReadsStored reads bytes (stored.Node node) = IsTreeNode node × IsForm bytes 65539 (node_bytes node)
  ReadsStored reads bytes (stored.Directory directory) = IsDirectory directory × IsForm bytes 65540 (directory_bytes directory)
  ReadsStored reads bytes (stored.Bucket bucket) = IsBucket bucket × IsForm bytes 65541 (bucket_bytes bucket)

-- what stands behind the mask of a member is in the newest version
abbrev pub IsNewestStored : (List ℕ → Type 0) → List ℕ → Type 0
IsNewestStored is_newest bytes = from_be_bytes w32 (take 4 bytes) < 65536 → is_newest (drop 4 bytes)
