-- Reading ahead of a log: what is asked for, and when the commit that was begun behind it is taken.
use Rattle.std.specs.Prelude.{◌≡◌, ◌≢◌, ◌⊎◌, ◌+◌, ◌<◌, ℕ, Bool, true, false, List, [], ◌∷◌, ◌++◌, take, drop, Result, Ok, Err, Some, IsTrue}
use Rattle.std.specs.List.{AllByRecursion}
use Rattle.sha2.specs.Sha256.{sha256}
use Rattle.tdb_append.specs.Put.{slot_place}
use Rattle.tdb_append.specs.declared.head.Head.{Head}
use Rattle.tdb_base.specs.declared.piece.Piece.{Piece}
use Rattle.tdb_base.specs.Trace.{ReadPiece}
use Rattle.tdb_list.specs.declared.entry.Entry.{Entry}
use Rattle.tdb_list.specs.ChangeList.{IsChangeList}
use Rattle.tdb_mark.specs.declared.commit.Commit.{Commit}
use Rattle.tdb_mark.specs.CommitText.{commit_key_of, commit_of}
use Rattle.tdb_platform.specs.Outside.{Outside, Rose}
use Rattle.tdb_platform.specs.CrashStates.{CrashStates}
use Rattle.tdb_seal.specs.SealedRecord.{IsSealedRecord}
use Rattle.tdb_overlay.specs.Changes.{named_records}
use Rattle.tdb_overlay.specs.Keys.{system_key}
use Rattle.tdb_overlay.specs.Placement.{LiesBelow}
use Rattle.tdb_overlay.specs.Reading.{OnlyReads}
use Rattle.tdb_overlay.specs.Required.{IsReadOf}
use Rattle.tdb_overlay.specs.declared.recovered.Recovered.{Recovered}
use Rattle.tdb_recover.specs.declared.ahead.Pending.{Pending}
use Rattle.tdb_recover.specs.declared.error.OpenError.{OpenError}
use Rattle.tdb_recover.specs.declared.error.OpenError.TheVariants.{Fault, Memory}

-- A commit may follow a text: fewer than 1,000 stand since the last checkpoint, and the count isn't the greatest.
pub record MayFollow (head : Head) : Type 0 where
  pub few : head.count < head.base + 1000
  pub counts_on : head.count < 18446744073709551615

-- What a text says is the commit that comes next behind a log.
pub record Follows (log : Recovered) (c : Commit) : Type 0 where
  pub kind : c.kind ≡ 1
  pub count : c.count ≡ log.head.count + 1
  pub prev : c.prev ≡ log.head.mark
  pub base : c.base ≡ log.head.base
  pub suite : c.suite ≡ log.suite
  pub segments : c.segments ≡ log.segments.segments
  pub lies : LiesBelow log.segments.segments c.first

-- the bytes are the text of such a commit
abbrev pub IsMember : List ℕ → Recovered → List ℕ → Commit → Type 0
IsMember secret log bytes c = (commit_of (commit_key_of secret) bytes ≡ Some c) × Follows log c

-- The bytes are the list that a commit names, and the records that it names lie in the log's segments.
pub record IsMemberList (secret : List ℕ) (log : Recovered) (c : Commit) (bytes : List ℕ) (entries : List Entry) : Type 0 where
  pub digest : sha256 bytes ≡ c.first.digest.0
  pub plain : List ℕ
  pub opened : IsSealedRecord (system_key secret) (record { kind = 5; suite = c.suite; home = 0; rank = 0 }) plain bytes
  pub list : IsChangeList entries plain
  pub records : AllByRecursion (LiesBelow log.segments.segments) (named_records entries)

-- nothing more is asked for, and the commit isn't taken
abbrev pub IsPassed : List ReadPiece → Bool → Type 0
IsPassed reads taken = (reads ≡ []) × (taken ≡ false)

-- What was shown is something of this kind, and more is asked for by it; or it isn't, and the commit is passed over.
abbrev pub GoesOn : {A : Type 0} → (A → Type 0) → (A → Type 0) → List ReadPiece → Bool → Type 0
GoesOn {A} is more reads taken = ((x : A) × is x × more x) ⊎ (((x : A) → is x → ⊥) × IsPassed reads taken)

-- Each of the pieces is asked for in order, up to the first that wasn't shown with its digest. The commit is taken where there is no
-- such piece.
abbrev pub Asked : List Piece → List ReadPiece → Bool → Type 0
Asked [] reads taken = (reads ≡ []) × (taken ≡ true)
Asked (p ∷ pieces) [] taken = ⊥
Asked (p ∷ pieces) (r ∷ reads) taken =
    IsReadOf p r × (((sha256 r.bytes ≡ p.digest.0) × Asked pieces reads taken) ⊎ ((sha256 r.bytes ≢ p.digest.0) × IsPassed reads taken))

-- The commit's list is asked for, and where it was shown, the records that it names.
abbrev pub AsksList : List ℕ → Recovered → Commit → List ReadPiece → Bool → Type 0
AsksList secret log c [] taken = ⊥
AsksList secret log c (r ∷ reads) taken =
    IsReadOf c.first r × GoesOn (IsMemberList secret log c r.bytes) (λ entries. Asked (named_records entries) reads taken) reads taken

-- The slot behind the log's last text is asked for, and where a commit was shown there, what that one names.
abbrev pub AsksSlot : List ℕ → Recovered → List ReadPiece → Bool → Type 0
AsksSlot secret log [] taken = ⊥
AsksSlot secret log (r ∷ reads) taken = (r.place ≡ slot_place (log.head.count + 1)) × (r.asked ≡ 256)
    × GoesOn (IsMember secret log r.bytes) (λ c. AsksList secret log c reads taken) reads taken

-- What reading ahead of a log asks for, by what it is shown, and whether the commit is taken.
abbrev pub AsksAhead : List ℕ → Recovered → List ReadPiece → Bool → Type 0
AsksAhead secret log reads taken =
    (MayFollow log.head × AsksSlot secret log reads taken) ⊎ ((MayFollow log.head → ⊥) × IsPassed reads taken)

-- the commit has the list that was shown first of these
abbrev pub IsListed : List ℕ → Recovered → Commit → List Entry → List ReadPiece → Type 0
IsListed secret log c entries [] = ⊥
IsListed secret log c entries (r ∷ reads) = IsMemberList secret log c r.bytes entries

-- a commit that is taken is the one that was shown, with the digest of its text and with its list
abbrev pub IsAsShown : List ℕ → Recovered → List ReadPiece → Pending → Type 0
IsAsShown secret log [] p = ⊥
IsAsShown secret log (r ∷ reads) p =
    IsMember secret log r.bytes p.commit × (p.mark.0 ≡ sha256 r.bytes) × IsListed secret log p.commit p.entries.items reads

-- the read gave what stands there in the image
abbrev pub StoodIn : List ℕ → ReadPiece → Type 0
StoodIn image r = r.bytes ≡ take r.asked (drop r.place image)

-- Between two values of a platform it was asked for these reads and nothing else, and none failed.
pub record HasSeen {D : Type 0} (outside : D → Outside) (crash_states : D
    → CrashStates) (old new : D) (reads : List ReadPiece) : Type 0 where
  pub only : OnlyReads outside crash_states old new
  pub told : IsTrue (outside old).tells → (outside new).trace.read ≡ (outside old).trace.read ++ reads
  pub stood : IsTrue (outside old).honest → AllByRecursion (StoodIn (outside old).image) reads
  pub quiet : (outside new).faults ≡ (outside old).faults

-- It was only read, up to a fault or until memory ran out.
pub record HasStopped {D : Type 0} (outside : D → Outside) (crash_states : D → CrashStates) (old new : D) (error : OpenError) : Type 0 where
  pub only : OnlyReads outside crash_states old new
  pub cause : ((error ≡ Fault) × Rose (outside old).faults (outside new).faults)
      ⊎ ((error ≡ Memory) × ((outside new).faults ≡ (outside old).faults))

-- It was only read, and the reads and what they gave rise to belong together.
abbrev pub Sees : {D T : Type 0} → (D → Outside) → (D → CrashStates) → D → D → Result T OpenError → (List ReadPiece → T → Type 0) → Type 0
Sees outside crash_states old new (Ok x) belongs = (reads : List ReadPiece) × HasSeen outside crash_states old new reads × belongs reads x
Sees outside crash_states old new (Err e) belongs = HasStopped outside crash_states old new e
