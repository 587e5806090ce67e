-- The lengths of a commit's records, as they are placed.
use Rattle.std.proofs.Common.{◌≡◌, ℕ, ◌+◌, ◌*◌, ◌==◌, cond, List, [], ◌∷◌, ◌++◌, map, length, Option, refl, sym, ◌∙◌, ap}
use Rattle.std.proofs.lemmas.List.{map-append}
use Rattle.tdb_base.specs.declared.piece.Piece.{Piece}
use Rattle.tdb_base.specs.declared.suite.Suite.{Suite}
use Rattle.tdb_base.specs.declared.suite.Suite.TheVariants.{Plain, Aes128, Aes256}
use Rattle.tdb_base.specs.SuiteNumber.{suite_number}
use Rattle.tdb_base.specs.Trace.{WrittenPiece}
use Rattle.tdb_list.specs.declared.entry.Entry.{Entry}
use Rattle.tdb_list.proofs.ListSpelling.{length-list_bytes}
use Rattle.tdb_mark.specs.declared.commit.Commit.{Commit}
use Rattle.tdb_model.specs.Apply.{apply}
use Rattle.tdb_model.specs.State.{State, Partition}
use Rattle.tdb_model.specs.declared.change.Change.{Change}
use Rattle.tdb_model.specs.declared.change.Change.TheVariants.{Write, Free, Make, Copy, Drop}
use Rattle.std.specs.FinMap.{get}
use Rattle.tdb_seal.specs.declared.record.Name.{Name}
use Rattle.tdb_seal.specs.SealedRecord.{IsSealedRecord, body_length}
use Rattle.tdb_seal.proofs.RecordSpelling.{length-sealed_record}
use Rattle.tdb_overlay.specs.Changes.{IsWritten, IsChangeOf, AreChangesOf, HasChanges, named_records}
use Rattle.tdb_overlay.specs.Found.{Finds, Store, in_trace}
use Rattle.tdb_overlay.specs.Log.{IsOfPartition, IsOwned, AreOwned}
use Rattle.tdb_overlay.specs.StoreState.{record_length, suite_in, record_of_change, records_of, commit_lengths}
use Rattle.tdb_overlay.proofs.Coverings.{suite_again}
use Rattle.tdb_overlay.specs.Covering.{suite_numbered}

-- what is found for a piece has the piece's length
abbrev pub IsSized : Finds → Type 0
IsSized finds = (piece : Piece) (bytes : List ℕ) → finds piece bytes → piece.length ≡ length bytes

pub trace_sized : (written : List WrittenPiece) → IsSized (in_trace written)
trace_sized written piece bytes found = found.1

length_as : (suite : Suite) (n : ℕ) → 48 + body_length suite n ≡ record_length suite n
length_as Plain n = refl
length_as Aes128 n = refl
length_as Aes256 n = refl

-- the length of a sealed record
pub sealed_length : (key : List ℕ) (name : Name) (plain bytes : List ℕ) → IsSealedRecord key name plain bytes → length bytes ≡ record_length name.suite (length plain)
sealed_length key name plain bytes is = length-sealed_record key name plain bytes is ∙ length_as name.suite (length plain)

-- the records of a list, and none for an entry that is no write
abbrev records_as : ℕ → Entry → List Entry → List Piece
records_as kind e entries = cond (kind == 1) (e.piece ∷ named_records entries) (named_records entries)

named_as : (kind : ℕ) (e : Entry) (entries : List Entry) → e.kind ≡ kind → named_records (e ∷ entries) ≡ records_as kind e entries
named_as kind e entries is = ap (λ (k : ℕ). records_as k e entries) is

abbrev lengths : List Piece → List ℕ
lengths pieces = map (λ (p : Piece). p.length) pieces

module _ (finds : Finds) (sized : IsSized finds) (store : Store) (secret : List ℕ) where
  suite_is : (e : Entry) (found : Option Partition) (suite : Suite) → suite_number suite ≡ e.suite → IsOfPartition e found → suite ≡ suite_in store.suite found
  suite_is e found suite numbered owned =
      sym (suite_again suite) ∙ ap suite_numbered (numbered ∙ owned.suite) ∙ suite_again owned.partition.suite
      ∙ sym (ap (suite_in store.suite) owned.is_there)

  written_length : (e : Entry) (found : Option Partition) (bytes : List ℕ) → IsOfPartition e found → IsWritten finds secret e bytes → e.piece.length ≡ record_length (suite_in store.suite found) (length bytes)
  written_length e found bytes owned w =
      sized e.piece w.sealed w.found ∙ sealed_length _ _ bytes w.sealed w.opened
      ∙ ap (λ (s : Suite). record_length s (length bytes)) (suite_is e found w.suite w.numbered owned)

  one_length : (state : State) (e : Entry) (entries : List Entry) (change : Change) → IsChangeOf finds secret e change → IsOwned state e change
      → lengths (named_records (e ∷ entries)) ≡ record_of_change store state change ++ lengths (named_records entries)
  one_length state e entries (Write part rank bytes) is owned =
      ap lengths (named_as 1 e entries is.0) ∙ ap (λ (n : ℕ). n ∷ lengths (named_records entries)) (written_length e (get state part.0) bytes owned is.3)
  one_length state e entries (Free part rank) is owned = ap lengths (named_as 2 e entries is.0)
  one_length state e entries (Make part suite) is owned = ap lengths (named_as 3 e entries is.0)
  one_length state e entries (Copy from to) is owned = ap lengths (named_as 4 e entries is.0)
  one_length state e entries (Drop part) is owned = ap lengths (named_as 5 e entries is.0)

  -- The records that a list names have the lengths of those of its changes.
  pub records_are : (count : ℕ) (state : State) (entries : List Entry) (changes : List Change) → AreChangesOf finds secret entries changes → AreOwned count state entries changes
      → lengths (named_records entries) ≡ records_of store count state changes
  records_are count state [] [] are owned = refl
  records_are count state [] (change ∷ changes) are owned = absurd are
  records_are count state (e ∷ entries) [] are owned = absurd are
  records_are count state (e ∷ entries) (change ∷ changes) are owned =
      one_length state e entries change are.0 owned.0
      ∙ ap (λ (ns : List ℕ). record_of_change store state change ++ ns) (records_are count (apply count state change) entries changes are.1 owned.1)

  pub as_many : (entries : List Entry) (changes : List Change) → AreChangesOf finds secret entries changes → length entries ≡ length changes
  as_many [] [] are = refl
  as_many [] (change ∷ changes) are = absurd are
  as_many (e ∷ entries) [] are = absurd are
  as_many (e ∷ entries) (change ∷ changes) are = cc (as_many entries changes are.1)

  -- the length of a commit's list
  pub list_length : (c : Commit) (changes : List Change) → HasChanges finds secret c changes → c.suite ≡ store.suite → c.first.length ≡ record_length store.suite (16 + 72 * length changes)
  list_length c changes h same =
      sized c.first h.sealed h.found ∙ sealed_length _ _ h.plain h.sealed h.opened
      ∙ ap (λ (s : Suite). record_length s (length h.plain)) same
      ∙ ap (record_length store.suite) (ap length h.list.spelled ∙ length-list_bytes h.entries h.list.values ∙ ap (λ (n : ℕ). 16 + 72 * n) (as_many h.entries changes h.each))

  -- The records of a commit have the lengths with which they are placed.
  pub lengths_are : (count : ℕ) (state : State) (c : Commit) (changes : List Change) (h : HasChanges finds secret c changes) → AreOwned count state h.entries changes → c.suite ≡ store.suite
      → map (λ (p : Piece). p.length) (named_records h.entries ++ c.first ∷ []) ≡ commit_lengths store count state changes
  lengths_are count state c changes h owned same =
      map-append (λ (p : Piece). p.length) (named_records h.entries) (c.first ∷ [])
      ∙ ap (λ (ns : List ℕ). ns ++ c.first.length ∷ []) (records_are count state h.entries changes h.each owned)
      ∙ ap (λ (n : ℕ). records_of store count state changes ++ n ∷ []) (list_length c changes h same)
