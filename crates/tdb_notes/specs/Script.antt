-- The script machine: what each line of a script is answered, and what it commits.
use Rattle.std.specs.Prelude.{◌≡◌, ◌≢◌, ◌⊎◌, ◌+◌, ◌==◌, ◌<◌, ◌≤◌, ℕ, List, [], ◌∷◌, ◌++◌}
use Rattle.std.specs.Prelude.{map, max, nat_le, Option, Some, None, if◌then◌else◌}
use Rattle.std.specs.FinMap.{entries, get as partition_at}
use Rattle.std.specs.Global.{Vec}
use Rattle.tdb_base.specs.declared.names.PartId.{PartId}
use Rattle.tdb_base.specs.declared.names.Rank.{Rank}
use Rattle.tdb_base.specs.declared.names.TxId.{TxId}
use Rattle.tdb_base.specs.declared.piece.Damage.{Damage}
use Rattle.tdb_base.specs.declared.piece.Place.{Place}
use Rattle.tdb_model.specs.declared.change.Change.{Change}
use Rattle.tdb_model.specs.declared.change.Change.TheVariants.{Copy, Drop, Write}
use Rattle.tdb_model.specs.declared.error.CommitError.{CommitError}
use Rattle.tdb_model.specs.declared.error.CommitError.TheVariants.{TooManyChanges, RingFull, CounterEnd, NoRoom}
use Rattle.tdb_model.specs.Apply.{History, apply_all}
use Rattle.tdb_model.specs.Check.{check_commit}
use Rattle.tdb_model.specs.Limits.{partition_limit, rank_limit}
use Rattle.tdb_model.specs.Lookup.{chunk_at}
use Rattle.tdb_model.specs.Meanings.{Meanings}
use Rattle.tdb_model.specs.Meanings.Target.{OfChunk}
use Rattle.tdb_model.specs.State.{State, Partition}
use Rattle.tdb_script.specs.LineSpelling.{LineValue, IsLine, begin, new_note, get, abort, commit, quit}
use Rattle.tdb_script.specs.LineSpelling.{drop_part, parts, peek, snapshot}
use Rattle.tdb_script.specs.NoteText.{IsStoredNote, stored_note_bytes}
use Rattle.tdb_script.specs.declared.reply.Reply.{Reply}
use Rattle.tdb_script.specs.declared.reply.Reply.TheVariants.{Begun, Made, Got, Aborted, Committed, Bye, RefusedUnbuilt}
use Rattle.tdb_script.specs.declared.reply.Reply.TheVariants.{RefusedNoTransaction, RefusedOpen, RefusedNoObject, RefusedPickle}
use Rattle.tdb_script.specs.declared.reply.Reply.TheVariants.{RefusedIds, RefusedChanges, RefusedFull, RefusedRing, RefusedCounter}
use Rattle.tdb_script.specs.declared.reply.Reply.TheVariants.{Snapshot, Dropped, Peeked, Parts, RefusedPartition, Tampered}

-- an open transaction: its number, and the notes that it made, each with its id
pub record Transaction : Type 0 where
  pub number : ℕ
  pub notes : List (ℕ × List ℕ)

-- where a script stands: the database, the next id to be drawn, and the transaction that is open, if one is
pub record ScriptState : Type 0 where
  pub chunks : State
  pub next_id : ℕ
  pub transaction : Option Transaction

-- a reply, where the script stands then, and the commit that was made before it was put, if one was
pub record Answer : Type 0 where
  pub reply : Reply
  pub next : ScriptState
  pub added : History

abbrev pub replied : Reply → ScriptState → Answer
replied reply next = record { reply = reply; next = next; added = [] }

-- a line that isn't built there: all stays
abbrev pub unbuilt : ScriptState → Answer
unbuilt state = replied RefusedUnbuilt state

abbrev pub tx : ℕ → TxId
tx number = record { 0 = number }

-- Notes are the chunks of partition 1, each at the rank of its id.
abbrev pub notes_part : PartId
notes_part = record { 0 = 1 }

abbrev pub part_of : ℕ → PartId
part_of number = record { 0 = number }

abbrev pub rank_of : ℕ → Rank
rank_of id = record { 0 = id }

-- one transaction is open at a time
abbrev pub begin_answer : ScriptState → ℕ → Option Transaction → Answer
begin_answer state number None =
    replied (Begun (tx number)) (record state { transaction = Some (record { number = number; notes = [] }) })
begin_answer state number (Some t) = if t.number == number then replied (RefusedOpen (tx number)) state else unbuilt state

-- the answer to a line of the open transaction
abbrev pub in_transaction : ScriptState → ℕ → (Transaction → Answer) → Option Transaction → Answer
in_transaction state number answer None = replied (RefusedNoTransaction (tx number)) state
in_transaction state number answer (Some t) =
    if t.number == number then answer t else replied (RefusedNoTransaction (tx number)) state

-- the answer to a line of the open transaction, where there may be several
abbrev pub IsAnswerIn : ScriptState → ℕ → (Transaction → Answer → Type 0) → Option Transaction → Answer → Type 0
IsAnswerIn state number answers None given = given ≡ replied (RefusedNoTransaction (tx number)) state
IsAnswerIn state number answers (Some t) given =
    ((t.number ≡ number) × answers t given) ⊎ ((t.number ≢ number) × (given ≡ replied (RefusedNoTransaction (tx number)) state))

-- A new note draws the next id. Ids are ranks, 0 to 262,143, and none is drawn twice by a machine.
abbrev pub new_answer : ScriptState → List ℕ → Transaction → Answer
new_answer state text t =
    if nat_le rank_limit state.next_id then replied (RefusedIds notes_part) state
    else replied (Made (tx t.number) (rank_of state.next_id))
    (record {
      chunks = state.chunks;
      next_id = state.next_id + 1;
      transaction = Some (record { number = t.number; notes = t.notes ++ (state.next_id, text) ∷ [] });
    })

abbrev pub closed : ScriptState → ScriptState
closed state = record state { transaction = None }

-- what a transaction did is gone, but for the ids that it drew
abbrev pub abort_answer : ScriptState → Transaction → Answer
abort_answer state t = replied (Aborted (tx t.number)) (closed state)

abbrev pub write_of : ℕ × List ℕ → Change
write_of note = Write notes_part (rank_of note.0) (stored_note_bytes note.1)

abbrev pub changes_of : List (ℕ × List ℕ) → List Change
changes_of notes = map write_of notes

-- the text of the note with an id, where the transaction made one
abbrev pub own_note : List (ℕ × List ℕ) → ℕ → Option (List ℕ)
own_note [] id = None
own_note (note ∷ notes) id = if note.0 == id then Some note.1 else own_note notes id

-- a chunk that holds the note of a text, in whatever collections
abbrev pub IsNoteIn : List ℕ → List ℕ → Type 0
IsNoteIn chunk text = (mask : ℕ) × IsStoredNote chunk mask text

-- The reply to a line that reads an object, by its chunk. A note is shown as the line shows one.
abbrev pub IsChunkReply : PartId → ℕ → (List ℕ → Reply) → Option (List ℕ) → Reply → Type 0
IsChunkReply part id shown None reply = reply ≡ RefusedNoObject part (rank_of id)
IsChunkReply part id shown (Some chunk) reply =
    ((text : List ℕ) × IsNoteIn chunk text × (reply ≡ shown text))
    ⊎ (((text : List ℕ) → IsNoteIn chunk text → ⊥) × (reply ≡ RefusedPickle part (rank_of id)))

abbrev pub shown_got : ℕ → ℕ → List ℕ → Reply
shown_got number id text = Got (tx number) (rank_of id) text

abbrev pub shown_peeked : ℕ → ℕ → List ℕ → Reply
shown_peeked part id text = Peeked (part_of part) (rank_of id) text

-- The numbers that lines give to snapshots. Partitions 1 and 2 are the script's own.
pub record IsSnapshotNumber (part : ℕ) : Type 0 where
  pub first : 3 ≤ part
  pub last : part ≤ partition_limit

-- `snapshot` takes a number of these that no partition has,
abbrev pub IsFree : State → ℕ → Type 0
IsFree chunks part = IsSnapshotNumber part × (partition_at chunks part ≡ None)

-- and `drop` and `peek` one that a partition has, whether it was copied or made.
abbrev pub IsUsed : State → ℕ → Type 0
IsUsed chunks part = IsSnapshotNumber part × (partition_at chunks part ≢ None)

-- a snapshot is a copy of the partition of notes
abbrev pub snapshot_changes : ℕ → List Change
snapshot_changes part = Copy notes_part (part_of part) ∷ []

abbrev pub drop_changes : ℕ → List Change
drop_changes part = Drop (part_of part) ∷ []

-- the numbers of the partitions that are there, ascending
abbrev pub numbers_of : State → List PartId
numbers_of chunks = map (λ e. part_of e.0) (entries chunks)

-- The reply to a commit that is refused. The changes of a script pass every other test, where the partition of notes is there.
abbrev pub refusal_reply : CommitError → Reply
refusal_reply (TooManyChanges number) = RefusedChanges number
refusal_reply RingFull = RefusedRing
refusal_reply CounterEnd = RefusedCounter
refusal_reply (NoRoom room) = RefusedFull room
refusal_reply other = RefusedUnbuilt

-- the first id that a script draws: no id that was ever written, and not 0
abbrev pub first_id : Option Partition → ℕ
first_id None = 1
first_id (Some p) = max 1 p.next

-- where a script begins
abbrev pub script_at : State → ScriptState
script_at chunks = record { chunks = chunks; next_id = first_id (partition_at chunks 1); transaction = None }

-- a line of a partition is answered so where its number is as the line takes it, and is refused elsewhere
abbrev pub IsPartAnswer : ScriptState → ℕ → Type 0 → Type 0 → Answer → Type 0
IsPartAnswer state part fits answers given =
    (fits × answers) ⊎ ((fits → ⊥) × (given ≡ replied (RefusedPartition (part_of part)) state))

module _ {C : Type 0} (m : Meanings C) where
  -- Between these values of the store other bytes were read for the chunk of this id than were written, or bytes outside
  -- every format.
  abbrev pub IsHurt : C → C → PartId → ℕ → Type 0
  IsHurt old new part id =
      ((damage : Damage) × m.damage_seen old new damage (OfChunk part (rank_of id)))
      ⊎ ((place : Place) × m.malformed_seen old new place)

  -- What is committed is shown. What was damaged in what this line read is told as such.
  abbrev pub IsReadReply : C → C → State → PartId → ℕ → (List ℕ → Reply) → Reply → Type 0
  IsReadReply old new chunks part id shown reply =
      IsChunkReply part id shown (chunk_at chunks part.0 id) reply
      ⊎ (IsHurt old new part id × (reply ≡ Tampered part (rank_of id)))

  -- a transaction sees its own notes, and else what is committed
  abbrev pub IsNoteReply : C → C → State → ℕ → ℕ → Option (List ℕ) → Reply → Type 0
  IsNoteReply old new chunks number id (Some text) reply = reply ≡ Got (tx number) (rank_of id) text
  IsNoteReply old new chunks number id None reply = IsReadReply old new chunks notes_part id (shown_got number id) reply

  -- a commit of these changes is refused so: by the state, or by what the store then has no place for
  abbrev pub IsRefusedBy : C → State → List Change → CommitError → Type 0
  IsRefusedBy new chunks changes refusal =
      (check_commit chunks changes ≡ Some refusal) ⊎ ((check_commit chunks changes ≡ None) × m.refuses new changes refusal)

  -- The answer to a commit of some changes: this reply, and then the script stands there with what they make of the database. The count
  -- of the commit is the one that the store has then. A commit that is refused leaves all.
  abbrev pub IsAnswerToCommit : C → C → ScriptState → List Change → Reply → ScriptState → Answer → Type 0
  IsAnswerToCommit old new state changes reply next given =
      ((check_commit state.chunks changes ≡ None) × (m.count old < m.count new)
      × (given ≡ record {
        reply = reply;
        next = record next { chunks = apply_all (m.count new) state.chunks changes };
        added = (m.count new, changes) ∷ [];
      }))
      ⊎ ((refusal : CommitError) × IsRefusedBy new state.chunks changes refusal
      × (given ≡ replied (refusal_reply refusal) state))

  -- A transaction that made nothing commits nothing. One whose commit is refused stays open.
  abbrev pub IsCommitAnswer : C → C → ScriptState → Transaction → List Change → Answer → Type 0
  IsCommitAnswer old new state t [] given = given ≡ replied (Committed (tx t.number)) (closed state)
  IsCommitAnswer old new state t (change ∷ changes) given =
      IsAnswerToCommit old new state (change ∷ changes) (Committed (tx t.number)) (closed state) given

  -- The answers to lines of partitions, whatever transaction is open: they see and change what is committed.
  abbrev pub IsSnapshotAnswer : C → C → ScriptState → ℕ → Answer → Type 0
  IsSnapshotAnswer old new state part given = IsPartAnswer state part (IsFree state.chunks part)
      (IsAnswerToCommit old new state (snapshot_changes part) (Snapshot (part_of part)) state given) given

  abbrev pub IsDropAnswer : C → C → ScriptState → ℕ → Answer → Type 0
  IsDropAnswer old new state part given = IsPartAnswer state part (IsUsed state.chunks part)
      (IsAnswerToCommit old new state (drop_changes part) (Dropped (part_of part)) state given) given

  abbrev pub IsPeekAnswer : C → C → ScriptState → ℕ → ℕ → Answer → Type 0
  IsPeekAnswer old new state part id given = IsPartAnswer state part (IsUsed state.chunks part)
      ((reply : Reply) × IsReadReply old new state.chunks (part_of part) id (shown_peeked part id) reply × (given ≡ replied reply state))
      given

  -- the answer to a line of the grammar, given between two values of the store
  abbrev pub IsAnswer : C → C → ScriptState → LineValue → Answer → Type 0
  IsAnswer old new state quit given = given ≡ replied Bye state
  IsAnswer old new state (begin number) given = given ≡ begin_answer state number state.transaction
  IsAnswer old new state (new_note number text) given = given ≡ in_transaction state number (new_answer state text) state.transaction
  IsAnswer old new state (abort number) given = given ≡ in_transaction state number (abort_answer state) state.transaction
  IsAnswer old new state (get number id) given =
      IsAnswerIn state number
      (λ t given. (reply : Reply) × IsNoteReply old new state.chunks number id (own_note t.notes id) reply × (given ≡ replied reply state))
      state.transaction given
  IsAnswer old new state (commit number) given =
      IsAnswerIn state number (λ t given. IsCommitAnswer old new state t (changes_of t.notes) given) state.transaction given
  IsAnswer old new state (snapshot part) given = IsSnapshotAnswer old new state part given
  IsAnswer old new state (drop_part part) given = IsDropAnswer old new state part given
  IsAnswer old new state (peek part id) given = IsPeekAnswer old new state part id given
  IsAnswer old new state parts given =
      (numbers : Vec PartId) × (numbers.items ≡ numbers_of state.chunks) × (given ≡ replied (Parts numbers) state)

  -- The same of a line's bytes. Bytes of no line are a line that isn't built.
  abbrev pub IsAnswerTo : C → C → ScriptState → List ℕ → Answer → Type 0
  IsAnswerTo old new state bytes given =
      ((line : LineValue) × IsLine bytes line × IsAnswer old new state line given)
      ⊎ (((line : LineValue) → IsLine bytes line → ⊥) × (given ≡ unbuilt state))

  -- one commit of these changes
  abbrev pub IsOneCommit : C → List Change → History → Type 0
  IsOneCommit old changes maybe = (count : ℕ) × (m.count old < count) × (maybe ≡ (count, changes) ∷ [])

  -- What a line may add that isn't answered: a commit does that of the notes of its transaction, and so do the two lines that change a
  -- partition.
  abbrev pub IsBegunBy : C → ScriptState → LineValue → History → Type 0
  IsBegunBy old state (commit number) maybe =
      (t : Transaction) × (state.transaction ≡ Some t) × (t.number ≡ number) × IsOneCommit old (changes_of t.notes) maybe
  IsBegunBy old state (snapshot part) maybe = IsFree state.chunks part × IsOneCommit old (snapshot_changes part) maybe
  IsBegunBy old state (drop_part part) maybe = IsUsed state.chunks part × IsOneCommit old (drop_changes part) maybe
  IsBegunBy old state line maybe = ⊥
