-- What the reads showed of a commit was written, and on an honest device it stands in the image.
use Rattle.std.proofs.Common.{◌≡◌, inl, inr, ⊎_elim, ℕ, ◌+◌, ◌%◌, ◌≤◌, ◌==◌, Bool, true, false, cond, List, [], ◌∷◌, ◌++◌, length, Option, Some, IsSome, refl, sym, ◌∙◌, ap, subst, append_assoc, arith}
use Rattle.std.specs.List.{AllByRecursion}
use Rattle.std.proofs.lemmas.Bool.{eqb-true}
use Rattle.sha2.specs.Sha256.{sha256}
use Rattle.tdb_append.specs.Put.{slot_place}
use Rattle.tdb_base.specs.declared.piece.Piece.{Piece}
use Rattle.tdb_base.specs.Trace.{ReadPiece, Trace, WrittenPiece}
use Rattle.tdb_list.specs.declared.entry.Entry.{Entry}
use Rattle.tdb_list.specs.ChangeList.{IsChangeList}
use Rattle.tdb_list.proofs.ListSpelling.{same_list}
use Rattle.tdb_mark.specs.declared.commit.Commit.{Commit}
use Rattle.tdb_mark.specs.CommitText.{commit_key_of, commit_of}
use Rattle.tdb_mark.specs.Unforged.{EachRead, IsSlot, IsUnforged, WasRead, WasWritten, WrittenBefore}
use Rattle.tdb_mark.proofs.TextLemmas.{commit_of_is}
use Rattle.tdb_model.specs.declared.change.Change.{Change}
use Rattle.tdb_model.specs.declared.change.Change.TheVariants.{Write, Free, Make, Copy, Drop}
use Rattle.tdb_seal.specs.SealedRecord.{IsSealedRecord}
use Rattle.tdb_seal.proofs.RecordSpelling.{same_plain}
use Rattle.tdb_overlay.specs.Changes.{AreChangesOf, HasChanges, IsChangeOf, named_records}
use Rattle.tdb_overlay.specs.CheckpointState.{IsReached}
use Rattle.tdb_overlay.specs.Found.{Finds, in_trace, store_of_text}
use Rattle.tdb_overlay.specs.Images.{StandsIn}
use Rattle.tdb_overlay.specs.Keys.{system_key}
use Rattle.tdb_overlay.specs.Placement.{LiesBelow}
use Rattle.tdb_overlay.specs.Required.{IsReadOf, RestsOn, text_piece}
use Rattle.tdb_overlay.specs.declared.recovered.Recovered.{Recovered}
use Rattle.tdb_overlay.proofs.CheckpointLaws.{none_reached}
use Rattle.tdb_overlay.proofs.Listed.{all_at}
use Rattle.tdb_overlay.proofs.LogLaws.{trace_finds_one}
use Rattle.tdb_overlay.proofs.PlacedLogs.{is_none, one_list}
use Rattle.tdb_overlay.proofs.Unmistaken.{read_is_piece, text_length}
use Rattle.tdb_recover.specs.Ahead.{IsMemberList, StoodIn}
use Rattle.tdb_recover.specs.declared.ahead.Pending.{Pending}
use Rattle.tdb_recover.proofs.ReadingAhead.{AllShown, stands_shown}
use Rattle.tdb_recover.proofs.ShownWhole.{Shown}

written_before : (ws : List WrittenPiece) (call : ℕ) (bytes : List ℕ) → WrittenBefore ws call bytes → WasWritten ws bytes
written_before [] call bytes is = absurd is
written_before (w ∷ ws) call bytes (inl here) = inl here.0
written_before (w ∷ ws) call bytes (inr later) = inr (written_before ws call bytes later)

each_at : (P : ReadPiece → Type 0) (before : List ReadPiece) (r : ReadPiece) (after : List ReadPiece)
    → EachRead P (before ++ r ∷ after) → P r
each_at P [] r after each = each.0
each_at P (x ∷ before) r after each = each_at P before r after each.1

read_at : (before : List ReadPiece) (r : ReadPiece) (after : List ReadPiece) → WasRead (before ++ r ∷ after) r.bytes
read_at [] r after = inl refl
read_at (x ∷ before) r after = inr (read_at before r after)

-- each read behind some others is one of all
reads_read : (before reads : List ReadPiece) → AllByRecursion (λ r. WasRead (before ++ reads) r.bytes) reads
reads_read before [] = tt
reads_read before (r ∷ reads) = (
  read_at before r reads,
  subst (λ (rs : List ReadPiece). AllByRecursion (λ (x : ReadPiece). WasRead rs x.bytes) reads) (append_assoc before (r ∷ []) reads)
      (reads_read (before ++ r ∷ []) reads),
)

-- the second of them is, too
pub read_of_second : (all before : List ReadPiece) (first second : ReadPiece) (rest : List ReadPiece)
    → all ≡ before ++ first ∷ second ∷ rest → WasRead all second.bytes
read_of_second all before first second rest is =
    subst (λ (rs : List ReadPiece). WasRead rs second.bytes) (sym is) (reads_read before (first ∷ second ∷ rest)).1.0

slot_is : (n : ℕ) → IsSlot (slot_place (n + 1))
slot_is n = (n % 1024, omega arith, omega arith)

-- a text that is read in a slot was written by an earlier call
abbrev IsWrittenText : Trace → (List ℕ → Option Commit) → ReadPiece → Type 0
IsWrittenText t grammar r = IsSlot r.place → r.asked ≡ 256 → IsSome (grammar r.bytes) → WrittenBefore t.written r.call r.bytes

pub text_written : (t : Trace) (grammar : List ℕ → Option Commit) → IsUnforged t grammar → (before after : List ReadPiece) (r : ReadPiece)
    → t.read ≡ before ++ r ∷ after → (n : ℕ) → r.place ≡ slot_place (n + 1) → r.asked ≡ 256 → (c : Commit) → grammar r.bytes ≡ Some c
    → WasWritten t.written r.bytes
text_written t grammar unforged before after r read n place asked c accepted =
    written_before t.written r.call r.bytes
    (each_at (IsWrittenText t grammar) before r after (subst (EachRead (IsWrittenText t grammar)) read unforged.slots)
    (subst IsSlot (sym place) (slot_is n)) asked (subst (λ (o : Option Commit). IsSome o) (sym accepted) refl))

-- the piece stands for some bytes
abbrev pub IsFound : Finds → Piece → Type 0
IsFound finds piece = (sealed : List ℕ) × finds piece sealed

of_kind : (finds : Finds) (secret : List ℕ) (e : Entry) (change : Change) → e.kind ≡ 1 → IsChangeOf finds secret e change
    → IsFound finds e.piece
of_kind finds secret e (Write part rank bytes) kind is = (is.3.sealed, is.3.found)
of_kind finds secret e (Free part rank) kind is = absurd (omega (arith, kind, is.0))
of_kind finds secret e (Make part suite) kind is = absurd (omega (arith, kind, is.0))
of_kind finds secret e (Copy from to) kind is = absurd (omega (arith, kind, is.0))
of_kind finds secret e (Drop part) kind is = absurd (omega (arith, kind, is))

if_named : (P : Piece → Type 0) (piece : Piece) (pieces : List Piece) (named : Bool) → (named ≡ true → P piece) → AllByRecursion P pieces
    → AllByRecursion P (cond named (piece ∷ pieces) pieces)
if_named P piece pieces true one rest = (one refl, rest)
if_named P piece pieces false one rest = rest

-- Each record that a list of changes names stands for some bytes.
named_found : (finds : Finds) (secret : List ℕ) (entries : List Entry) (changes : List Change) → AreChangesOf finds secret entries changes
    → AllByRecursion (IsFound finds) (named_records entries)
named_found finds secret [] [] are = tt
named_found finds secret [] (change ∷ changes) are = absurd are
named_found finds secret (e ∷ entries) [] are = absurd are
named_found finds secret (e ∷ entries) (change ∷ changes) are =
    if_named (IsFound finds) e.piece (named_records entries) (e.kind == 1)
    (λ yes. of_kind finds secret e change (eqb-true e.kind 1 yes) are.0) (named_found finds secret entries changes are.1)

module _ (t : Trace) (secret : List ℕ) (unforged : IsUnforged t (commit_of (commit_key_of secret))) where
  abbrev grammar : List ℕ → Option Commit
  grammar = commit_of (commit_key_of secret)

  -- The list that was read is the commit's.
  pub entries_are : (c : Commit) (changes : List Change) (h : HasChanges (in_trace t.written) secret c changes) (bytes : List ℕ)
      → WasRead t.read bytes → (log : Recovered) (entries : List Entry) → IsMemberList secret log c bytes entries → h.entries ≡ entries
  entries_are c changes h bytes read log entries m =
      let same : bytes ≡ h.sealed = read_is_piece t grammar unforged bytes read c.first h.sealed h.found m.digest in
      let plain : h.plain ≡ m.plain =
      same_plain (system_key secret) (record { kind = 5; suite = c.suite; home = 0; rank = 0 }) h.plain m.plain bytes
      (subst (λ (s : List ℕ). IsSealedRecord (system_key secret) (record { kind = 5; suite = c.suite; home = 0; rank = 0 }) h.plain s)
      (sym same) h.opened) m.opened in
      same_list h.entries entries m.plain (subst (IsChangeList h.entries) plain h.list) m.list

  module _ (image : List ℕ) where
    stands_one : (piece : Piece) (r : ReadPiece) → IsReadOf piece r → sha256 r.bytes ≡ piece.digest.0 → WasRead t.read r.bytes
        → StoodIn image r → IsFound (in_trace t.written) piece → 1 ≤ piece.length → StandsIn image piece
    stands_one piece r is digest read stood found some =
        stands_shown image piece r is stood digest
        (ap length (read_is_piece t grammar unforged r.bytes read piece found.0 found.1 digest) ∙ sym found.1.1) some

    stands_each : (n : ℕ) (pieces : List Piece) (reads : List ReadPiece) → AllShown pieces reads
        → AllByRecursion (λ r. WasRead t.read r.bytes) reads → AllByRecursion (StoodIn image) reads
        → AllByRecursion (IsFound (in_trace t.written)) pieces → AllByRecursion (LiesBelow n) pieces
        → AllByRecursion (StandsIn image) pieces
    stands_each n [] reads shown read stood found lie = tt
    stands_each n (p ∷ pieces) [] shown read stood found lie = absurd shown
    stands_each n (p ∷ pieces) (r ∷ reads) shown read stood found lie = (
      stands_one p r shown.0 shown.1 read.0 stood.0 found.0 lie.0.2.some,
      stands_each n pieces reads shown.2 read.1 stood.1 found.1 lie.1,
    )

    module _ (earlier reads : List ReadPiece) (told : t.read ≡ earlier ++ reads) (stood : AllByRecursion (StoodIn image) reads)
        (log : Recovered) (p : Pending) (shown : Shown secret log reads p) (kind : p.commit.kind ≡ 1) (changes : List Change)
        (h : HasChanges (in_trace t.written) secret p.commit changes) where
      abbrev c : Commit
      c = p.commit

      read : AllByRecursion (λ r. WasRead t.read r.bytes) (shown.first ∷ shown.second ∷ shown.rest)
      read = subst (λ (rs : List ReadPiece). AllByRecursion (λ (r : ReadPiece). WasRead t.read r.bytes) rs) shown.in_order
          (subst (λ (all : List ReadPiece). AllByRecursion (λ (r : ReadPiece). WasRead all r.bytes) reads) (sym told)
          (reads_read earlier reads))

      each_stood : AllByRecursion (StoodIn image) (shown.first ∷ shown.second ∷ shown.rest)
      each_stood = subst (AllByRecursion (StoodIn image)) shown.in_order stood

      entries : h.entries ≡ p.entries.items
      entries = entries_are c changes h shown.second.bytes read.1.0 log p.entries.items shown.list

      found : AllByRecursion (IsFound (in_trace t.written)) (named_records p.entries.items)
      found = subst (λ (es : List Entry). AllByRecursion (IsFound (in_trace t.written)) (named_records es)) entries
          (named_found (in_trace t.written) secret h.entries changes h.each)

      records_stand : AllByRecursion (StandsIn image) (named_records p.entries.items)
      records_stand = stands_each log.segments.segments (named_records p.entries.items) shown.rest shown.records read.1.1
          each_stood.1.1 found shown.list.records

      text_stands : StandsIn image (text_piece secret c)
      text_stands = stands_shown image (text_piece secret c) shown.first
          (shown.place ∙ ap slot_place (sym shown.member.1.count), shown.asked) each_stood.0
          (ap sha256 (commit_of_is (commit_key_of secret) shown.first.bytes c shown.member.0).spelled)
          (text_length (commit_key_of secret) shown.first.bytes c shown.member.0) (omega arith)

      list_stands : StandsIn image c.first
      list_stands = stands_one c.first shown.second shown.of_list shown.list.digest read.1.0 each_stood.1.0 (h.sealed, h.found)
          shown.member.1.lies.2.some

      -- What a commit that was shown whole rests on stands in the image.
      pub own_stands : (piece : Piece) → RestsOn (in_trace t.written) secret c piece → StandsIn image piece
      own_stands piece (inl same) = subst (StandsIn image) (sym same) text_stands
      own_stands piece (inr (inl same)) = subst (StandsIn image) (sym same) list_stands
      own_stands piece (inr (inr (inl named))) =
          let same : named.list.entries ≡ p.entries.items =
          one_list (in_trace t.written) (trace_finds_one t.written) secret c named.changes changes named.list h ∙ entries in
          all_at (StandsIn image) named.before piece named.after
          (subst (AllByRecursion (StandsIn image)) (ap named_records (sym same) ∙ named.names) records_stand)
      own_stands piece (inr (inr (inr reached))) = absurd
          (⊎_elim
          (λ commit. none_reached (in_trace t.written) (store_of_text secret c) piece
          (subst (λ (r : Option Piece). IsReached (in_trace t.written) (store_of_text secret c) r piece) (is_none c.root commit.2) reached))
          (λ checkpoint. absurd (omega (arith, checkpoint.0, kind)))
          (commit_of_is (commit_key_of secret) shown.first.bytes c shown.member.0).in_format.kind)
