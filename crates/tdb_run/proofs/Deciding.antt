-- By its digests alone a commit is taken.
use Rattle.std.proofs.Common.{◌≡◌, ℕ, List, [], ◌∷◌, ◌++◌, sym, ◌∙◌, ap, subst, arith}
use Rattle.std.specs.List.{AllByRecursion}
use Rattle.sha2.specs.Sha256.{sha256}
use Rattle.tdb_base.specs.declared.piece.Digest.{Digest}
use Rattle.tdb_base.specs.declared.piece.Piece.{Piece}
use Rattle.tdb_base.specs.Trace.{ReadPiece, Trace}
use Rattle.tdb_list.specs.declared.entry.Entry.{Entry}
use Rattle.tdb_mark.specs.declared.commit.Commit.{Commit}
use Rattle.tdb_mark.specs.CommitText.{commit_key_of, commit_of}
use Rattle.tdb_mark.specs.Unforged.{IsUnforged, WasRead}
use Rattle.tdb_model.specs.Apply.{History}
use Rattle.tdb_platform.specs.Outside.{Anchor}
use Rattle.tdb_seal.specs.SealedRecord.{IsSealedRecord}
use Rattle.tdb_seg.specs.SegmentSpace.{IsSegmentSpace, SegmentSpace}
use Rattle.tdb_overlay.specs.Changes.{named_records}
use Rattle.tdb_overlay.specs.Found.{Store, in_trace}
use Rattle.tdb_overlay.specs.Keys.{system_key}
use Rattle.tdb_overlay.specs.Log.{IsLog}
use Rattle.tdb_overlay.specs.Needed.{needed}
use Rattle.tdb_overlay.specs.Placement.{LiesBelow}
use Rattle.tdb_overlay.specs.Recovered.{IsRecovered}
use Rattle.tdb_overlay.specs.StoreState.{StoreState}
use Rattle.tdb_overlay.specs.WellFormedLog.{IsWellFormedTrace}
use Rattle.tdb_overlay.specs.declared.recovered.Recovered.{Recovered}
use Rattle.tdb_overlay.proofs.Lengths.{trace_sized}
use Rattle.tdb_overlay.proofs.Listed.{all_at}
use Rattle.tdb_overlay.proofs.OneLog.{chain_length}
use Rattle.tdb_overlay.proofs.RequiredLaws.{last_space}
use Rattle.tdb_overlay.proofs.Steps.{commit_lies}
use Rattle.tdb_overlay.proofs.Unmistaken.{read_is_piece}
use Rattle.tdb_recover.specs.Ahead.{Follows, IsMemberList}
use Rattle.tdb_recover.specs.Pending.{IsPending}
use Rattle.tdb_recover.proofs.PendingLog.{Behind, behind, later}
use Rattle.tdb_recover.proofs.TakenStands.{text_written}
use Rattle.tdb_run.specs.Digests.{ShowsNext}

all_but_last : (P : Piece → Type 0) (pieces : List Piece) (last : Piece) → AllByRecursion P (pieces ++ last ∷ []) → AllByRecursion P pieces
all_but_last P [] last all = tt
all_but_last P (p ∷ pieces) last all = (all.0, all_but_last P pieces last all.1)

module _ (t : Trace) (store : Store) (history : History) (from : StoreState) (log : Recovered)
    (unforged : IsUnforged t (commit_of (commit_key_of store.secret))) (kept : IsWellFormedTrace t.written store.secret)
    (is : IsLog t.written store (log.head.count, log.head.mark.0) history from)
    (knows : IsRecovered (needed t.written store (log.head.count, log.head.mark.0)) store log from)
    (before after : List ReadPiece) (r : ReadPiece) (c : Commit) (read : t.read ≡ before ++ r ∷ after)
    (next : ShowsNext store.secret log r c) where
  abbrev anchor : Anchor
  anchor = (log.head.count, log.head.mark.0)

  pending : IsPending t.written store.secret anchor r.bytes c
  pending = record {
    was_written = text_written t (commit_of (commit_key_of store.secret)) unforged before after r read log.head.count next.place next.asked c
        next.tagged;
    accepted = next.tagged;
    kind = next.kind;
    count = next.count;
    mark = ap (λ (d : Digest). d.0) next.prev;
  }

  step : Behind store t unforged kept anchor r.bytes c pending history from is
  step = behind store t unforged kept anchor r.bytes c pending history from is

  space : IsSegmentSpace from.space
  space =
      let some = later store t unforged kept anchor r.bytes c pending history from is in
      let long = chain_length t.written (commit_key_of store.secret) anchor.0 anchor.1 is.chain is.ends in
      last_space t.written store anchor history from is (omega (arith, some, long))

  same : from.space.segments ≡ log.segments.segments
  same = ap (λ (s : SegmentSpace). s.segments) (sym knows.space)

  lie : AllByRecursion (LiesBelow log.segments.segments) (named_records step.commit.list.entries ++ c.first ∷ [])
  lie = subst (λ (n : ℕ). AllByRecursion (LiesBelow n) (named_records step.commit.list.entries ++ c.first ∷ [])) same
      (commit_lies (in_trace t.written) (trace_sized t.written) store from c step.changes step.to step.commit step.suite space)

  -- Such a text is that of a commit that follows.
  pub follows : Follows log c
  follows = record {
    kind = next.kind;
    count = next.count;
    prev = next.prev;
    base = step.commit.base ∙ sym knows.base;
    suite = step.suite ∙ sym knows.suite;
    segments = step.commit.segments ∙ same;
    lies = all_at (LiesBelow log.segments.segments) (named_records step.commit.list.entries) c.first [] lie;
  }

  -- What was read with its list's digest is its list.
  pub lists : (bytes : List ℕ) → WasRead t.read bytes → sha256 bytes ≡ c.first.digest.0
      → (entries : List Entry) × IsMemberList store.secret log c bytes entries
  lists bytes was digest =
      let h = step.commit.list in
      let one : bytes ≡ h.sealed =
      read_is_piece t (commit_of (commit_key_of store.secret)) unforged bytes was c.first h.sealed h.found digest in (
        h.entries,
        record {
          digest = digest;
          plain = h.plain;
          opened = subst (λ (s : List ℕ). IsSealedRecord (system_key store.secret) (record { kind = 5; suite = c.suite; home = 0; rank = 0 })
              h.plain s) (sym one) h.opened;
          list = h.list;
          records = all_but_last (LiesBelow log.segments.segments) (named_records h.entries) c.first lie;
        },
      )
