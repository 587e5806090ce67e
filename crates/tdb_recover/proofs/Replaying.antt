-- What taking in the list of a commit leaves.
use Rattle.std.proofs.Common.{◌≡◌, ℕ, List, [], ◌∷◌, ◌++◌, refl, sym, ◌∙◌, ap, subst}
use Rattle.std.specs.List.{AllByRecursion}
use Rattle.tdb_base.specs.declared.piece.Piece.{Piece}
use Rattle.tdb_base.specs.Trace.{Trace, WrittenPiece}
use Rattle.tdb_list.specs.declared.entry.Entry.{Entry}
use Rattle.tdb_mark.specs.declared.commit.Commit.{Commit}
use Rattle.tdb_model.specs.declared.change.Change.{Change}
use Rattle.tdb_model.specs.Apply.{apply_all}
use Rattle.tdb_model.specs.State.{State}
use Rattle.tdb_platform.specs.Outside.{Anchor}
use Rattle.tdb_seal.specs.SealedRecord.{IsSealedRecord}
use Rattle.tdb_seg.specs.SegmentSpace.{SegmentSpace, IsSegmentSpace, note_in}
use Rattle.tdb_overlay.specs.BaseTree.{HasToldRoots, TellsRoster}
use Rattle.tdb_overlay.specs.Changes.{AreChangesOf, named_records}
use Rattle.tdb_overlay.specs.Covering.{Covers, IsCovering, noted_all}
use Rattle.tdb_overlay.specs.Found.{Store, in_trace}
use Rattle.tdb_overlay.specs.Keys.{system_key}
use Rattle.tdb_overlay.specs.Needed.{needed}
use Rattle.tdb_overlay.specs.Placement.{LiesBelow, note_all}
use Rattle.tdb_overlay.specs.StoreState.{StoreState}
use Rattle.tdb_overlay.specs.declared.recovered.BaseTree.{BaseTree}
use Rattle.tdb_overlay.specs.declared.recovered.Recovered.{Recovered}
use Rattle.tdb_overlay.proofs.BaseTrees.{noted_all_told, roster_told_at, told_roots_at}
use Rattle.tdb_overlay.proofs.Coverings.{covering_noted}
use Rattle.tdb_overlay.proofs.Lengths.{trace_sized}
use Rattle.tdb_overlay.proofs.LogLaws.{allows}
use Rattle.tdb_overlay.proofs.Needing.{changes_needed}
use Rattle.tdb_overlay.proofs.Steps.{commit_lies, commit_notes}
use Rattle.tdb_recover.specs.Records.{IsListIn}
use Rattle.tdb_recover.specs.Replay.{IsCommitIn, IsReplayOf}
use Rattle.tdb_recover.proofs.Noting.{note_push}

all_front : (P : Piece → Type 0) (pieces : List Piece) (last : Piece) → AllByRecursion P (pieces ++ last ∷ []) → AllByRecursion P pieces
all_front P [] last all = tt
all_front P (p ∷ pieces) last all = (all.0, all_front P pieces last all.1)

all_last : (P : Piece → Type 0) (pieces : List Piece) (last : Piece) → AllByRecursion P (pieces ++ last ∷ []) → P last
all_last P [] last all = all.0
all_last P (p ∷ pieces) last all = all_last P pieces last all.1

module _ (written : List WrittenPiece) (trace : Trace) (secret : List ℕ) (store : Store) (anchor : Anchor) (before : StoreState) (c : Commit) (changes : List Change) (after : StoreState)
    (given : IsCommitIn written trace secret store anchor before c changes after) where
  abbrev pub entries_of : List Entry
  entries_of = given.commit.list.entries

  -- its list is there
  pub list_in : (list : IsListIn written trace secret c changes) × (list.list.entries ≡ entries_of)
  list_in =
      let h = given.commit.list in (
        record {
          unforged = given.unforged;
          list = record {
            sealed = h.sealed;
            plain = h.plain;
            entries = h.entries;
            found = h.found;
            opened = subst (λ (s : List ℕ). IsSealedRecord (system_key s) (record { kind = 5; suite = c.suite; home = 0; rank = 0 }) h.plain h.sealed) given.keys h.opened;
            list = h.list;
            each = subst (λ (s : List ℕ). AreChangesOf (in_trace written) s h.entries changes) given.keys h.each;
          };
        },
        refl,
      )

  module _ (r : Recovered) (kept : IsReplayOf (needed written store anchor) store r before) where
    pieces_lie : IsSegmentSpace r.segments → AllByRecursion (LiesBelow r.segments.segments) (named_records entries_of ++ c.first ∷ [])
    pieces_lie valid =
        let same : before.space.segments ≡ r.segments.segments = ap (λ (s : SegmentSpace). s.segments) (sym kept.space) in
        subst (λ (n : ℕ). AllByRecursion (LiesBelow n) (named_records entries_of ++ c.first ∷ [])) same
        (commit_lies (in_trace written) (trace_sized written) store before c changes after given.commit given.suite (subst IsSegmentSpace kept.space valid))

    -- the records that it names lie in the segments
    pub records_lie : IsSegmentSpace r.segments → AllByRecursion (LiesBelow r.segments.segments) (named_records entries_of)
    records_lie valid = all_front (LiesBelow r.segments.segments) (named_records entries_of) c.first (pieces_lie valid)

    -- and so does the list
    pub list_lies : IsSegmentSpace r.segments → LiesBelow r.segments.segments c.first
    list_lies valid = all_last (LiesBelow r.segments.segments) (named_records entries_of) c.first (pieces_lie valid)

    pub replayed : (next : Recovered) → next.segments ≡ note_in (note_all r.segments (named_records entries_of)) c.first
        → next.overlay ≡ noted_all c.count r.overlay entries_of → next.tree ≡ r.tree
        → IsReplayOf (needed written store anchor) store next after
    replayed next segments overlay tree =
        let found = in_trace written in
        let finds = needed written store anchor in
        let allowed = allows store before changes after given.commit.allowed in
        let state : after.chunks ≡ apply_all c.count before.chunks changes =
        ap (λ (s : StoreState). s.chunks) allowed.after_is ∙ ap (λ (n : ℕ). apply_all n before.chunks changes) (sym given.commit.next) in
        let root : before.root ≡ after.root = sym (ap (λ (s : StoreState). s.root) allowed.after_is) in
        record {
          space =
              segments ∙ sym (note_push r.segments (named_records entries_of) c.first)
              ∙ ap (λ (s : SegmentSpace). note_all s (named_records entries_of ++ c.first ∷ [])) kept.space
              ∙ commit_notes found (trace_sized written) store before c changes after given.commit given.suite;
          chunks =
              subst (λ (covers : Covers). IsCovering finds store.secret covers after.chunks) (sym overlay)
              (subst (λ (s : State). IsCovering finds store.secret (noted_all c.count r.overlay entries_of) s) (sym state)
              (covering_noted finds store.secret c.count r.overlay before.chunks entries_of changes kept.chunks (changes_needed written store anchor store.secret entries_of changes given.records given.commit.list.each) given.commit.owned));
          root = ap (λ (t : BaseTree). t.root) tree ∙ kept.root ∙ root;
          leaders = subst (λ (t : BaseTree). TellsRoster finds store after.root t.leaders) (sym tree)
              (roster_told_at finds store before.root after.root r.tree.leaders root kept.leaders);
          roots = subst (HasToldRoots finds store after.root) (sym overlay)
              (noted_all_told finds store after.root c.count r.overlay entries_of
              (told_roots_at finds store before.root after.root r.overlay root kept.roots));
        }
