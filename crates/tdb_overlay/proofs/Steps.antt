-- What a step of a log makes of the segments.
use Rattle.std.proofs.Common.{◌≡◌, inl, inr, ℕ, ◌+◌, ◌*◌, ◌≤◌, ◌==◌, Bool, true, false, cond, List, [], ◌∷◌, ◌++◌, map, length, Ok, refl, sym, ◌∙◌, ap, subst, arith}
use Rattle.std.proofs.lemmas.Bool.{eqb-true}
use Rattle.std.specs.List.{AllByRecursion}
use Rattle.tdb_base.specs.declared.piece.Piece.{Piece}
use Rattle.tdb_base.specs.declared.suite.Suite.{Suite}
use Rattle.tdb_base.specs.declared.suite.Suite.TheVariants.{Plain, Aes128, Aes256}
use Rattle.tdb_base.specs.Segment.{LiesInOneSegment}
use Rattle.tdb_list.specs.declared.entry.Entry.{Entry}
use Rattle.tdb_list.specs.Entry.{IsEntry}
use Rattle.tdb_mark.specs.declared.commit.Commit.{Commit}
use Rattle.tdb_model.specs.declared.change.Change.{Change}
use Rattle.tdb_seg.specs.SegmentSpace.{SegmentSpace, IsSegmentSpace, fits}
use Rattle.tdb_seg.proofs.PlacingLaws.{IsLength}
use Rattle.tdb_overlay.specs.Changes.{named_records}
use Rattle.tdb_overlay.specs.Found.{Finds, Store}
use Rattle.tdb_model.specs.Apply.{History}
use Rattle.tdb_overlay.specs.Log.{Adds, IsCommitOn, IsStep}
use Rattle.tdb_overlay.specs.Placement.{note_all, LiesBelow}
use Rattle.tdb_overlay.specs.StoreState.{StoreState, record_length, commit_lengths, commit_fits, kept_free}
use Rattle.tdb_overlay.proofs.Lengths.{IsSized, as_many, list_length, lengths_are}
use Rattle.tdb_overlay.proofs.Placings.{HasLength, fits_notes, fits_lie, note_all-segments}

piece_length : (piece : Piece) → LiesInOneSegment piece → HasLength piece
piece_length piece lies = (omega (arith, lies.2.some), omega (arith, lies.2.begins, lies.2.ends))

write_length : (e : Entry) → IsEntry e → e.kind ≡ 1 → HasLength e.piece
write_length e (inl write) kind = piece_length e.piece write.piece
write_length e (inr (inl free)) kind = absurd (omega (arith, kind, free.kind))
write_length e (inr (inr (inl make))) kind = absurd (omega (arith, kind, make.kind))
write_length e (inr (inr (inr (inl copy)))) kind = absurd (omega (arith, kind, copy.kind))
write_length e (inr (inr (inr (inr drop)))) kind = absurd (omega (arith, kind, drop.kind))

named_lengths : (entries : List Entry) → AllByRecursion IsEntry entries → AllByRecursion HasLength (named_records entries)
named_lengths [] all = tt
named_lengths (e ∷ entries) all =
    let rest = named_lengths entries all.1 in
    elim (e.kind == 1) as (λ (b : Bool). (e.kind == 1) ≡ b → AllByRecursion HasLength (cond b (e.piece ∷ named_records entries) (named_records entries))) [
      | true ↦ λ is. (write_length e all.0 (eqb-true e.kind 1 is), rest)
      | false ↦ λ isnt. rest
    ] refl

length_fits : (suite : Suite) (n : ℕ) → n ≤ 1024 → IsLength (record_length suite (16 + 72 * n))
length_fits Plain n few = (omega (arith, few), omega (arith, few))
length_fits Aes128 n few = (omega (arith, few), omega (arith, few))
length_fits Aes256 n few = (omega (arith, few), omega (arith, few))

all_last : (P : Piece → Type 0) (pieces : List Piece) (piece : Piece) → AllByRecursion P pieces → P piece → AllByRecursion P (pieces ++ piece ∷ [])
all_last P [] piece all last = (last, tt)
all_last P (p ∷ pieces) piece all last = (all.0, all_last P pieces piece all.1 last)

module _ (finds : Finds) (sized : IsSized finds) (store : Store) (before : StoreState) (c : Commit) (changes : List Change) (after : StoreState)
    (is : IsCommitOn finds store before c changes after) (same : c.suite ≡ store.suite) where
  -- the records of the commit and its list, in the order in which they are placed
  abbrev pub pieces_of : List Piece
  pieces_of = named_records is.list.entries ++ c.first ∷ []

  pub sizes : map (λ (p : Piece). p.length) pieces_of ≡ commit_lengths store (before.count + 1) before.chunks changes
  sizes =
      lengths_are finds sized store store.secret c.count before.chunks c changes is.list is.owned same
      ∙ ap (λ (n : ℕ). commit_lengths store n before.chunks changes) is.next

  pub placed : fits before.space (commit_lengths store (before.count + 1) before.chunks changes) (kept_free changes) ≡ Ok (map (λ (p : Piece). p.place) pieces_of, after.space)
  unfolding commit_fits
  placed = is.placed

  pub piece_lengths : AllByRecursion HasLength pieces_of
  piece_lengths =
      let few : length changes ≤ 1024 = subst (λ (n : ℕ). n ≤ 1024) (as_many finds sized store store.secret is.list.entries changes is.list.each) is.list.list.list.most in
      all_last HasLength (named_records is.list.entries) c.first (named_lengths is.list.entries is.list.list.list.each)
      (subst IsLength (sym (list_length finds sized store store.secret c changes is.list same)) (length_fits store.suite (length changes) few))

  -- The segments after a commit are those after its pieces were noted.
  pub commit_notes : note_all before.space pieces_of ≡ after.space
  commit_notes = fits_notes before.space _ (kept_free changes) _ after.space pieces_of placed sizes refl

  both : IsSegmentSpace before.space → AllByRecursion (LiesBelow before.space.segments) pieces_of × IsSegmentSpace after.space
  both valid = fits_lie before.space before.space.segments _ (kept_free changes) _ after.space pieces_of valid refl piece_lengths placed sizes refl

  -- Each of its pieces lies in a segment of the store.
  pub commit_lies : IsSegmentSpace before.space → AllByRecursion (LiesBelow before.space.segments) pieces_of
  commit_lies valid = (both valid).0

  -- The segments after it are a space of as many segments.
  pub commit_space : IsSegmentSpace before.space → IsSegmentSpace after.space
  commit_space valid = (both valid).1

  pub commit_segments : after.space.segments ≡ before.space.segments
  commit_segments = ap (λ (s : SegmentSpace). s.segments) (sym commit_notes) ∙ note_all-segments before.space pieces_of

-- After a text there are as many segments as it says.
pub step_segments : (finds : Finds) (sized : IsSized finds) (store : Store) (before : StoreState) (c : Commit) (added : History) (after : StoreState) → IsStep finds store before c added after → after.space.segments ≡ c.segments
step_segments finds sized store before c added after is = by is.adds
  where
    by : Adds finds store before c added after → after.space.segments ≡ c.segments
    by (inl checkpoint) = ap (λ (s : StoreState). s.space.segments) checkpoint.0.after_is ∙ checkpoint.0.table.segments
    by (inr commit) = commit_segments finds sized store before c commit.0 after commit.1 is.suite ∙ sym commit.1.segments
