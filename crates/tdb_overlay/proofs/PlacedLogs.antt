-- What the texts of a log since its last checkpoint name is placed in its segments.
use Rattle.std.proofs.Common.{IsNone, ◌≡◌, ◌⊎◌, inl, inr, ⊎_elim, ℕ, ◌+◌, ◌-◌, ◌/◌, ◌≤◌, List, [], ◌∷◌, ◌++◌, map, Option, Some, None, Ok, IsTrue, refl, sym, ◌∙◌, ap, subst, arith}
use Rattle.std.proofs.lemmas.Bool.{eq-eqb}
use Rattle.std.proofs.lemmas.Option.{same_Some}
use Rattle.std.specs.List.{AllByRecursion}
use Rattle.std.specs.FinSet.{contains}
use Rattle.tdb_base.specs.declared.piece.Piece.{Piece}
use Rattle.tdb_base.specs.declared.piece.Place.{Place}
use Rattle.tdb_base.specs.Segment.{LiesInSegment}
use Rattle.tdb_list.specs.ChangeList.{IsChangeList}
use Rattle.tdb_list.proofs.ListSpelling.{same_list}
use Rattle.tdb_mark.specs.declared.commit.Commit.{Commit}
use Rattle.tdb_mark.specs.CommitFormat.{IsInFormat}
use Rattle.tdb_model.specs.declared.change.Change.{Change}
use Rattle.tdb_model.specs.Apply.{History}
use Rattle.tdb_seal.proofs.RecordSpelling.{same_plain}
use Rattle.tdb_seal.specs.SealedRecord.{IsSealedRecord}
use Rattle.tdb_seg.specs.Inside.{IsKept}
use Rattle.tdb_seg.specs.InsideLaws.{contains-used_in}
use Rattle.tdb_seg.specs.SegmentSpace.{SegmentSpace, IsSegmentSpace, IsPlacedIn, fits, note_in}
use Rattle.tdb_seg.specs.TableSpace.{table_space, used_in}
use Rattle.tdb_seg.specs.declared.segments.Segments.TheInside.{Inside}
use Rattle.tdb_seg.proofs.Placing.{LiesInDevice, kept-space, segment-of}
use Rattle.tdb_seg.proofs.PlacingLaws.{now-placed, place_in-is, placed-stays, with_bytes-valid}
use Rattle.tdb_overlay.specs.Changes.{HasChanges, HasTable, named_records}
use Rattle.tdb_overlay.specs.CheckpointState.{IsReached}
use Rattle.tdb_overlay.specs.Found.{Finds, FindsOne, Store, store_of_text}
use Rattle.tdb_base.specs.declared.suite.Suite.{Suite}
use Rattle.tdb_overlay.specs.Keys.{system_key}
use Rattle.tdb_overlay.specs.Log.{Adds, IsCommitOn, IsLogOf, IsStep, end_of}
use Rattle.tdb_overlay.specs.StoreState.{StoreState, first_state, kept_free}
use Rattle.tdb_overlay.proofs.Lengths.{IsSized}
use Rattle.tdb_overlay.proofs.LogLaws.{allows}
use Rattle.tdb_overlay.proofs.Placings.{HasLength, first_placed, nothing_placed}
use Rattle.tdb_overlay.proofs.Steps.{commit_space, piece_lengths, placed, sizes}
use Rattle.tdb_overlay.proofs.CheckpointLaws.{none_reached}
use Rattle.tdb_overlay.proofs.Listed.{all_at, all_front, all_weaker}

-- the bytes of the piece were placed in the space
abbrev pub IsIn : SegmentSpace → Piece → Type 0
IsIn space piece = IsPlacedIn space piece.place.0 piece.length

-- what is placed in the one space is placed in the other
abbrev pub Stay : SegmentSpace → SegmentSpace → Type 0
Stay space after = (q m : ℕ) → IsPlacedIn space q m → IsPlacedIn after q m

placed_as : (space : SegmentSpace) (pieces : List Piece) (keep : ℕ) (after : SegmentSpace) → IsSegmentSpace space
    → AllByRecursion HasLength pieces
    → fits space (map (λ (p : Piece). p.length) pieces) keep ≡ Ok (map (λ (p : Piece). p.place) pieces, after) → Stay space after
    × AllByRecursion (IsIn after) pieces
placed_as space [] keep after valid lengths is = (
  λ q m old. subst (λ (s : SegmentSpace). IsPlacedIn s q m)
      (nothing_placed space after keep is) old,
  tt,
)
placed_as space (piece ∷ pieces) keep after valid lengths is =
    let parts = first_placed space piece pieces keep after is in
    let one = place_in-is space valid piece.length keep piece.place (note_in space piece) lengths.0.0 lengths.0.1 parts.first in
    let lies : LiesInDevice space piece.place piece.length = (one.fresh.k, one.fresh.within, one.fresh.lies) in
    let rest = placed_as (note_in space piece) pieces keep after
    (with_bytes-valid space valid piece.place piece.length lies) lengths.1 parts.rest in (
      λ q m old. rest.0 q m (placed-stays space piece.place piece.length q m one.fresh old),
      (rest.0 piece.place.0 piece.length (now-placed space piece.place piece.length one.fresh), rest.1),
    )

pub is_none : (r : Option Piece) → IsNone r → r ≡ None
is_none None none = refl
is_none (Some p) none = absurd (cc none)

-- The table of a checkpoint is placed in the segments that it tells.
pub table_placed : (f : Finds) (secret : List ℕ) (c : Commit) → IsInFormat c → (has : HasTable f secret c)
    → IsSegmentSpace (table_space has.table (end_of c.first)) × IsIn (table_space has.table (end_of c.first)) c.first
table_placed f secret c format has =
    let k : ℕ = format.first.0 in
    let lies : LiesInSegment c.first.place.0 c.first.length k = format.first.2 in
    let used : IsTrue (contains (used_in has.table) k) =
    subst (λ (j : ℕ). IsTrue (contains (used_in has.table) j)) (segment-of c.first.place.0 c.first.length k lies)
    (contains-used_in has.table has.value (c.first.place.0 / 262144 - 1) ∙ eq-eqb _ 1 has.used) in
    let inside : Inside = record { table = has.table; tail = Some (end_of c.first) } in
    let kept : IsKept inside = record {
      table = has.is_table;
      value = has.value;
      tail = (k, used, record { after_start = omega (arith, lies.some, lies.begins); within = omega (arith, lies.ends) });
    } in (
      kept-space inside kept,
      record {
        k = k;
        used = used;
        lies = lies;
        before = λ tail is ends. omega
            (arith, ap (λ (q : Place). q.0) (same_Some (end_of c.first) tail is));
      },
    )

-- A space of segments stands behind each text.
abbrev pub HasSpace : StoreState → Type 0
HasSpace s = (s.base ≡ 0) ⊎ IsSegmentSpace s.space

-- what a text makes of the counts and of what is placed
pub record StepPlaced (before : StoreState) (c : Commit) (after : StoreState) : Type 0 where
  pub valid : IsSegmentSpace after.space
  pub next : after.count ≡ before.count + 1
  pub count : after.count ≡ c.count
  pub stays : ((after.base ≡ before.base) × Stay before.space after.space) ⊎ (after.base ≡ after.count)
  pub first : IsIn after.space c.first

module _ (f : Finds) (sized : IsSized f) (store : Store) where
  commit_placed : (before : StoreState) (c : Commit) (changes : List Change) (after : StoreState)
      (is : IsCommitOn f store before c changes after) → c.suite ≡ store.suite → IsSegmentSpace before.space
      → Stay before.space after.space × AllByRecursion (IsIn after.space) (named_records is.list.entries ++ c.first ∷ [])
  commit_placed before c changes after is same valid =
      let pieces : List Piece = named_records is.list.entries ++ c.first ∷ [] in
      placed_as before.space pieces (kept_free changes) after.space valid (piece_lengths f sized store before c changes after is same)
      (ap (λ (ns : List ℕ). fits before.space ns (kept_free changes)) (sizes f sized store before c changes after is same)
      ∙ placed f sized store before c changes after is same)

  -- a commit comes after some text
  pub commit_behind : (before : StoreState) (c : Commit) (changes : List Change) (after : StoreState) → IsInFormat c
      → IsCommitOn f store before c changes after → HasSpace before → IsSegmentSpace before.space
  commit_behind before c changes after format is (inl none) = absurd (omega (arith, none, is.base, format.base))
  commit_behind before c changes after format is (inr valid) = valid

  pub step_placed : (before : StoreState) (c : Commit) (added : History) (after : StoreState) → IsInFormat c → c.suite ≡ store.suite
      → HasSpace before → Adds f store before c added after → StepPlaced before c after
  step_placed before c added after format same valid (inl checkpoint) =
      let is = checkpoint.0 in
      let table = table_placed f store.secret c format is.table in
      let space : after.space ≡ table_space is.table.table (end_of c.first) = ap (λ (s : StoreState). s.space) is.after_is in
      let count : after.count ≡ c.count = ap (λ (s : StoreState). s.count) is.after_is in
      record {
        valid = subst IsSegmentSpace (sym space) table.0;
        next = count ∙ is.next;
        count = count;
        stays = inr (ap (λ (s : StoreState). s.base) is.after_is ∙ sym count);
        first = subst (λ (s : SegmentSpace). IsIn s c.first) (sym space) table.1;
      }
  step_placed before c added after format same valid (inr commit) =
      let is = commit.1 in
      let allowed = allows store before commit.0 after is.allowed in
      let count : after.count ≡ before.count + 1 = ap (λ (s : StoreState). s.count) allowed.after_is in
      let space : IsSegmentSpace before.space = commit_behind before c commit.0 after format is valid in
      let all = commit_placed before c commit.0 after is same space in
      record {
        valid = commit_space f sized store before c commit.0 after is same space;
        next = count;
        count = count ∙ sym is.next;
        stays = inl (ap (λ (s : StoreState). s.base) allowed.after_is, all.0);
        first = all_at (IsIn after.space) (named_records is.list.entries) c.first [] all.1;
      }

  -- what the texts of a log make of them
  pub record LogPlaced (before last : StoreState) : Type 0 where
    pub base : before.base ≤ last.base
    pub count : before.count ≤ last.count
    pub stays : last.base ≤ before.count → Stay before.space last.space

  pub log_placed : (before : StoreState) (chain : List Commit) (history : History) (last : StoreState) → AllByRecursion IsInFormat chain
      → HasSpace before → before.base ≤ before.count → IsLogOf f store before chain history last → LogPlaced before last
  log_placed before [] history last formats valid least is = subst (LogPlaced before) (sym is.1)
      (record { base = omega arith; count = omega arith; stays = λ since q m old. old })
  log_placed before (c ∷ chain) history last formats valid least is =
      let step = step_placed before c is.0 is.1 formats.0 is.3.suite valid is.3.adds in
      let base_least : is.1.base ≤ is.1.count = ⊎_elim (λ same. omega (arith, same.0, step.next, least))
      (λ at. omega (arith, at)) step.stays in
      let rest = log_placed is.1 chain is.2 last formats.1 (inr step.valid) base_least is.4 in
      record {
        base = ⊎_elim (λ same. omega (arith, same.0, rest.base)) (λ at. omega (arith, at, step.next, least, rest.base)) step.stays;
        count = omega (arith, step.next, rest.count);
        stays = λ since q m old.
            ⊎_elim (λ same. rest.stays (omega (arith, since, step.next)) q m (same.1 q m old))
            (λ at. absurd (omega (arith, at, step.next, rest.base, since))) step.stays;
      }

  -- Behind a log of some texts stands a space of segments.
  pub log_space : (before : StoreState) (chain : List Commit) (history : History) (last : StoreState) → AllByRecursion IsInFormat chain
      → HasSpace before → IsLogOf f store before chain history last → HasSpace last
  log_space before [] history last formats valid is = subst HasSpace (sym is.1) valid
  log_space before (c ∷ chain) history last formats valid is =
      log_space is.1 chain is.2 last formats.1 (inr (step_placed before c is.0 is.1 formats.0 is.3.suite valid is.3.adds).valid) is.4

  -- A text of a log: the states before and behind it, and what is still placed if no checkpoint came since.
  pub record TextAt (c : Commit) (last : StoreState) : Type 0 where
    pub before : StoreState
    pub added : History
    pub after : StoreState
    pub step : IsStep f store before c added after
    pub valid : HasSpace before
    pub format : IsInFormat c
    pub some : 1 ≤ c.count
    pub counted : c.count ≤ last.count
    pub first : last.base ≤ c.count → IsIn last.space c.first
    pub stays : last.base ≤ c.count → Stay after.space last.space

  text_from : (before : StoreState) (earlier : List Commit) (c : Commit) (later : List Commit) (history : History) (last : StoreState)
      → AllByRecursion IsInFormat (earlier ++ c ∷ later) → HasSpace before → before.base ≤ before.count
      → IsLogOf f store before (earlier ++ c ∷ later) history last → TextAt c last
  text_from before [] c later history last formats valid least is =
      let step = step_placed before c is.0 is.1 formats.0 is.3.suite valid is.3.adds in
      let base_least : is.1.base ≤ is.1.count = ⊎_elim (λ same. omega (arith, same.0, step.next, least))
      (λ at. omega (arith, at)) step.stays in
      let rest = log_placed is.1 later is.2 last formats.1 (inr step.valid) base_least is.4 in
      let stays : last.base ≤ c.count → Stay is.1.space last.space = λ since. rest.stays (omega (arith, step.count, since)) in
      record {
        before = before;
        added = is.0;
        after = is.1;
        step = is.3;
        valid = valid;
        format = formats.0;
        some = omega (arith, step.count, step.next);
        counted = omega (arith, step.count, rest.count);
        first = λ since. stays since c.first.place.0 c.first.length step.first;
        stays = stays;
      }
  text_from before (d ∷ earlier) c later history last formats valid least is =
      let step = step_placed before d is.0 is.1 formats.0 is.3.suite valid is.3.adds in
      let base_least : is.1.base ≤ is.1.count = ⊎_elim (λ same. omega (arith, same.0, step.next, least))
      (λ at. omega (arith, at)) step.stays in
      text_from is.1 earlier c later is.2 last formats.1 (inr step.valid) base_least is.4

  pub text_at : (earlier : List Commit) (c : Commit) (later : List Commit) (history : History) (last : StoreState)
      → AllByRecursion IsInFormat (earlier ++ c ∷ later) → IsLogOf f store first_state (earlier ++ c ∷ later) history last → TextAt c last
  text_at earlier c later history last formats is =
      text_from first_state earlier c later history last formats (inl refl) (omega arith) is

  -- the pieces of its list, where it is a commit
  pub commit_pieces : (c : Commit) (last : StoreState) (at : TextAt c last) → c.kind ≡ 1
      → (changes : List Change) × (has : HasChanges f store.secret c changes)
      × (last.base ≤ c.count → AllByRecursion (IsIn last.space) (named_records has.entries))
  commit_pieces c last at kind = by at.step.adds
    where
      weaker : Stay at.after.space last.space → (pieces : List Piece) → AllByRecursion (IsIn at.after.space) pieces
          → AllByRecursion (IsIn last.space) pieces
      weaker stays pieces all = all_weaker (IsIn at.after.space) (IsIn last.space) pieces (λ p in_it. stays p.place.0 p.length in_it) all

      by : Adds f store at.before c at.added at.after → (changes : List Change) × (has : HasChanges f store.secret c changes)
          × (last.base ≤ c.count → AllByRecursion (IsIn last.space) (named_records has.entries))
      by (inl checkpoint) = absurd (omega (arith, kind, checkpoint.0.kind))
      by (inr commit) =
          let is = commit.1 in
          let all = commit_placed at.before c commit.0 at.after is at.step.suite
          (commit_behind at.before c commit.0 at.after at.format is at.valid) in (
            commit.0,
            is.list,
            λ since. weaker (at.stays since) (named_records is.list.entries)
                (all_front (IsIn at.after.space) (named_records is.list.entries) (c.first ∷ []) all.1),
          )

  -- the pieces that its root reaches
  pub reached_placed : (c : Commit) (last : StoreState) (at : TextAt c last) (piece : Piece)
      → IsReached f (store_of_text store.secret c) c.root piece → last.base ≤ c.count → IsIn last.space piece
  reached_placed c last at piece reached since = by at.step.adds
    where
      in_store : IsReached f store c.root piece
      in_store = subst (λ (s : Suite). IsReached f (record { secret = store.secret; suite = s }) c.root piece) at.step.suite reached

      no_root : c.root ≡ None → ⊥
      no_root none = none_reached f store piece (subst (λ (r : Option Piece). IsReached f store r piece) none in_store)

      by : Adds f store at.before c at.added at.after → IsIn last.space piece
      by (inl checkpoint) = at.stays since piece.place.0 piece.length (checkpoint.0.placed piece (inr in_store))
      by (inr commit) = absurd
          (⊎_elim (λ is. no_root (is_none c.root is.2)) (λ is. absurd (omega (arith, is.0, commit.1.kind))) at.format.kind)

-- A text has one list.
pub one_list : (f : Finds) → FindsOne f
    → (secret : List ℕ) (c : Commit) (x y : List Change) (a : HasChanges f secret c x) (b : HasChanges f secret c y) → a.entries ≡ b.entries
one_list f one secret c x y a b =
    let sealed : a.sealed ≡ b.sealed = one c.first a.sealed b.sealed a.found b.found in
    let plain : a.plain ≡ b.plain =
    same_plain (system_key secret) (record { kind = 5; suite = c.suite; home = 0; rank = 0 }) a.plain b.plain b.sealed
    (subst (λ (s : List ℕ). IsSealedRecord (system_key secret)
    (record { kind = 5; suite = c.suite; home = 0; rank = 0 }) a.plain s) sealed a.opened) b.opened in
    same_list a.entries b.entries b.plain (subst (IsChangeList a.entries) plain a.list) b.list
