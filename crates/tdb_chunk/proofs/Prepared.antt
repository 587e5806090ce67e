-- A commit of any changes that pass, and the answers to one that is refused.
use Rattle.std.proofs.Common.{◌≡◌, ◌≢◌, ◌+◌, ◌*◌, ◌<◌, ◌≤◌, ℕ, Bool, true, false, cond, List, [], ◌∷◌, ◌++◌, length, Option, Some, None, Result, Ok, Err, IsTrue, refl, sym, ◌∙◌, ap, subst, arith}
use Rattle.std.proofs.lemmas.Bool.{cond-false, le-ltb}
use Rattle.std.proofs.lemmas.Option.{none-some, same_Some}
use Rattle.std.specs.Option.{option_or}
use Rattle.std.specs.Prelude.{IfErr}
use Rattle.tdb_append.specs.Placed.{Placed}
use Rattle.tdb_base.specs.declared.piece.Place.{Place}
use Rattle.tdb_base.specs.declared.piece.NoRoom as room
use Rattle.tdb_list.specs.declared.entry.Entry.{Entry}
use Rattle.tdb_list.specs.ChangeList.{IsList}
use Rattle.tdb_model.specs.declared.change.Change.{Change}
use Rattle.tdb_model.specs.declared.change.Change.TheVariants.{Write, Free, Make, Copy, Drop}
use Rattle.tdb_model.specs.declared.error.CommitError.{CommitError}
use Rattle.tdb_model.specs.declared.error.CommitError.TheVariants.{NoRoom}
use Rattle.tdb_model.specs.Apply.{apply}
use Rattle.tdb_model.specs.Check.{check, check_commit, first_refusal, first_that_holds, refusal, tests_of}
use Rattle.tdb_model.specs.State.{State}
use Rattle.tdb_parts.specs.BareState.{bare_state}
use Rattle.tdb_parts.proofs.Parents.{check_covered}
use Rattle.tdb_platform.specs.Outside.{Outside}
use Rattle.tdb_seg.specs.SegmentSpace.{SegmentSpace, fits}
use Rattle.tdb_seg.proofs.PlacingLaws.{fits-append, fits_after}
use Rattle.tdb_overlay.specs.Found.{Finds}
use Rattle.tdb_overlay.specs.Log.{AreOwned}
use Rattle.tdb_overlay.specs.Needed.{needed}
use Rattle.tdb_overlay.specs.StoreState.{StoreState, commit_on, kept_free, record_length, records_of, where_passed}
use Rattle.tdb_overlay.proofs.Lengths.{as_many}
use Rattle.tdb_chunk.specs.Committing.{is_refusal}
use Rattle.tdb_chunk.specs.Known.{Knows, store_of}
use Rattle.tdb_overlay.specs.LaidOut.{in_pieces}
use Rattle.tdb_chunk.specs.Laying.{AreAllLaid}
use Rattle.tdb_chunk.specs.Preparing.{IsPrepared}
use Rattle.tdb_chunk.specs.declared.open_log.OpenLog.{OpenLog}
use Rattle.tdb_chunk.proofs.Committing.{few_pass, no_room}
use Rattle.tdb_chunk.proofs.Owners.{covered_alike, owned_alike, records_alike}

-- what a check answers is a refusal
abbrev AllRefuse : List (Bool × CommitError) → Type 0
AllRefuse [] = Unit {0}
AllRefuse (test ∷ tests) = IsTrue (is_refusal test.1) × AllRefuse tests

one_refuses : (tests : List (Bool × CommitError)) (e : CommitError) → AllRefuse tests → first_that_holds tests ≡ Some e → IsTrue (is_refusal e)
one_refuses [] e all is = absurd (none-some e is)
one_refuses (test ∷ tests) e all is = by test.0 (λ later. one_refuses tests e all.1 later) is
  where
    by : (b : Bool) → (first_that_holds tests ≡ Some e → IsTrue (is_refusal e)) → cond b (Some test.1) (first_that_holds tests) ≡ Some e → IsTrue (is_refusal e)
    by true later is = subst (λ (x : CommitError). IsTrue (is_refusal x)) (same_Some test.1 e is) all.0
    by false later is = later is

tests_refuse : (earlier : List Change) (state : State) (change : Change) → AllRefuse (tests_of earlier state change)
tests_refuse earlier state (Write part rank bytes) = (refl, (refl, (refl, (refl, (refl, tt)))))
tests_refuse earlier state (Free part rank) = (refl, (refl, (refl, (refl, tt))))
tests_refuse earlier state (Make part suite) = (refl, (refl, (refl, tt)))
tests_refuse earlier state (Copy from to) = (refl, (refl, (refl, (refl, tt))))
tests_refuse earlier state (Drop part) = (refl, (refl, (refl, tt)))

first_refuses : (earlier : List Change) (state : State) (changes : List Change) (e : CommitError) → first_refusal earlier state changes ≡ Some e → IsTrue (is_refusal e)
first_refuses earlier state [] e is = absurd (none-some e is)
first_refuses earlier state (change ∷ later) e is = by (refusal earlier state change) refl (λ then. first_refuses (earlier ++ change ∷ []) (apply 0 state change) later e then) is
  where
    by : (o : Option CommitError) → refusal earlier state change ≡ o → (first_refusal (earlier ++ change ∷ []) (apply 0 state change) later ≡ Some e → IsTrue (is_refusal e))
        → option_or o (first_refusal (earlier ++ change ∷ []) (apply 0 state change) later) ≡ Some e → IsTrue (is_refusal e)
    by (Some x) here then is = one_refuses (tests_of earlier state change) e (tests_refuse earlier state change) (here ∙ is)
    by None here then is = then is

pub check_refuses : (state : State) (changes : List Change) (e : CommitError) → check state changes ≡ Some e → IsTrue (is_refusal e)
check_refuses state changes e is = first_refuses [] state changes e is

-- Of a log that stands for a state.
module _ (o : Outside) (was : OpenLog) (changes : List Change) (last : StoreState) (known : Knows o was last) where
  abbrev f : Finds
  f = needed o.trace.written (store_of was) o.anchor

  same_check : check (bare_state was.log.overlay) changes ≡ check last.chunks changes
  same_check = check_covered f was.keys was.log.overlay last.chunks changes known.chunks

  same_records : records_of (store_of was) (was.log.head.count + 1) (bare_state was.log.overlay) changes ≡ records_of (store_of was) (last.count + 1) last.chunks changes
  same_records =
      records_alike (store_of was) (was.log.head.count + 1) (bare_state was.log.overlay) last.chunks changes (covered_alike f was.keys was.log.overlay last.chunks known.chunks)
      ∙ ap (λ (n : ℕ). records_of (store_of was) (n + 1) last.chunks changes) known.count

  pub known_passes : check (bare_state was.log.overlay) changes ≡ None → check last.chunks changes ≡ None
  known_passes passes = sym same_check ∙ passes

  pub known_owned : (entries : List Entry) → AreOwned (was.log.head.count + 1) (bare_state was.log.overlay) entries changes → AreOwned (last.count + 1) last.chunks entries changes
  known_owned entries owned =
      subst (λ (n : ℕ). AreOwned (n + 1) last.chunks entries changes) known.count
      (owned_alike (was.log.head.count + 1) (bare_state was.log.overlay) last.chunks entries changes (covered_alike f was.keys was.log.overlay last.chunks known.chunks) owned)

  -- a change is refused
  pub check_refused : (e : CommitError) → length changes ≤ 1024 → check (bare_state was.log.overlay) changes ≡ Some e → commit_on (store_of was) last changes ≡ Err e
  unfolding commit_on
  check_refused e few is =
      let all : check_commit last.chunks changes ≡ Some e = cond-false _ _ _ (le-ltb 1024 (length changes) few) ∙ sym same_check ∙ is in
      ap (where_passed (store_of was) last changes) all

  -- a record of a write has no room
  pub record_refused : was.log.head.count ≢ was.log.head.base + 1000 → was.log.head.count < 18446744073709551615 → length changes ≤ 1024 → check (bare_state was.log.overlay) changes ≡ None → (refusal : room.NoRoom)
      → fits was.log.segments (records_of (store_of was) (was.log.head.count + 1) (bare_state was.log.overlay) changes) (kept_free changes) ≡ Err refusal → commit_on (store_of was) last changes ≡ Err (NoRoom refusal)
  record_refused not_full counts_on few passes refusal refuses =
      let keep : ℕ = kept_free changes in
      let ns : List ℕ = records_of (store_of was) (last.count + 1) last.chunks changes in
      let n : ℕ = record_length was.log.suite (16 + 72 * length changes) in
      no_room o was not_full counts_on last known changes keep refl (few_pass last changes few (known_passes passes)) refusal
      (fits-append was.log.segments ns (n ∷ []) keep
      ∙ ap (λ (r : Result (List Place × SegmentSpace) room.NoRoom). fits_after r (n ∷ []) keep)
      (ap (λ (l : List ℕ). fits was.log.segments l keep) (sym same_records) ∙ refuses))

-- entries of changes that pass, laid
pub all_prepared : (o : Outside) (was : OpenLog) (changes : List Change) (keep : ℕ) (entries : List Entry) (pieces : List Placed) (space : SegmentSpace) → keep ≡ kept_free changes → check (bare_state was.log.overlay) changes ≡ None
    → AreAllLaid was.keys (was.log.head.count + 1) (bare_state was.log.overlay) (kept_free changes) was.log.segments changes entries pieces space → IsPrepared o was keep entries pieces space changes
all_prepared o was changes keep entries pieces space kept passes are =
    let prepared : IsPrepared o was (kept_free changes) entries pieces space changes = record {
      each = are.each;
      fit = are.fit;
      room = refl;
      allowed = λ last known. record { passes = known_passes o was changes last known passes; owned = known_owned o was changes last known entries are.owned };
    } in
    subst (λ (n : ℕ). IsPrepared o was n entries pieces space changes) (sym kept) prepared

-- they are a list
pub all_list : (was : OpenLog) (count : ℕ) (state : State) (keep : ℕ) (start : SegmentSpace) (changes : List Change) (entries : List Entry) (pieces : List Placed) (space : SegmentSpace) → AreAllLaid was.keys count state keep start changes entries pieces space
    → 1 ≤ length changes → length changes ≤ 1024 → IsList entries
all_list was count state keep start changes entries pieces space are some few =
    let same : length entries ≡ length changes = as_many (in_pieces pieces) (λ piece bytes found. found.2) (store_of was) was.keys entries changes are.each in
    record { least = omega (arith, same, some); most = omega (arith, same, few); each = are.grammar }

-- what is refused on each state that the log may stand for
pub refused_for : {T : Type 0} (was : OpenLog) (changes : List Change) (r : Result T CommitError) → ((o : Outside) (last : StoreState) → Knows o was last → IfErr r (λ e. commit_on (store_of was) last changes ≡ Err e))
    → IfErr r (λ e. (o : Outside) (last : StoreState) → Knows o was last → commit_on (store_of was) last changes ≡ Err e)
refused_for was changes (Ok x) each = tt
refused_for was changes (Err e) each = each
