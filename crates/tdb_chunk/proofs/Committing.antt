-- What a commit adds to a log that the store knows, and what the store knows behind it.
use Rattle.std.proofs.Common.{◌≡◌, ◌≢◌, inl, inr, ◌+◌, ◌*◌, ◌<◌, ◌≤◌, ℕ, List, [], ◌∷◌, ◌++◌, map, length, None, Result, Ok, Err, refl, sym, ◌∙◌, ap, subst, arith, Some}
use Rattle.std.specs.List.{AllByRecursion}
use Rattle.std.proofs.lemmas.Bool.{cond-true, cond-false, eq-eqb, le-ltb, lt-ltb, ne_eqb}
use Rattle.std.proofs.lemmas.List.{map-append}
use Rattle.sha2.specs.Sha256.{sha256}
use Rattle.tdb_append.specs.Placed.{Placed}
use Rattle.tdb_base.specs.declared.piece.Piece.{Piece}
use Rattle.tdb_base.specs.declared.piece.Place.{Place}
use Rattle.tdb_base.specs.declared.piece.NoRoom as room
use Rattle.tdb_base.specs.Trace.{Extends}
use Rattle.tdb_list.specs.declared.entry.Entry.{Entry}
use Rattle.tdb_list.specs.ChangeList.{IsList, list_bytes}
use Rattle.tdb_list.specs.Entry.{IsEntryValue}
use Rattle.tdb_mark.specs.declared.commit.Commit.{Commit}
use Rattle.tdb_model.specs.declared.change.Change.{Change}
use Rattle.tdb_model.specs.declared.error.CommitError.TheVariants.{CounterEnd, NoRoom, RingFull, TooManyChanges}
use Rattle.tdb_model.specs.Apply.{apply_all, History}
use Rattle.tdb_model.specs.Check.{check, check_commit}
use Rattle.tdb_platform.specs.Outside.{Outside}
use Rattle.tdb_seg.specs.SegmentSpace.{SegmentSpace, fits, place_in}
use Rattle.tdb_base.specs.Segment.{LiesInSegment}
use Rattle.tdb_seal.specs.SealedRecord.{IsSealedRecord}
use Rattle.tdb_seg.proofs.PlacingLaws.{fits-more, fits-refused, place_in-is}
use Rattle.tdb_overlay.specs.Keys.{system_key}
use Rattle.tdb_mark.specs.CommitChain.{commit_chain}
use Rattle.tdb_mark.specs.CommitText.{commit_key_of, commit_of}
use Rattle.tdb_model.specs.State.{State}
use Rattle.tdb_overlay.specs.Needed.{needed}
use Rattle.tdb_overlay.specs.Required.{base_of}
use Rattle.tdb_overlay.proofs.Chains.{chain_in_format, log_count, log_counts}
use Rattle.tdb_overlay.proofs.Needing.{base_of-last, changes_needed, needed_longer, records_needed}
use Rattle.tdb_overlay.specs.Names.{list_name}
use Rattle.tdb_overlay.specs.Changes.{AreChangesOf, HasChanges, named_records}
use Rattle.tdb_overlay.specs.BaseTree.{HasToldRoots, TellsRoster}
use Rattle.tdb_overlay.specs.Covering.{Covers, IsCovering, noted_all}
use Rattle.tdb_overlay.specs.Found.{Finer, Finds, Store, in_trace}
use Rattle.tdb_overlay.specs.Log.{AreOwned, IsCommitOn, IsStep, IsLogOf}
use Rattle.tdb_overlay.specs.StoreState.{StoreState, commit_fits, commit_lengths, commit_on, committed, kept_free, record_length, records_of, where_passed, where_placed, first_state}
use Rattle.tdb_overlay.specs.declared.recovered.BaseTree.{BaseTree}
use Rattle.tdb_overlay.proofs.BaseTrees.{noted_all_told, roster_told_finer, told_roots_finer}
use Rattle.tdb_overlay.proofs.Coverings.{covering_finer, covering_noted}
use Rattle.tdb_overlay.proofs.Lengths.{as_many, records_are}
use Rattle.tdb_chunk.specs.Known.{Knows, store_of}
use Rattle.tdb_overlay.specs.LaidOut.{IsOneOf, LaidOut, in_pieces}
use Rattle.tdb_chunk.specs.Preparing.{IsNext, IsPrepared}
use Rattle.tdb_overlay.specs.Text.{next_commit}
use Rattle.tdb_chunk.specs.declared.open_log.OpenLog.{OpenLog}
use Rattle.tdb_overlay.proofs.Sealing.{record_fits}
use Rattle.tdb_overlay.proofs.LogLaws.{changes_stay, list_stays}
use Rattle.tdb_overlay.proofs.PutLogs.{in_later_trace}

one_of_last : (ps : List Placed) (p : Placed) → IsOneOf (ps ++ p ∷ []) p.place p.bytes
one_of_last [] p = inl (refl, refl)
one_of_last (q ∷ ps) p = inr (one_of_last ps p)

one_of_more : (ps : List Placed) (p : Placed) (place : ℕ) (bytes : List ℕ) → IsOneOf ps place bytes → IsOneOf (ps ++ p ∷ []) place bytes
one_of_more [] p place bytes is = absurd is
one_of_more (q ∷ ps) p place bytes (inl e) = inl e
one_of_more (q ∷ ps) p place bytes (inr is) = inr (one_of_more ps p place bytes is)

-- what is found among some pieces, is found among more
pub more_found : (ps : List Placed) (p : Placed) → Finer (in_pieces ps) (in_pieces (ps ++ p ∷ []))
more_found ps p piece bytes found = (found.0, one_of_more ps p piece.place.0 bytes found.1, found.2)

-- the record behind these pieces, by its piece
pub last_found : (ps : List Placed) (sealed : List ℕ) (piece : Piece) → piece.digest.0 ≡ sha256 sealed → piece.length ≡ length sealed → in_pieces (ps ++ record { place = piece.place.0; bytes = sealed } ∷ []) piece sealed
last_found ps sealed piece digest size = (sym digest, one_of_last ps (record { place = piece.place.0; bytes = sealed }), size)

-- changes that are few enough and pass
pub few_pass : (last : StoreState) (changes : List Change) → length changes ≤ 1024 → check last.chunks changes ≡ None → check_commit last.chunks changes ≡ None
few_pass last changes few passes = cond-false _ _ _ (le-ltb 1024 (length changes) few) ∙ passes

-- the answers of `commit_on`, one after another
module _ (store : Store) (last : StoreState) (changes : List Change) where
  pub too_many : 1024 < length changes → commit_on store last changes ≡ Err (TooManyChanges (length changes))
  unfolding commit_on
  too_many many = ap (where_passed store last changes) (cond-true _ _ _ (lt-ltb 1024 (length changes) many))

  pub ring_full : check_commit last.chunks changes ≡ None → last.count ≡ last.base + 1000 → commit_on store last changes ≡ Err RingFull
  unfolding commit_on
  ring_full passes full = ap (where_passed store last changes) passes ∙ cond-true _ _ _ (eq-eqb last.count (last.base + 1000) full)

  pub counter_end : check_commit last.chunks changes ≡ None → last.count ≢ last.base + 1000 → last.count ≡ 18446744073709551615 → commit_on store last changes ≡ Err CounterEnd
  unfolding commit_on
  counter_end passes not_full end =
      ap (where_passed store last changes) passes ∙ cond-false _ _ _ (ne_eqb last.count (last.base + 1000) not_full) ∙ cond-true _ _ _ (eq-eqb last.count 18446744073709551615 end)

  pub on_placed : check_commit last.chunks changes ≡ None → last.count ≢ last.base + 1000 → last.count ≢ 18446744073709551615 → commit_on store last changes ≡ where_placed last changes (commit_fits store last changes)
  unfolding commit_on
  on_placed passes not_full not_end =
      ap (where_passed store last changes) passes ∙ cond-false _ _ _ (ne_eqb last.count (last.base + 1000) not_full) ∙ cond-false _ _ _ (ne_eqb last.count 18446744073709551615 not_end)

  pub fits_is : (keep : ℕ) → kept_free changes ≡ keep → commit_fits store last changes ≡ fits last.space (commit_lengths store (last.count + 1) last.chunks changes) keep
  unfolding commit_fits
  fits_is keep room = ap (fits last.space (commit_lengths store (last.count + 1) last.chunks changes)) room

-- Of a store that knows the last state.
module _ (o : Outside) (was : OpenLog) (not_full : was.log.head.count ≢ was.log.head.base + 1000) (counts_on : was.log.head.count < 18446744073709551615) (last : StoreState) (known : Knows o was last) (changes : List Change) (keep : ℕ) (needs : kept_free changes ≡ keep) (passes : check_commit last.chunks changes ≡ None) where
  goes_on : last.count ≢ last.base + 1000
  goes_on full = not_full (omega (arith, known.count, known.base, full))

  no_end : last.count ≢ 18446744073709551615
  no_end end = absurd (omega (arith, known.count, counts_on, end))

  -- no room for its records or its list
  pub no_room : (refusal : room.NoRoom) → fits was.log.segments (commit_lengths (store_of was) (last.count + 1) last.chunks changes) keep ≡ Err refusal → commit_on (store_of was) last changes ≡ Err (NoRoom refusal)
  no_room refusal refuses =
      on_placed (store_of was) last changes passes goes_on no_end
      ∙ ap (where_placed last changes)
      (fits_is (store_of was) last changes keep needs
      ∙ subst (λ (s : SegmentSpace). fits s (commit_lengths (store_of was) (last.count + 1) last.chunks changes) keep ≡ Err refusal) known.space refuses)

  pub with_room : (places : List Place) (space : SegmentSpace) → fits was.log.segments (commit_lengths (store_of was) (last.count + 1) last.chunks changes) keep ≡ Ok (places, space)
      → (commit_fits (store_of was) last changes ≡ Ok (places, space)) × (commit_on (store_of was) last changes ≡ Ok (committed last changes space))
  with_room places space fit =
      let fits_so : commit_fits (store_of was) last changes ≡ Ok (places, space) =
      fits_is (store_of was) last changes keep needs ∙ subst (λ (s : SegmentSpace). fits s (commit_lengths (store_of was) (last.count + 1) last.chunks changes) keep ≡ Ok (places, space)) known.space fit in
      (fits_so, on_placed (store_of was) last changes passes goes_on no_end ∙ ap (where_placed last changes) fits_so)

-- Entries whose records are placed, on a state that the store knows.
module _ (o : Outside) (was : OpenLog) (keep : ℕ) (entries : List Entry) (before : List Placed) (behind : SegmentSpace) (changes : List Change) (prepared : IsPrepared o was keep entries before behind changes) (list : IsList entries)
    (not_full : was.log.head.count ≢ was.log.head.base + 1000) (counts_on : was.log.head.count < 18446744073709551615) (last : StoreState) (known : Knows o was last) where
  as_many_are : length entries ≡ length changes
  as_many_are = as_many (in_pieces before) (λ piece bytes found. found.2) (store_of was) was.keys entries changes prepared.each

  pass : check_commit last.chunks changes ≡ None
  pass = few_pass last changes (omega (arith, as_many_are, list.most)) (prepared.allowed last known).passes

  lengths : map (λ (p : Piece). p.length) (named_records entries) ≡ records_of (store_of was) (last.count + 1) last.chunks changes
  lengths = records_are (in_pieces before) (λ piece bytes found. found.2) (store_of was) was.keys (last.count + 1) last.chunks entries changes prepared.each (prepared.allowed last known).owned

  abbrev length_of : ℕ → ℕ
  length_of n = record_length was.log.suite (16 + 72 * n)

  list_length : length_of (length entries) ≡ length_of (length changes)
  list_length = ap length_of as_many_are

  all_lengths : map (λ (p : Piece). p.length) (named_records entries) ++ length_of (length entries) ∷ [] ≡ commit_lengths (store_of was) (last.count + 1) last.chunks changes
  all_lengths =
      ap (λ (ns : List ℕ). ns ++ length_of (length entries) ∷ []) lengths ∙ ap (λ (n : ℕ). records_of (store_of was) (last.count + 1) last.chunks changes ++ n ∷ []) list_length

  -- there was no room for the list
  pub list_refused : (refusal : room.NoRoom) → place_in behind (length_of (length entries)) keep ≡ Err refusal → commit_on (store_of was) last changes ≡ Err (NoRoom refusal)
  list_refused refusal refuses =
      no_room o was not_full counts_on last known changes keep prepared.room pass refusal
      (ap (λ (ns : List ℕ). fits was.log.segments ns keep) (sym all_lengths)
      ∙ fits-refused was.log.segments (map (λ (p : Piece). p.length) (named_records entries)) keep (length_of (length entries)) [] (map (λ (p : Piece). p.place) (named_records entries)) behind refusal prepared.fit refuses)

  module _ (c : Commit) (ps : List Placed) (space : SegmentSpace) (next : IsNext was keep entries before behind c ps space) (values : AllByRecursion IsEntryValue entries) where
    abbrev new : Placed
    new = record { place = next.first.place.0; bytes = next.sealed }

    abbrev d : Commit
    d = next_commit was.log.suite was.log.head 1 was.log.head.base was.log.segments.segments next.first None

    each : AreChangesOf (in_pieces (before ++ new ∷ [])) was.keys entries changes
    each = changes_stay (in_pieces before) (in_pieces (before ++ new ∷ [])) (more_found before new) was.keys entries changes prepared.each

    abbrev has : HasChanges (in_pieces (before ++ new ∷ [])) was.keys d changes
    has = record {
      sealed = next.sealed;
      plain = list_bytes entries;
      entries = entries;
      found = last_found before next.sealed next.first next.digest next.size;
      opened = next.opened;
      list = record { values = values; list = list; spelled = refl };
      each = each;
    }

    placed_at : fits was.log.segments (commit_lengths (store_of was) (last.count + 1) last.chunks changes) keep ≡ Ok (map (λ (p : Piece). p.place) (named_records entries ++ next.first ∷ []), space)
    placed_at =
        ap (λ (ns : List ℕ). fits was.log.segments ns keep) (sym (ap (λ (n : ℕ). map (λ (p : Piece). p.length) (named_records entries) ++ n ∷ []) next.long ∙ all_lengths))
        ∙ fits-more was.log.segments (map (λ (p : Piece). p.length) (named_records entries)) keep (length next.sealed) (map (λ (p : Piece). p.place) (named_records entries)) behind space next.first.place prepared.fit next.place
        ∙ ap (λ (places : List Place). let r : Result (List Place × SegmentSpace) room.NoRoom = Ok (places, space) in r) (sym (map-append (λ (p : Piece). p.place) (named_records entries) (next.first ∷ [])))

    -- the commit may be made
    pub allowed_on : commit_on (store_of was) last changes ≡ Ok (committed last changes space)
    allowed_on = (with_room o was not_full counts_on last known changes keep prepared.room pass _ space placed_at).1

    -- its text is a step from the state that is known
    pub next_step : IsStep (in_pieces ps) (store_of was) last c ((last.count + 1, changes) ∷ []) (committed last changes space)
    next_step =
        let count : d.count ≡ last.count + 1 = omega (arith, known.count) in
        let on : IsCommitOn (in_pieces (before ++ new ∷ [])) (store_of was) last d changes (committed last changes space) = record {
          kind = refl;
          next = count;
          base = known.base;
          segments = ap (λ (s : SegmentSpace). s.segments) known.space;
          allowed = allowed_on;
          list = has;
          owned = subst (λ (n : ℕ). AreOwned n last.chunks entries changes) (sym count) (prepared.allowed last known).owned;
          placed = (with_room o was not_full counts_on last known changes keep prepared.room pass _ space placed_at).0;
        } in
        let step : IsStep (in_pieces (before ++ new ∷ [])) (store_of was) last d ((last.count + 1, changes) ∷ []) (committed last changes space) =
        record { suite = refl; adds = inr (changes, on, ap (λ (n : ℕ). (n, changes) ∷ []) (sym count)) } in
        subst (λ (l : List Placed). IsStep (in_pieces l) (store_of was) last c ((last.count + 1, changes) ∷ []) (committed last changes space)) (sym next.pieces_are)
        (subst (λ (k : Commit). IsStep (in_pieces (before ++ new ∷ [])) (store_of was) last k ((last.count + 1, changes) ∷ []) (committed last changes space)) (sym next.commit) step)

    -- Behind it, where the log of the anchor is one text longer.
    module _ (u : Outside) (chain : List Commit) (before_h : History) (grows : Extends o.trace u.trace) (finer : Finer (in_pieces ps) (in_trace u.trace.written))
        (ends : commit_chain o.trace.written (commit_of (commit_key_of was.keys)) o.anchor.0 o.anchor.1 ≡ Some chain) (tells : IsLogOf (in_trace o.trace.written) (store_of was) first_state chain before_h last)
        (longer : commit_chain u.trace.written (commit_of (commit_key_of was.keys)) u.anchor.0 u.anchor.1 ≡ Some (chain ++ c ∷ [])) where
      based : was.log.head.base ≡ base_of chain
      based =
          let many : last.count ≡ length chain = log_count (in_trace o.trace.written) (store_of was) chain before_h last tells in
          let formats = chain_in_format o.trace.written (commit_key_of was.keys) o.anchor.0 o.anchor.1 chain ends in
          known.base ∙ sym (log_counts (in_trace o.trace.written) (store_of was) chain before_h last (omega (arith, many, known.count, was.counts.some, was.counts.base)) formats tells).base

      longer_by : commit_chain u.trace.written (commit_of (commit_key_of was.keys)) u.anchor.0 u.anchor.1 ≡ Some (chain ++ d ∷ [])
      longer_by = subst (λ (k : Commit). commit_chain u.trace.written (commit_of (commit_key_of was.keys)) u.anchor.0 u.anchor.1 ≡ Some (chain ++ k ∷ [])) next.commit longer

      -- what the log needed it still needs
      needed_still : Finer (needed o.trace.written (store_of was) o.anchor) (needed u.trace.written (store_of was) u.anchor)
      needed_still = needed_longer o.trace.written u.trace.written (in_later_trace o.trace u.trace grows) (store_of was) o.anchor u.anchor chain d ends longer_by based

      abbrev its_list : HasChanges (in_trace u.trace.written) was.keys d changes
      its_list =
          list_stays (in_pieces (before ++ new ∷ [])) (in_trace u.trace.written) (subst (λ (l : List Placed). Finer (in_pieces l) (in_trace u.trace.written)) next.pieces_are finer) was.keys d changes has

      -- and it needs the records of the commit
      its_changes : AreChangesOf (needed u.trace.written (store_of was) u.anchor) was.keys entries changes
      its_changes =
          let base : base_of (chain ++ d ∷ []) ≡ was.log.head.base = base_of-last chain d in
          changes_needed u.trace.written (store_of was) u.anchor was.keys entries changes
          (records_needed u.trace.written (store_of was) u.anchor (chain ++ d ∷ []) longer_by d chain [] changes refl (omega (arith, base, was.counts.base)) refl its_list) its_list.each

      -- what is noted of its list tells the state behind it
      pub next_known : (now_is : OpenLog) → store_of now_is ≡ store_of was → now_is.log.head.count ≡ c.count → now_is.log.head.base ≡ was.log.head.base
          → now_is.log.segments ≡ space → now_is.log.overlay ≡ noted_all c.count was.log.overlay entries → now_is.log.tree ≡ was.log.tree
          → Knows u now_is (committed last changes space)
      next_known now_is same count base segments overlay tree =
          let f : Store → Finds = λ store. needed u.trace.written store u.anchor in
          let n : c.count ≡ last.count + 1 = omega (arith, ap (λ (k : Commit). k.count) next.commit, known.count) in
          let chunks : State = apply_all (last.count + 1) last.chunks changes in
          let covered : IsCovering (f (store_of was)) was.keys (noted_all (last.count + 1) was.log.overlay entries) chunks =
          covering_noted (f (store_of was)) was.keys (last.count + 1) was.log.overlay last.chunks entries changes
          (covering_finer (needed o.trace.written (store_of was) o.anchor) (f (store_of was)) needed_still was.keys was.log.overlay last.chunks known.chunks) its_changes (prepared.allowed last known).owned in
          record {
            suite = refl;
            count = count ∙ n;
            base = base ∙ known.base;
            space = segments;
            chunks =
                subst (λ (store : Store). IsCovering (f store) store.secret now_is.log.overlay chunks) (sym same)
                (subst (λ (covers : Covers). IsCovering (f (store_of was)) was.keys covers chunks) (sym (overlay ∙ ap (λ (k : ℕ). noted_all k was.log.overlay entries) n)) covered);
            root = ap (λ (t : BaseTree). t.root) tree ∙ known.root;
            leaders = subst (λ (store : Store). TellsRoster (f store) store last.root now_is.log.tree.leaders) (sym same)
                (subst (λ (t : BaseTree). TellsRoster (f (store_of was)) (store_of was) last.root t.leaders) (sym tree)
                (roster_told_finer (needed o.trace.written (store_of was) o.anchor) (f (store_of was)) needed_still (store_of was) last.root
                was.log.tree.leaders known.leaders));
            roots = subst (λ (store : Store). HasToldRoots (f store) store last.root now_is.log.overlay) (sym same)
                (subst (HasToldRoots (f (store_of was)) (store_of was) last.root) (sym overlay)
                (noted_all_told (f (store_of was)) (store_of was) last.root c.count was.log.overlay entries
                (told_roots_finer (needed o.trace.written (store_of was) o.anchor) (f (store_of was)) needed_still (store_of was) last.root
                was.log.overlay known.roots)));
          }

-- a list that is placed behind the records of a batch
pub next_is : (was : OpenLog) (keep : ℕ) (entries : List Entry) (before : List Placed) (behind : SegmentSpace) (sealed : List ℕ) (first : Piece) (ps : List Placed) (space : SegmentSpace) (segments : ℕ) → segments ≡ was.log.segments.segments
    → length sealed ≡ record_length was.log.suite (16 + 72 * length entries) → first.length ≡ length sealed → first.digest.0 ≡ sha256 sealed → IsSealedRecord (system_key was.keys) (list_name was.log.suite) (list_bytes entries) sealed → place_in behind (length sealed) keep ≡ Ok (first.place, space)
    → ps ≡ before ++ record { place = first.place.0; bytes = sealed } ∷ [] → LaidOut was.keys was.log.segments behind before → was.log.head.count < 18446744073709551615 → IsList entries → LaidOut was.keys was.log.segments space ps
    → IsNext was keep entries before behind (next_commit was.log.suite was.log.head 1 was.log.head.base segments first None) ps space
next_is was keep entries before behind sealed first ps space segments same long size digest opened place pieces_are laid counts_on list laid_now =
    let fits = record_fits was.log.suite (16 + 72 * length entries) (omega (arith, list.most)) in
    let one = place_in-is behind laid.valid (length sealed) keep first.place space (omega (arith, long, fits.0)) (omega (arith, long, fits.1)) place in
    record {
      first = first;
      commit = ap (λ (n : ℕ). next_commit was.log.suite was.log.head 1 was.log.head.base n first None) same;
      in_format = record {
        base = was.counts.some;
        kind = inl (refl, omega (arith, was.counts.base), refl);
        fewest = omega (arith, same, laid.segments, laid.valid.least);
        most = omega (arith, same, laid.segments, laid.valid.most);
        first = (one.fresh.k, omega (arith, one.fresh.within, laid.valid.most), subst (λ (n : ℕ). LiesInSegment first.place.0 n one.fresh.k) (sym size) one.fresh.lies);
        root = tt;
      };
      sealed = sealed;
      long = long;
      size = size;
      digest = digest;
      opened = opened;
      place = place;
      pieces_are = pieces_are;
      laid = laid_now;
    }
