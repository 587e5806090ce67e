-- Entries that are laid one after another.
use Rattle.std.proofs.Common.{◌≡◌, inl, inr, ℕ, ◌<◌, ◌≤◌, ◌==◌, Bool, true, false, cond, List, [], ◌∷◌, ◌++◌, map, length, Some, Result, Ok, Err, replicate, refl, sym, ◌∙◌, ap, subst, arith}
use Rattle.std.proofs.lemmas.List.{append-nil, append_assoc, map-append}
use Rattle.sha2.specs.Sha256.{sha256}
use Rattle.tdb_append.specs.Placed.{Placed}
use Rattle.tdb_base.specs.declared.names.PartId.{PartId}
use Rattle.tdb_base.specs.declared.names.Rank.{Rank}
use Rattle.tdb_base.specs.declared.piece.Piece.{Piece}
use Rattle.tdb_base.specs.declared.piece.Place.{Place}
use Rattle.tdb_base.specs.declared.piece.NoRoom as room
use Rattle.tdb_base.specs.declared.suite.Suite.{Suite}
use Rattle.tdb_base.specs.declared.suite.Suite.TheVariants.{Plain, Aes128, Aes256}
use Rattle.tdb_base.specs.Segment.{LiesInSegment}
use Rattle.tdb_base.specs.SuiteNumber.{suite_number}
use Rattle.tdb_list.specs.declared.entry.Entry.{Entry}
use Rattle.tdb_list.specs.Entry.{IsCopy, IsDrop, IsEntry, IsEntryValue, IsFree, IsMake, IsNoPiece, IsWrite}
use Rattle.tdb_list.proofs.ListSpelling.{push_all}
use Rattle.tdb_model.specs.declared.change.Change.{Change}
use Rattle.tdb_model.specs.declared.change.Change.TheVariants.{Write}
use Rattle.tdb_model.specs.Apply.{apply, apply_all}
use Rattle.tdb_model.specs.State.{State}
use Rattle.tdb_seal.specs.SealedRecord.{IsSealedRecord}
use Rattle.tdb_seg.specs.SegmentSpace.{SegmentSpace, fits, place_in}
use Rattle.tdb_seg.proofs.PlacingLaws.{fits-append, fits-more, fits-refused, fits_after, place_in-is, prepended}
use Rattle.tdb_overlay.specs.Changes.{AreChangesOf, IsChangeOf, IsWritten, named_records}
use Rattle.tdb_overlay.specs.Found.{Finds, Finer, Store}
use Rattle.tdb_overlay.specs.Keys.{partition_key}
use Rattle.tdb_overlay.specs.Log.{AreOwned, IsOwned}
use Rattle.tdb_overlay.specs.StoreState.{record_length, record_of_change, records_of}
use Rattle.tdb_overlay.proofs.Lengths.{records_are}
use Rattle.tdb_overlay.proofs.LogLaws.{changes_stay}
use Rattle.tdb_overlay.specs.LaidOut.{LaidOut, in_pieces}
use Rattle.tdb_chunk.specs.Laying.{AreAllLaid, HasKey, IsLaid, IsOwner, Sealing, entry_with, entry_without, name_in, sealing_in}
use Rattle.tdb_chunk.specs.declared.owner.Owner.{Owner}
use Rattle.tdb_chunk.proofs.Committing.{last_found, more_found}
use Rattle.tdb_chunk.proofs.Owners.{owned_by, suite_there}

-- a record is no longer than a segment
pub record_least : (suite : Suite) (n : ℕ) → 1 ≤ record_length suite n
record_least Plain n = omega arith
record_least Aes128 n = omega arith
record_least Aes256 n = omega arith

pub record_most : (suite : Suite) (n : ℕ) → n ≤ 65536 → record_length suite n ≤ 262144
record_most Plain n short = omega arith
record_most Aes128 n short = omega arith
record_most Aes256 n short = omega arith

abbrev lengths : List Piece → List ℕ
lengths = map (λ (p : Piece). p.length)

abbrev places : List Piece → List Place
places = map (λ (p : Piece). p.place)

suite_small : (suite : Suite) → suite_number suite ≤ 2
suite_small Plain = omega arith
suite_small Aes128 = omega arith
suite_small Aes256 = omega arith

no_piece : IsNoPiece (record { place = record { 0 = 0 }; length = 0; digest = record { 0 = replicate 32 0 } })
no_piece = record { size = refl; place = refl; digest = refl }

nothing_fits : (space : SegmentSpace) (keep : ℕ) → fits space [] keep ≡ Ok ([], space)
unfolding fits
nothing_fits space keep = refl

-- an entry that names no record
pub plain_laid : (secret : List ℕ) (state : State) (keep : ℕ) (start : SegmentSpace) (change : Change) (before : List Placed) (behind : SegmentSpace) (e : Entry) → named_records (e ∷ []) ≡ [] → IsChangeOf (in_pieces before) secret e change
    → IsOwned state e change → IsEntry e → IsEntryValue e → LaidOut secret start behind before → IsLaid secret state keep start change before behind e before behind
plain_laid secret state keep start change before behind e none says owned entry value laid = record {
  says = says;
  owned = owned;
  entry = entry;
  value = value;
  fit = subst (λ (ps : List Piece). fits behind (lengths ps) keep ≡ Ok (places ps, behind)) (sym none) (nothing_fits behind keep);
  more = [];
  are = sym (append-nil before);
  laid = laid;
}

pub free_is : (part rank : ℕ) → (1 ≤ part) × (part ≤ 4095) → rank < 262144 → IsEntry (entry_without 2 part rank 0)
free_is part rank number below = let is : IsFree (entry_without 2 part rank 0) = record { kind = refl; part = number; rank = below; suite = refl; home = refl; birth = refl; piece = no_piece } in inr (inl is)

pub make_is : (part : ℕ) (suite : Suite) → (1 ≤ part) × (part ≤ 4095) → IsEntry (entry_without 3 part 0 (suite_number suite))
make_is part suite number =
    let is : IsMake (entry_without 3 part 0 (suite_number suite)) = record { kind = refl; part = number; rank = refl; suite = suite_small suite; home = refl; birth = refl; piece = no_piece } in
    inr (inr (inl is))

pub copy_is : (from to : ℕ) → (1 ≤ from) × (from ≤ 4095) → (1 ≤ to) × (to ≤ 4095) → IsEntry (entry_without 4 from to 0)
copy_is from to source target =
    let is : IsCopy (entry_without 4 from to 0) = record { kind = refl; part = source; rank = target; suite = refl; home = refl; birth = refl; piece = no_piece } in
    inr (inr (inr (inl is)))

pub drop_is : (part : ℕ) → (1 ≤ part) × (part ≤ 4095) → IsEntry (entry_without 5 part 0 0)
drop_is part number =
    let is : IsDrop (entry_without 5 part 0 0) = record { kind = refl; part = number; rank = refl; suite = refl; home = refl; birth = refl; piece = no_piece } in
    inr (inr (inr (inr is)))

-- an entry of a write whose record is placed
module _ (secret : List ℕ) (state : State) (keep : ℕ) (start behind next : SegmentSpace) (owner : Owner) (rank : Rank) (chunk : List ℕ) (before pieces : List Placed) (sealed : List ℕ) (piece : Piece) (s : Sealing)
    (number : (1 ≤ owner.part.0) × (owner.part.0 ≤ 4095)) (key : HasKey owner) (below : rank.0 < 262144) (there : sealing_in state owner.part.0 ≡ Some s) (is : IsOwner owner.part s owner)
    (opened : IsSealedRecord (partition_key secret owner.home owner.birth) (name_in owner rank.0) chunk sealed) (some : 1 ≤ length sealed) (most : length sealed ≤ 262144) (size : piece.length ≡ length sealed) (digest : piece.digest.0 ≡ sha256 sealed)
    (at : place_in behind (length sealed) keep ≡ Ok (piece.place, next)) (pushed : pieces ≡ before ++ record { place = piece.place.0; bytes = sealed } ∷ []) (laid : LaidOut secret start behind before) (laid_now : LaidOut secret start next pieces)
    (value : IsEntryValue (entry_with owner rank.0 piece)) where
  abbrev new : Placed
  new = record { place = piece.place.0; bytes = sealed }

  abbrev e : Entry
  e = entry_with owner rank.0 piece

  written : IsWritten (in_pieces (before ++ new ∷ [])) secret e chunk
  written = record { suite = owner.suite; numbered = refl; sealed = sealed; found = last_found before sealed piece digest size; opened = opened }

  lies : IsWrite e
  lies =
      let one = place_in-is behind laid.valid (length sealed) keep piece.place next some most at in
      record {
        kind = refl;
        part = number;
        rank = below;
        suite = suite_small owner.suite;
        home = (key.0, key.1);
        birth = key.2;
        piece = (one.fresh.k, omega (arith, one.fresh.within, laid.valid.most), subst (λ (n : ℕ). LiesInSegment piece.place.0 n one.fresh.k) (sym size) one.fresh.lies);
      }

  pub write_laid : IsLaid secret state keep start (Write owner.part rank chunk) before behind e pieces next
  write_laid = record {
    says = subst (λ (l : List Placed). IsChangeOf (in_pieces l) secret e (Write owner.part rank chunk)) (sym pushed) (refl, refl, refl, written);
    owned = owned_by state owner.part.0 e s there (ap suite_number is.suite) is.home is.birth;
    entry = inl lies;
    value = value;
    fit =
        ap (λ (n : ℕ). fits behind (n ∷ []) keep) size
        ∙ fits-more behind [] keep (length sealed) [] behind next piece.place (nothing_fits behind keep) at;
    more = new ∷ [];
    are = pushed;
    laid = laid_now;
  }

-- the record of a write has no room
pub write_refused : (store : Store) (state : State) (keep : ℕ) (behind : SegmentSpace) (part : PartId) (rank : Rank) (chunk : List ℕ) (suite : Suite) (s : Sealing) (refusal : room.NoRoom) → sealing_in state part.0 ≡ Some s → suite ≡ s.suite
    → place_in behind (record_length suite (length chunk)) keep ≡ Err refusal → fits behind (record_of_change store state (Write part rank chunk)) keep ≡ Err refusal
write_refused store state keep behind part rank chunk suite s refusal there same refuses =
    ap (λ (x : Suite). fits behind (record_length x (length chunk) ∷ []) keep) (suite_there store.suite state part.0 s there ∙ sym same)
    ∙ fits-refused behind [] keep (record_length suite (length chunk)) [] [] behind refusal (nothing_fits behind keep) refuses

-- nothing is laid yet
pub none_laid : (secret : List ℕ) (count : ℕ) (state : State) (keep : ℕ) (start : SegmentSpace) → LaidOut secret start start [] → AreAllLaid secret count state keep start [] [] [] start
none_laid secret count state keep start laid = record { each = tt; owned = tt; grammar = tt; values = tt; fit = nothing_fits start keep; laid = laid }

changes_push : (f : Finds) (secret : List ℕ) (entries : List Entry) (changes : List Change) (e : Entry) (change : Change) → AreChangesOf f secret entries changes → IsChangeOf f secret e change
    → AreChangesOf f secret (entries ++ e ∷ []) (changes ++ change ∷ [])
changes_push f secret [] [] e change are is = (is, tt)
changes_push f secret (d ∷ entries) (c ∷ changes) e change are is = (are.0, changes_push f secret entries changes e change are.1 is)
changes_push f secret [] (c ∷ changes) e change are is = absurd are
changes_push f secret (d ∷ entries) [] e change are is = absurd are

owned_push : (f : Finds) (secret : List ℕ) (count : ℕ) (state : State) (entries : List Entry) (changes : List Change) (e : Entry) (change : Change) → AreChangesOf f secret entries changes → AreOwned count state entries changes
    → IsOwned (apply_all count state changes) e change → AreOwned count state (entries ++ e ∷ []) (changes ++ change ∷ [])
owned_push f secret count state [] [] e change are owned is = (is, tt)
owned_push f secret count state (d ∷ entries) (c ∷ changes) e change are owned is = (owned.0, owned_push f secret count (apply count state c) entries changes e change are.1 owned.1 is)
owned_push f secret count state [] (c ∷ changes) e change are owned is = absurd are
owned_push f secret count state (d ∷ entries) [] e change are owned is = absurd are

named_push : (entries : List Entry) (e : Entry) → named_records (entries ++ e ∷ []) ≡ named_records entries ++ named_records (e ∷ [])
named_push [] e = refl
named_push (d ∷ entries) e = by (d.kind == 1) (named_push entries e)
  where
    by : (b : Bool) → named_records (entries ++ e ∷ []) ≡ named_records entries ++ named_records (e ∷ [])
        → cond b (d.piece ∷ named_records (entries ++ e ∷ [])) (named_records (entries ++ e ∷ [])) ≡ cond b (d.piece ∷ named_records entries) (named_records entries) ++ named_records (e ∷ [])
    by true later = ap (λ (l : List Piece). d.piece ∷ l) later
    by false later = later

-- placing more behind what was placed
fits_then : (start behind next : SegmentSpace) (ns ms : List ℕ) (keep : ℕ) (ps qs : List Place) → fits start ns keep ≡ Ok (ps, behind) → fits behind ms keep ≡ Ok (qs, next) → fits start (ns ++ ms) keep ≡ Ok (ps ++ qs, next)
fits_then start behind next ns ms keep ps qs first then =
    fits-append start ns ms keep
    ∙ ap (λ (o : Result (List Place × SegmentSpace) room.NoRoom). fits_after o ms keep) first
    ∙ ap (λ (o : Result (List Place × SegmentSpace) room.NoRoom). prepended ps o) then

fits_not : (start behind : SegmentSpace) (ns ms rest : List ℕ) (keep : ℕ) (ps : List Place) (refusal : room.NoRoom) → fits start ns keep ≡ Ok (ps, behind) → fits behind ms keep ≡ Err refusal → fits start (ns ++ (ms ++ rest)) keep ≡ Err refusal
fits_not start behind ns ms rest keep ps refusal first then =
    fits-append start ns (ms ++ rest) keep
    ∙ ap (λ (o : Result (List Place × SegmentSpace) room.NoRoom). fits_after o (ms ++ rest) keep) first
    ∙ ap (λ (o : Result (List Place × SegmentSpace) room.NoRoom). prepended ps o)
    (fits-append behind ms rest keep ∙ ap (λ (o : Result (List Place × SegmentSpace) room.NoRoom). fits_after o rest keep) then)

more_stays : (before more : List Placed) → Finer (in_pieces before) (in_pieces (before ++ more))
more_stays before [] piece bytes found = subst (λ (l : List Placed). in_pieces l piece bytes) (sym (append-nil before)) found
more_stays before (p ∷ more) piece bytes found =
    subst (λ (l : List Placed). in_pieces l piece bytes) (append_assoc before (p ∷ []) more) (more_stays (before ++ p ∷ []) more piece bytes (more_found before p piece bytes found))

-- one entry more
pub all_laid_more : (secret : List ℕ) (count : ℕ) (state : State) (keep : ℕ) (start behind next : SegmentSpace) (changes : List Change) (change : Change) (entries : List Entry) (e : Entry) (before pieces : List Placed)
    → AreAllLaid secret count state keep start changes entries before behind → IsLaid secret (apply_all count state changes) keep start change before behind e pieces next
    → AreAllLaid secret count state keep start (changes ++ change ∷ []) (entries ++ e ∷ []) pieces next
all_laid_more secret count state keep start behind next changes change entries e before pieces are is = record {
  each =
      changes_push (in_pieces pieces) secret entries changes e change
      (changes_stay (in_pieces before) (in_pieces pieces) (subst (λ (l : List Placed). Finer (in_pieces before) (in_pieces l)) (sym is.are) (more_stays before is.more)) secret entries changes are.each) is.says;
  owned = owned_push (in_pieces before) secret count state entries changes e change are.each are.owned is.owned;
  grammar = push_all IsEntry entries e are.grammar is.entry;
  values = push_all IsEntryValue entries e are.values is.value;
  fit =
      ap (λ (ps : List Piece). fits start (lengths ps) keep) (named_push entries e)
      ∙ ap (λ (ns : List ℕ). fits start ns keep) (map-append (λ (p : Piece). p.length) (named_records entries) (named_records (e ∷ [])))
      ∙ fits_then start behind next (lengths (named_records entries)) (lengths (named_records (e ∷ []))) keep (places (named_records entries)) (places (named_records (e ∷ []))) are.fit is.fit
      ∙ ap (λ (ps : List Place). let r : Result (List Place × SegmentSpace) room.NoRoom = Ok (ps, next) in r)
      (sym (ap places (named_push entries e) ∙ map-append (λ (p : Piece). p.place) (named_records entries) (named_records (e ∷ []))));
  laid = is.laid;
}

records_behind : (store : Store) (count : ℕ) (state : State) (changes later : List Change) → records_of store count state (changes ++ later) ≡ records_of store count state changes ++ records_of store count (apply_all count state changes) later
records_behind store count state [] later = refl
records_behind store count state (change ∷ changes) later =
    ap (λ (ns : List ℕ). record_of_change store state change ++ ns) (records_behind store count (apply count state change) changes later)
    ∙ sym (append_assoc (record_of_change store state change) (records_of store count (apply count state change) changes) _)

pub all_lengths : (store : Store) (secret : List ℕ) (count : ℕ) (state : State) (keep : ℕ) (start space : SegmentSpace) (changes : List Change) (entries : List Entry) (pieces : List Placed) → AreAllLaid secret count state keep start changes entries pieces space
    → lengths (named_records entries) ≡ records_of store count state changes
all_lengths store secret count state keep start space changes entries pieces are = records_are (in_pieces pieces) (λ piece bytes found. found.2) store secret count state entries changes are.each are.owned

-- the record of the next change has no room
pub all_refused : (store : Store) (secret : List ℕ) (count : ℕ) (state : State) (keep : ℕ) (start space : SegmentSpace) (done : List Change) (change : Change) (rest all : List Change) (entries : List Entry) (pieces : List Placed) (refusal : room.NoRoom)
    → AreAllLaid secret count state keep start done entries pieces space → fits space (record_of_change store (apply_all count state done) change) keep ≡ Err refusal → all ≡ done ++ change ∷ rest
    → fits start (records_of store count state all) keep ≡ Err refusal
all_refused store secret count state keep start space done change rest all entries pieces refusal are refuses is =
    ap (λ (cs : List Change). fits start (records_of store count state cs) keep) is
    ∙ ap (λ (ns : List ℕ). fits start ns keep)
    (records_behind store count state done (change ∷ rest)
    ∙ ap (λ (ns : List ℕ). ns ++ records_of store count (apply_all count state done) (change ∷ rest)) (sym (all_lengths store secret count state keep start space done entries pieces are)))
    ∙ fits_not start space (lengths (named_records entries)) (record_of_change store (apply_all count state done) change) (records_of store count (apply count (apply_all count state done) change) rest) keep (places (named_records entries)) refusal are.fit refuses
