-- A read of a chunk: its record is looked for, and then read.
use Rattle.std.proofs.Common.{◌≡◌, ◌≢◌, ◌⊎◌, inl, inr, ℕ, ◌+◌, ◌≤◌, Bool, false, List, [], ◌∷◌, Option, Some, None, Result, Ok, Err, IfErr, IfOk, IsTrue, is_some, refl, sym, ◌∙◌, ap, subst}
use Rattle.std.proofs.lemmas.Bool.{false≢true}
use Rattle.std.specs.FinMap as finmap
use Rattle.std.specs.Global.{Vec}
use Rattle.std.specs.Option.{option_map}
use Rattle.tdb_base.specs.declared.names.PartId.{PartId}
use Rattle.tdb_base.specs.declared.names.Rank.{Rank}
use Rattle.tdb_base.specs.declared.piece.Damage.{Damage}
use Rattle.tdb_base.specs.declared.piece.Piece.{Piece}
use Rattle.tdb_base.specs.declared.piece.Place.{Place}
use Rattle.tdb_base.specs.Rose.{Rose}
use Rattle.tdb_base.specs.Trace.{IsNumbered, ReadPiece, Trace, WrittenPiece, calls_in}
use Rattle.tdb_map.specs.Shown.{AsksOneOf, EachShown, ShowsOneOf}
use Rattle.tdb_map.specs.Tree.{HasAt, IsOnWayTo}
use Rattle.tdb_map.proofs.ShownLemmas.{asks_as, each_none, each_then, shows_as}
use Rattle.tdb_mark.specs.CommitText.{commit_key_of, commit_of}
use Rattle.tdb_mark.specs.Unforged.{IsUnforged}
use Rattle.tdb_model.specs.Apply.{History}
use Rattle.tdb_model.specs.HasRead.{HasRead, ReadCause}
use Rattle.tdb_model.specs.Lookup.{chunk_at}
use Rattle.tdb_model.specs.State.{State}
use Rattle.tdb_model.specs.declared.error.ReadError.{ReadError}
use Rattle.tdb_model.specs.declared.error.ReadError.TheVariants.{Stopped, NoPartition, NoChunk, Tampered, Form, Fault, Memory}
use Rattle.tdb_platform.specs.CrashStates.{CrashStates}
use Rattle.tdb_platform.specs.Outside.{Anchor, Outside}
use Rattle.tdb_seal.specs.SealedRecord.{IsSealedRecord}
use Rattle.tdb_overlay.specs.Covering.{Covered}
use Rattle.tdb_overlay.specs.Found.{in_trace}
use Rattle.tdb_overlay.specs.Images.{StandsIn}
use Rattle.tdb_overlay.specs.Keys.{partition_key}
use Rattle.tdb_overlay.specs.Lookup.{leader_of, seen_at}
use Rattle.tdb_overlay.specs.Needed.{needed}
use Rattle.tdb_overlay.specs.Reading.{HasRead as HasReadMore, OnlyReads, known_texts, shown_of}
use Rattle.tdb_overlay.specs.ReadsJoin.{reads_nothing, reads_then}
use Rattle.tdb_overlay.specs.Required.{IsRequired}
use Rattle.tdb_overlay.specs.StoreState.{StoreState}
use Rattle.tdb_overlay.specs.Trees.{map_height}
use Rattle.tdb_overlay.specs.declared.overlay.Leader.{Leader}
use Rattle.tdb_chunk.specs.Finding.{IsAbove, IsDamageAbove, IsStrayAbove, IsUnfitAbove, nodes_read, tree_told}
use Rattle.tdb_chunk.specs.Reading.{HasReadWhole, HasShown, IsDamageOf, IsLate, name_of}
use Rattle.tdb_chunk.specs.Shown.{Between, IsByTree, IsDamageOfChunk, IsMalformedChunk, IsNodeAbove, IsPieceOf, IsRecordOf, IsVerifiedChunk, WasShown}
use Rattle.tdb_chunk.specs.Standing.{IsInState, IsReady, StandsAt}
use Rattle.tdb_chunk.specs.StoreMeans.{IsSoundStore, store_means}
use Rattle.tdb_chunk.specs.StoreView.{StoreView, head_in, store_in, written_in}
use Rattle.tdb_chunk.proofs.FoundChunks.{TellsAs, known_chunk, lacks_chunk, seen_of}
use Rattle.tdb_chunk.proofs.Shown.{KnownChunk}
use Rattle.tdb_chunk.proofs.StoreReads.{covered_one, goes, is_some_unless, itself, over, reads_stay, still, there_by}
use Rattle.tdb_chunk.proofs.Undamaged.{no_damage}
use Rattle.tdb_chunk.proofs.WayPieces.{asks_whole, known_later, node_above, piece_later, record_in, record_of, shows_asked, shows_whole, tells_later}

module _ {P : Type 0} (outside : P → Outside) (crash_states : P → CrashStates) (s : StoreView P) (q : P) (rank : ℕ) (leader : Leader) where
  -- what find_record says of the store that calls it
  pub record FindFacts (result : Result (Option Piece) ReadError) : Type 0 where
    pub reads : OnlyReads outside crash_states s.platform q
    pub at : IfOk result (λ leaf. HasAt (nodes_read (outside q) (tree_told s.secret leader)) map_height leader.root rank leaf)
    pub asks : EachShown (shown_of (outside s.platform)) (shown_of (outside q))
        (AsksOneOf (IsOnWayTo (nodes_read (outside q) (tree_told s.secret leader)) (λ r. r ≡ rank) map_height 0 leader.root))
    pub undamaged : ((damage : Damage) → result ≢ Err (Tampered damage)) → EachShown (shown_of (outside s.platform)) (shown_of (outside q))
        (ShowsOneOf (IsOnWayTo (nodes_read (outside q) (tree_told s.secret leader)) (λ r. r ≡ rank) map_height 0 leader.root))
    pub tampered : (damage : Damage) → result ≡ Err (Tampered damage)
        → IsDamageAbove (outside s.platform) (outside q) (tree_told s.secret leader) rank damage
    pub form : (place : Place) → result ≡ Err (Form place)
        → IsUnfitAbove (outside s.platform) (outside q) (tree_told s.secret leader) rank place
        ⊎ IsStrayAbove (outside q) s.log.segments.segments (tree_told s.secret leader) rank place
    pub fault : result ≡ Err Fault → Rose (outside s.platform).faults (outside q).faults
    pub quiet : result ≢ Err Fault → (outside q).faults ≡ (outside s.platform).faults
    pub late : IfErr result IsLate

  -- what read_chunk says of it
  pub record ReadFacts (piece : Piece) (result : Result (Vec ℕ) ReadError) : Type 0 where
    pub reads : OnlyReads outside crash_states s.platform q
    pub bytes : IsTrue (outside s.platform).tells → IsUnforged (outside q).trace (commit_of (commit_key_of s.secret))
        → (sealed plain : List ℕ) → in_trace (outside s.platform).trace.written piece sealed
        → IsSealedRecord (partition_key s.secret leader.home leader.birth) (name_of leader rank) plain sealed
        → IfOk result (λ bytes. bytes.items ≡ plain)
    pub tampered : (damage : Damage) → result ≡ Err (Tampered damage) → IsDamageOf piece (outside s.platform) (outside q) damage
    pub stands : IsTrue (outside s.platform).honest → StandsIn (outside s.platform).image piece → (damage : Damage)
        → result ≢ Err (Tampered damage)
    pub shown : IsTrue (outside s.platform).tells
        → IfOk result (λ bytes. HasShown piece (outside s.platform) (outside q) (λ shown. Unit {0}))
    pub misshapen : (place : Place) → result ≡ Err (Form place) → (place ≡ piece.place)
        × (IsTrue (outside s.platform).tells → HasShown piece (outside s.platform) (outside q) (λ shown. (plain : List ℕ)
        → IsSealedRecord (partition_key s.secret leader.home leader.birth) (name_of leader rank) plain shown → ⊥))
    pub once : IsTrue (outside s.platform).tells → IfOk result (λ bytes. HasReadWhole piece (outside s.platform) (outside q))
    pub at_most_once : IsTrue (outside s.platform).tells
        → IfErr result (λ error. ((outside q).trace ≡ (outside s.platform).trace) ⊎ HasReadWhole piece (outside s.platform) (outside q))
    pub memory : result ≡ Err Memory → IsTrue (outside s.platform).tells
        → ((outside q).trace ≡ (outside s.platform).trace) ⊎ HasShown piece (outside s.platform) (outside q) (λ shown. Unit {0})
    pub fault : result ≡ Err Fault → Rose (outside s.platform).faults (outside q).faults
    pub quiet : result ≢ Err Fault → (outside q).faults ≡ (outside s.platform).faults
    pub late : IfErr result IsLate

-- bytes that were shown are among what was read
shown_reads : (piece : Piece) (o n : Outside) (Q : List ℕ → Type 0) → HasShown piece o n Q
    → (read : HasReadMore o n) × WasShown read.more piece Q
shown_reads piece o n Q s =
    let one : ReadPiece = record { bytes = s.bytes; place = piece.place.0; call = calls_in o.trace + 1; asked = piece.length } in (
      record { more = one ∷ []; read = ap (λ (t : Trace). t.read) s.read },
      record {
        earlier = [];
        one = one;
        later = [];
        in_order = refl;
        of_piece = (refl, refl);
        digest = s.digest;
        holds = s.holds;
      },
    )

-- what a list or a tree said of the record of a chunk, and the reads that this took
pub record Way {P : Type 0} (outside : P → Outside) (crash_states : P → CrashStates) (s : StoreView P) (part rank : ℕ) (q : P)
    (leaf : Option Piece) : Type 0 where
  pub reads : OnlyReads outside crash_states s.platform q
  pub tells : TellsAs (known_texts (outside q)) s.secret rank (finmap.get s.log.overlay part) leaf
  pub shows : EachShown (shown_of (outside s.platform)) (shown_of (outside q)) (ShowsOneOf (IsPieceOf (outside q) s part rank))
  pub quiet : (outside q).faults ≡ (outside s.platform).faults

module _ {P : Type 0} (outside : P → Outside) (crash_states : P → CrashStates)
    (counts : (p : P) (t u : ℕ) (i : List ℕ) (a : Anchor) → t ≤ u → u ≤ (outside p).clock → crash_states p u i a → crash_states p t i a)
    (numbered : (p : P) → IsTrue (outside p).tells → IsNumbered (outside p).trace) (old : StoreView P) (part rank : ℕ) where
  -- a list told of it, and nothing was read
  pub way_listed : (leaf : Option Piece) → seen_at old.log.overlay part rank ≡ seen_of leaf → Way outside crash_states old part rank old.platform leaf
  way_listed leaf is = record {
    reads = reads_nothing outside crash_states counts old.platform;
    tells = inl is;
    shows = each_none (shown_of (outside old.platform)) (ShowsOneOf (IsPieceOf (outside old.platform) old part rank));
    quiet = refl;
  }

  -- what was asked for is on the way
  pub find_asks : (q : P) (c : Covered) {result : Result (Option Piece) ReadError} → FindFacts outside crash_states old q rank (leader_of c) result
      → IsByTree old part rank c → EachShown (shown_of (outside old.platform)) (shown_of (outside q)) (AsksOneOf (IsPieceOf (outside q) old part rank))
  find_asks q c f by = asks_as (shown_of (outside old.platform)) (shown_of (outside q)) _ _ (λ p w. node_above old part rank (outside q) c p by w) f.asks

  pub find_shows : (q : P) (c : Covered) {result : Result (Option Piece) ReadError} → FindFacts outside crash_states old q rank (leader_of c) result
      → IsByTree old part rank c → ((damage : Damage) → result ≢ Err (Tampered damage))
      → EachShown (shown_of (outside old.platform)) (shown_of (outside q)) (ShowsOneOf (IsPieceOf (outside q) old part rank))
  find_shows q c f by none =
      shows_as (shown_of (outside old.platform)) (shown_of (outside q)) _ _ (λ p w. node_above old part rank (outside q) c p by w) (f.undamaged none)

  -- the tree told of it
  pub way_found : (q : P) (c : Covered) (leaf : Option Piece) → FindFacts outside crash_states old q rank (leader_of c) (Ok leaf)
      → IsByTree old part rank c → Way outside crash_states old part rank q leaf
  way_found q c leaf f by = record {
    reads = f.reads;
    tells = inr (c, by.is_there, by.unnamed, f.at);
    shows = find_shows q c f by (λ damage is. cc is);
    quiet = f.quiet (λ is. cc is);
  }

  -- between two moments of a read
  seen_first : (q : P) → OnlyReads outside crash_states old.platform q → (Q : StoreView P → StoreView P → Type 0) → Q old (over old q)
      → Between outside crash_states old (over old q) Q
  seen_first q reads Q seen = (
    old,
    over old q,
    itself outside crash_states counts numbered old old.platform (reads_nothing outside crash_states counts old.platform) old,
    goes outside crash_states counts numbered old q reads,
    itself outside crash_states counts numbered old q reads (over old q),
    seen,
  )

  seen_later : (p q : P) → OnlyReads outside crash_states old.platform p → OnlyReads outside crash_states p q
      → (Q : StoreView P → StoreView P → Type 0) → Q (over old p) (over old q) → Between outside crash_states old (over old q) Q
  seen_later p q first then Q seen = (
    over old p,
    over old q,
    goes outside crash_states counts numbered old p first,
    goes outside crash_states counts numbered (over old p) q then,
    itself outside crash_states counts numbered (over old p) q then (over old q),
    seen,
  )

  -- What was known of the way is known later.
  way_later : (p q : P) → OnlyReads outside crash_states p q → (leaf : Option Piece) → Way outside crash_states old part rank p leaf
      → TellsAs (known_texts (outside q)) old.secret rank (finmap.get old.log.overlay part) leaf
  way_later p q then leaf way =
      tells_later old part rank (outside p) (outside q) (known_later (outside p) (outside q) then.tells then.grows) leaf way.tells

  both_shown : (p q : P) (leaf : Option Piece) → Way outside crash_states old part rank p leaf → OnlyReads outside crash_states p q
      → EachShown (shown_of (outside p)) (shown_of (outside q)) (ShowsOneOf (IsPieceOf (outside q) old part rank))
      → EachShown (shown_of (outside old.platform)) (shown_of (outside q)) (ShowsOneOf (IsPieceOf (outside q) old part rank))
  both_shown p q leaf way then shown =
      let grows = known_later (outside p) (outside q) then.tells then.grows in
      each_then (shown_of (outside old.platform)) (shown_of (outside p)) (shown_of (outside q)) (ShowsOneOf (IsPieceOf (outside q) old part rank))
      way.reads.tells
      (shows_as (shown_of (outside old.platform)) (shown_of (outside p)) _ _ (λ x is. piece_later old part rank (outside p) (outside q) grows x is) way.shows)
      shown

  both_asked : (p q : P) (leaf : Option Piece) → Way outside crash_states old part rank p leaf → OnlyReads outside crash_states p q
      → EachShown (shown_of (outside p)) (shown_of (outside q)) (AsksOneOf (IsPieceOf (outside q) old part rank))
      → EachShown (shown_of (outside old.platform)) (shown_of (outside q)) (AsksOneOf (IsPieceOf (outside q) old part rank))
  both_asked p q leaf way then asked =
      let grows = known_later (outside p) (outside q) then.tells then.grows in
      each_then (shown_of (outside old.platform)) (shown_of (outside p)) (shown_of (outside q)) (AsksOneOf (IsPieceOf (outside q) old part rank))
      way.reads.tells
      (asks_as (shown_of (outside old.platform)) (shown_of (outside p)) _ _ (λ x is. piece_later old part rank (outside p) (outside q) grows x is)
      (shows_asked (shown_of (outside old.platform)) (shown_of (outside p)) _ way.shows))
      asked

  -- what was asked for of the way and the record, and what was shown where memory ran out
  pub way_asks : (q : P) (leaf : Option Piece) → Way outside crash_states old part rank q leaf
      → EachShown (shown_of (outside old.platform)) (shown_of (outside q)) (AsksOneOf (IsPieceOf (outside q) old part rank))
  way_asks q leaf way = shows_asked (shown_of (outside old.platform)) (shown_of (outside q)) (IsPieceOf (outside q) old part rank) way.shows

  module _ (p q : P) (leader : Leader) (piece : Piece) (way : Way outside crash_states old part rank p (Some piece)) where
    is_record : OnlyReads outside crash_states p q → IsRecordOf (outside q) old part rank piece
    is_record then = record_of old part rank (outside q) piece (way_later p q then (Some piece) way)

    read_whole : (result : Result (Vec ℕ) ReadError) → ReadFacts outside crash_states (over old p) q rank leader piece result
        → IsTrue (outside p).tells → ((outside q).trace ≡ (outside p).trace) ⊎ HasReadWhole piece (outside p) (outside q)
    read_whole (Ok bytes) f tells = inr (f.once tells)
    read_whole (Err e) f tells = f.at_most_once tells

    pub read_asks : (result : Result (Vec ℕ) ReadError) → ReadFacts outside crash_states (over old p) q rank leader piece result
        → EachShown (shown_of (outside old.platform)) (shown_of (outside q)) (AsksOneOf (IsPieceOf (outside q) old part rank))
    read_asks result f = both_asked p q (Some piece) way f.reads
        (asks_whole (outside p) (outside q) (IsPieceOf (outside q) old part rank) piece (inl (is_record f.reads)) (read_whole result f))

    pub read_unhidden : (result : Result (Vec ℕ) ReadError) → ReadFacts outside crash_states (over old p) q rank leader piece result
        → result ≡ Err Memory
        → EachShown (shown_of (outside old.platform)) (shown_of (outside q)) (ShowsOneOf (IsPieceOf (outside q) old part rank))
    read_unhidden result f memory = both_shown p q (Some piece) way f.reads
        (shows_whole (outside p) (outside q) (IsPieceOf (outside q) old part rank) piece (inl (is_record f.reads)) (f.memory memory))

    read_shows : (bytes : Vec ℕ) → ReadFacts outside crash_states (over old p) q rank leader piece (Ok bytes)
        → EachShown (shown_of (outside old.platform)) (shown_of (outside q)) (ShowsOneOf (IsPieceOf (outside q) old part rank))
    read_shows bytes f = both_shown p q (Some piece) way f.reads
        (shows_whole (outside p) (outside q) (IsPieceOf (outside q) old part rank) piece (inl (is_record f.reads)) (λ tells. inr (f.shown tells)))

module _ {P : Type 0} (outside : P → Outside) (crash_states : P → CrashStates)
    (counts : (p : P) (t u : ℕ) (i : List ℕ) (a : Anchor) → t ≤ u → u ≤ (outside p).clock → crash_states p u i a → crash_states p t i a)
    (numbered : (p : P) → IsTrue (outside p).tells → IsNumbered (outside p).trace) (old : StoreView P) (part : PartId) (rank : Rank)
    (leader : Leader) (ready : IsReady outside crash_states old) (running : old.stopped ≡ false)
    (led : Some leader ≡ option_map leader_of (finmap.get old.log.overlay part.0)) where
  is_covered : (s : State) → IsInState outside old s → finmap.get s part.0 ≡ None → ⊥
  is_covered s at none = there_by (needed (written_in outside old) (store_in old) (head_in old)) old.secret
      (finmap.get old.log.overlay part.0) (finmap.get at.1.chunks part.0) leader (at.2.knows.chunks part.0) led
      (ap (λ (t : State). finmap.get t part.0) at.3 ∙ none)

  tells_first : (q : P) → OnlyReads outside crash_states old.platform q → IsTrue (outside q).tells → IsTrue (outside old.platform).tells
  tells_first q reads tells = subst (λ (b : Bool). IsTrue b) reads.tells tells

  later : (q : P) → OnlyReads outside crash_states old.platform q → IsSoundStore outside (over old q) → (history : History) (last : StoreState)
      → StandsAt outside old history last → StandsAt outside (over old q) history last
  later q reads told history last at = still outside crash_states counts numbered old q reads (tells_first q reads told.tells) history last at

  -- the anchor names the store's last text all the while
  at_head : (q : P) → OnlyReads outside crash_states old.platform q → IsTrue (outside q).tells → (outside q).anchor ≡ head_in old
  at_head q reads tells =
      let told = tells_first q reads tells in
      reads.anchor told ∙ ready.at_head running told

  -- where there was no record to be read
  pub no_record : (q : P) → Way outside crash_states old part.0 rank.0 q None
      → HasRead (store_means outside crash_states) part rank old (over old q) (Err NoChunk)
  no_record q way = record {
    stays = reads_stay outside crash_states counts numbered old q way.reads;
    faults = record { rose = λ is. absurd (cc is); none = λ is. way.quiet };
    stopped = refl;
    bytes = λ told s at. tt;
    verified = λ tells. tt;
    undamaged = λ told s at. tt;
    cause = λ told s at.
        let here = later q way.reads told at.0 at.1 at.2 in
        let no = lacks_chunk (outside q).trace (commit_of (commit_key_of old.secret)) told.unforged (known_texts (outside q))
        (λ digest bytes known. (known.0, known.1 told.tells)) (IsRequired (written_in outside (over old q)) (store_in old) (head_in old)) old.secret rank.0
        (finmap.get old.log.overlay part.0) (finmap.get at.1.chunks part.0) leader (here.knows.chunks part.0) led way.tells in (
          ap (λ (t : State). is_some (finmap.get t part.0)) (sym at.3) ∙ is_some_unless (finmap.get at.1.chunks part.0) no.0,
          ap (λ (t : State). chunk_at t part.0 rank.0) (sym at.3) ∙ no.1,
        );
    first = λ is. absurd (false≢true (sym running ∙ is));
    no_partition = λ told s at goes none. absurd (is_covered s at none);
  }

  -- where the tree couldn't be gone through
  module _ (q : P) (c : Covered) (by : IsByTree old part.0 rank.0 c) where
    node_of_way : (level : ℕ) (piece : Piece) → IsAbove (outside q) (tree_told old.secret (leader_of c)) rank.0 level piece
        → IsNodeAbove (outside q) old part.0 rank.0 level c piece
    node_of_way level piece above = record { by_tree = by; inside = above.inside; on_way = above.on_way }

    stray_piece : (place : Place) (is : IsStrayAbove (outside q) old.log.segments.segments (tree_told old.secret (leader_of c)) rank.0 place)
        → IsPieceOf (outside q) old part.0 rank.0 is.piece
    stray_piece place is = elim is.on_way [
      | inl node ↦ inr (node.0, (c, node_of_way node.0 is.piece node.1))
      | inr leaf ↦ inl (inr (c, by, leaf))
    ]

    find_cause : (e : ReadError) → FindFacts outside crash_states old q rank.0 (leader_of c) (Err e)
        → ReadCause (store_means outside crash_states) part rank old (over old q) e
    find_cause Stopped f = absurd f.late
    find_cause NoPartition f = absurd f.late
    find_cause NoChunk f = absurd f.late
    find_cause (Tampered damage) f = λ told.
        let told_first = tells_first q f.reads told.tells in
        let d = f.tampered damage refl in
        let shown = d.damage_is.read told_first in
        seen_first outside crash_states counts numbered old part.0 rank.0 q f.reads (IsDamageOfChunk outside part.0 rank.0 damage) (record {
          piece = d.piece;
          of_chunk = inr (d.level, (c, node_of_way d.level d.piece d.above));
          place = d.damage_is.place;
          expected = d.damage_is.expected;
          read = shown.0;
          shown = shown.1;
          hidden = λ honest stands. d.hidden honest told_first stands;
          at_head = ready.at_head running;
        })
    find_cause (Form place) f = λ told.
        seen_first outside crash_states counts numbered old part.0 rank.0 q f.reads (IsMalformedChunk outside place) (elim (f.form place refl) [
          | inl u ↦
              let shown = u.shown (tells_first q f.reads told.tells) in
              record {
                part = part.0;
                rank = rank.0;
                piece = u.piece;
                at_place = u.at_place;
                why = inr (inl (record {
                  level = u.level;
                  partition = c;
                  above = node_of_way u.level u.piece u.above;
                  read = shown.0;
                  shown = shown.1;
                }));
              }
          | inr is ↦ record {
            part = part.0;
            rank = rank.0;
            piece = is.piece;
            at_place = is.at_place;
            why = inr (inr (record { of_chunk = stray_piece place is; strays = is.strays }));
          }
        ])
    find_cause Fault f = tt
    find_cause Memory f = tt

    pub not_found : (e : ReadError) → FindFacts outside crash_states old q rank.0 (leader_of c) (Err e)
        → HasRead (store_means outside crash_states) part rank old (over old q) (Err e)
    not_found e f = record {
      stays = reads_stay outside crash_states counts numbered old q f.reads;
      faults = record { rose = λ is. f.fault (cc is); none = λ isnt. f.quiet (λ is. isnt (cc is)) };
      stopped = refl;
      bytes = λ told s at. tt;
      verified = λ tells. tt;
      undamaged = λ told s at. tt;
      cause = find_cause e f;
      first = λ is. absurd (false≢true (sym running ∙ is));
      no_partition = λ told s at goes none. absurd (is_covered s at none);
    }

  -- where the record was read
  module _ (p q : P) (piece : Piece) (way : Way outside crash_states old part.0 rank.0 p (Some piece)) where
    abbrev Facts : Result (Vec ℕ) ReadError → Type 0
    Facts result = ReadFacts outside crash_states (over old p) q rank.0 leader piece result

    abbrev new : StoreView P
    new = over old q

    reads_all : OnlyReads outside crash_states p q → OnlyReads outside crash_states old.platform q
    reads_all then = reads_then outside crash_states counts old.platform p q way.reads then

    tells_mid : OnlyReads outside crash_states p q → IsTrue (outside q).tells → IsTrue (outside p).tells
    tells_mid then tells = subst (λ (b : Bool). IsTrue b) then.tells tells

    known : OnlyReads outside crash_states p q → IsSoundStore outside new → (history : History) (last : StoreState) → StandsAt outside new history last
        → KnownChunk (needed (written_in outside new) (store_in old) (head_in old)) old.secret leader rank.0 piece
        (chunk_at last.chunks part.0 rank.0)
    known then told history last at =
        known_chunk (outside q).trace (commit_of (commit_key_of old.secret)) told.unforged (known_texts (outside q))
        (λ digest bytes known. (known.0, known.1 told.tells)) (IsRequired (written_in outside new) (store_in old) (head_in old)) old.secret rank.0
        (finmap.get old.log.overlay part.0) (finmap.get last.chunks part.0) leader piece (at.knows.chunks part.0) led
        (way_later outside crash_states counts numbered old part.0 rank.0 p q then (Some piece) way)

    -- so the store knew it in the middle
    of_chunk : OnlyReads outside crash_states p q → IsRecordOf (outside q) (over old p) part.0 rank.0 piece
    of_chunk then = record_in old (over old p) part.0 rank.0 refl refl (outside q) piece
        (is_record outside crash_states counts numbered old part.0 rank.0 p q leader piece way then)

    pub undamaged_in : (bytes : Vec ℕ) → Facts (Ok bytes) → IsSoundStore outside new → (s : State) → IsInState outside old s → (damage : Damage)
        → Between outside crash_states old new (IsDamageOfChunk outside part.0 rank.0 damage) → ⊥
    undamaged_in bytes f told s at damage seen =
        let reads = reads_all f.reads in
        no_damage outside crash_states new part.0 rank.0 told at.0 at.1 (later q reads told at.0 at.1 at.2) old refl refl reads.tells
        (read_shows outside crash_states counts numbered old part.0 rank.0 p q leader piece way bytes f) damage seen

    cause_of : (e : ReadError) → Facts (Err e) → ReadCause (store_means outside crash_states) part rank old new e
    cause_of Stopped f = absurd f.late
    cause_of NoPartition f = absurd f.late
    cause_of NoChunk f = absurd f.late
    cause_of (Tampered damage) f = λ told.
        let d = f.tampered damage refl in
        let shown = d.read (tells_mid f.reads told.tells) in
        seen_later outside crash_states counts numbered old part.0 rank.0 p q way.reads f.reads (IsDamageOfChunk outside part.0 rank.0 damage) (record {
          piece = piece;
          of_chunk = inl (of_chunk f.reads);
          place = d.place;
          expected = d.expected;
          read = shown.0;
          shown = shown.1;
          hidden = λ honest stands. f.stands honest stands damage refl;
          at_head = at_head p way.reads;
        })
    cause_of (Form place) f = λ told.
        let m = f.misshapen place refl in
        let c = covered_one (finmap.get old.log.overlay part.0) leader led in
        let shown = shown_reads piece (outside p) (outside q) _ (m.1 (tells_mid f.reads told.tells)) in
        seen_later outside crash_states counts numbered old part.0 rank.0 p q way.reads f.reads (IsMalformedChunk outside place) (record {
          part = part.0;
          rank = rank.0;
          piece = piece;
          at_place = m.0;
          why = inl (record {
            of_chunk = of_chunk f.reads;
            partition = c.0;
            is_there = c.1;
            read = shown.0;
            shown = subst (λ (l : Leader). WasShown shown.0.more piece (λ bytes. (plain : List ℕ)
                → IsSealedRecord (partition_key old.secret l.home l.birth) (name_of l rank.0) plain bytes → ⊥)) c.2 shown.1;
          });
        })
    cause_of Fault f = tt
    cause_of Memory f = tt

    rose_all : Rose (outside p).faults (outside q).faults → Rose (outside old.platform).faults (outside q).faults
    rose_all rose = subst (λ (n : ℕ). Rose n (outside q).faults) way.quiet rose

    -- What was read of a chunk whose record was found.
    pub has_read : (result : Result (Vec ℕ) ReadError) → Facts result → HasRead (store_means outside crash_states) part rank old new result
    has_read (Ok bytes) f = record {
      stays = reads_stay outside crash_states counts numbered old q (reads_all f.reads);
      faults = record { rose = λ is. rose_all (f.fault is); none = λ isnt. f.quiet isnt ∙ way.quiet };
      stopped = refl;
      bytes = λ told s at.
          let k = known f.reads told at.0 at.1 (later q (reads_all f.reads) told at.0 at.1 at.2) in
          let tells = tells_mid f.reads told.tells in
          let found = subst (λ (ws : List WrittenPiece). in_trace ws piece k.sealed) (f.reads.written tells) k.found.0 in
          ap (λ (t : State). chunk_at t part.0 rank.0) (sym at.3) ∙ k.is_there
          ∙ ap (λ (l : List ℕ). Some l) (sym (f.bytes tells told.unforged k.sealed k.bytes found k.opened));
      verified = λ tells.
          let shown = shown_reads piece (outside p) (outside q) _ (f.shown (tells_mid f.reads tells)) in
          seen_later outside crash_states counts numbered old part.0 rank.0 p q way.reads f.reads (IsVerifiedChunk outside part.0 rank.0)
          (record { piece = piece; of_chunk = of_chunk f.reads; read = shown.0; shown = shown.1 });
      undamaged = undamaged_in bytes f;
      cause = tt;
      first = λ is. absurd (false≢true (sym running ∙ is));
      no_partition = λ told s at goes none. absurd (is_covered s at none);
    }
    has_read (Err e) f = record {
      stays = reads_stay outside crash_states counts numbered old q (reads_all f.reads);
      faults = record { rose = λ is. rose_all (f.fault is); none = λ isnt. f.quiet isnt ∙ way.quiet };
      stopped = refl;
      bytes = λ told s at. tt;
      verified = λ tells. tt;
      undamaged = λ told s at. tt;
      cause = cause_of e f;
      first = λ is. absurd (false≢true (sym running ∙ is));
      no_partition = λ told s at goes none. absurd (is_covered s at none);
    }
