-- Over a reliable platform no chunk of a store is hurt, and so no reply of its script tells damage.
use Rattle.std.proofs.Common.{◌≡◌, ◌⊎◌, ◌/◌, ◌^◌, suc, inl, inr, ⊎_elim, ℕ, ◌≤◌, Bool, List, [], ◌∷◌, ◌++◌, Option, Some, None, IsTrue, refl, sym, ◌∙◌, ap, subst}
use Rattle.std.proofs.lemmas.Option.{same_Some}
use Rattle.std.specs.FinMap as finmap
use Rattle.std.specs.List.{AllByRecursion}
use Rattle.std.specs.Option.{option_and_then, option_map}
use Rattle.tdb_base.specs.declared.names.PartId.{PartId}
use Rattle.tdb_base.specs.declared.piece.Damage.{Damage}
use Rattle.tdb_base.specs.declared.piece.Piece.{Piece}
use Rattle.tdb_base.specs.declared.piece.Place.{Place}
use Rattle.tdb_base.specs.Trace.{IsNumbered, ReadPiece, Trace, WrittenPiece}
use Rattle.sha2.specs.Sha256.{sha256}
use Rattle.tdb_mark.specs.CommitText.{commit_key_of, commit_of}
use Rattle.tdb_mark.specs.Unforged.{WasRead}
use Rattle.tdb_model.specs.Apply.{History}
use Rattle.tdb_model.specs.Lookup.{chunk_at}
use Rattle.tdb_platform.specs.CrashStates.{CrashStates}
use Rattle.tdb_platform.specs.Outside.{Anchor, Outside}
use Rattle.tdb_script.specs.declared.reply.Reply.{Reply}
use Rattle.tdb_notes.specs.NotesMachine.{Begins, IsAt, IsTold, Runs, Step}
use Rattle.tdb_notes.specs.Script.{IsHurt, ScriptState}
use Rattle.tdb_notes.specs.declared.notes.Notes.{Notes}
use Rattle.tdb_serve.specs.Answering.{Session}
use Rattle.tdb_serve.specs.Replies.{Conversation}
use Rattle.tdb_serve.specs.Running.{NextRan}
use Rattle.tdb_serve.specs.declared.script_end.ScriptEnd.{ScriptEnd}
use Rattle.tdb_serve.specs.declared.script_end.ScriptEnd.TheVariants.{Bye, End, SourceFault, SinkFault, PlatformFault, Memory}
use Rattle.tdb_stream.specs.SourceContent.{SourceContent}
use Rattle.tdb_seal.specs.SealedRecord.{IsSealedRecord}
use Rattle.tdb_map.specs.Nodes.{IsNodeRecord}
use Rattle.tdb_model.specs.State.{Partition}
use Rattle.tdb_seal.specs.declared.record.Name.{Name}
use Rattle.tdb_seg.specs.SegmentSpace.{SegmentSpace}
use Rattle.tdb_overlay.specs.Covering.{Covered, IsCoveredAt}
use Rattle.tdb_overlay.specs.Found.{Finds, Store, in_trace}
use Rattle.tdb_overlay.specs.Images.{IsReliable}
use Rattle.tdb_overlay.specs.Keys.{partition_key}
use Rattle.tdb_overlay.specs.Lookup.{leader_of, seen_in}
use Rattle.tdb_overlay.specs.Needed.{needed}
use Rattle.tdb_overlay.specs.Placement.{LiesBelow}
use Rattle.tdb_overlay.specs.Reading.{known_texts}
use Rattle.tdb_overlay.specs.Required.{IsRequired}
use Rattle.tdb_overlay.specs.Sound.{IsSound}
use Rattle.tdb_overlay.specs.StoreState.{StoreState}
use Rattle.tdb_overlay.specs.declared.overlay.Leader.{Leader}
use Rattle.tdb_overlay.specs.declared.overlay.Seen.TheVariants.{Base, Here}
use Rattle.tdb_overlay.proofs.Coverings.{covering_finer}
use Rattle.tdb_overlay.proofs.PutLogs.{in_later_trace, log_still}
use Rattle.tdb_overlay.proofs.RequiredLaws.{record_is_placed, required_space, required_still}
use Rattle.tdb_overlay.proofs.RosterCovers.{of_those}
use Rattle.tdb_overlay.proofs.RanLaws.{sound_earlier}
use Rattle.tdb_overlay.proofs.Unmistaken.{read_is_piece}
use Rattle.tdb_chunk.specs.Shown.{IsDamageOfChunk, IsMalformedChunk, IsMalformedNode, IsMalformedRecord, IsPieceOf, IsRecordOf, IsStrayPiece, WasShown, base_tree}
use Rattle.tdb_chunk.specs.Standing.{StandsAt, StoreGoes}
use Rattle.tdb_chunk.specs.StoreLaws.{goes_joined, ran_goes, store_itself}
use Rattle.tdb_chunk.specs.StoreMeans.{store_means}
use Rattle.tdb_chunk.specs.StoreView.{StoreView, head_in, store_in, written_in}
use Rattle.tdb_chunk.proofs.FoundChunks.{known_chunk, node_is, node_record, record_is}
use Rattle.tdb_chunk.proofs.Shown.{KnownChunk}
use Rattle.tdb_chunk.proofs.WayPieces.{node_of, tells_of}
use Rattle.tdb_run.specs.Undamaged.{TellsNone}
use Rattle.tdb_run.proofs.Hurting.{by_bytes}

-- bytes of one of the reads
read_among : (before earlier later : List ReadPiece) (one : ReadPiece) → WasRead (before ++ (earlier ++ one ∷ later)) one.bytes
read_among [] [] later one = inl refl
read_among [] (r ∷ earlier) later one = inr (read_among [] earlier later one)
read_among (r ∷ before) earlier later one = inr (read_among before earlier later one)

-- a partition that has a piece is told
led_by : (cover : Option Covered) (rank : ℕ) (piece : Piece)
    → Here piece ≡ seen_in (option_and_then (λ (c : Covered). finmap.get c.edits rank) cover)
    → (leader : Leader) × (Some leader ≡ option_map leader_of cover)
led_by None rank piece here = let no : Here piece ≡ Base = here in absurd (cc)
led_by (Some c) rank piece here = (leader_of c, refl)

module _ {D : Type 0} (outside : D → Outside) (crash_states : D → CrashStates)
    (counts : (p : D) (t u : ℕ) (i : List ℕ) (a : Anchor) → t ≤ u → u ≤ (outside p).clock → crash_states p u i a → crash_states p t i a)
    (numbered : (p : D) → IsTrue (outside p).tells → IsNumbered (outside p).trace)
    (as_it_reads : (p : D) → IsTrue (outside p).honest → IsTrue (outside p).tells
    → crash_states p (outside p).clock (outside p).image (outside p).anchor) where
  -- A piece on the way to a chunk, as reads up to a later moment showed it.
  module _ (s n : StoreView D) (history : History) (last : StoreState) (at : StandsAt outside s history last)
      (sound : IsSound s.secret (outside n.platform)) (goes : StoreGoes outside crash_states s n) (part rank : ℕ) where
    abbrev told : IsTrue (outside s.platform).tells
    told = subst (λ (b : Bool). IsTrue b) goes.tells sound.tells

    abbrev later : Trace
    later = (outside n.platform).trace

    abbrev Needs : Piece → Type 0
    Needs = IsRequired (written_in outside s) (store_in s) (head_in s)

    abbrev those : Finds
    those = of_those (in_trace later.written) Needs

    abbrev cover : Option Covered
    cover = finmap.get s.log.overlay part

    abbrev there : Option Partition
    there = finmap.get last.chunks part

    covered : IsCoveredAt those s.secret cover there
    covered = covering_finer (needed (written_in outside s) (store_in s) (head_in s)) those
        (λ piece bytes f. (in_later_trace (outside s.platform).trace later (goes.grows told) piece bytes f.0, f.1))
        s.secret s.log.overlay last.chunks at.knows.chunks part

    was_read : (digest bytes : List ℕ) → known_texts (outside n.platform) digest bytes → (sha256 bytes ≡ digest) × WasRead later.read bytes
    was_read digest bytes known = (known.0, known.1 sound.tells)

    -- The log needs it.
    way_needed : (piece : Piece) → IsPieceOf (outside n.platform) s part rank piece → Needs piece
    way_needed piece (inl is) = record_is later (commit_of (commit_key_of s.secret)) sound.unforged (known_texts (outside n.platform)) was_read Needs
        s.secret rank cover there piece covered (tells_of s part rank (outside n.platform) piece is)
    way_needed piece (inr (level, (p, node))) =
        node_is later (commit_of (commit_key_of s.secret)) sound.unforged (known_texts (outside n.platform)) was_read Needs
        s.secret rank cover there level piece covered (node_of s part rank (outside n.platform) level p piece node)

    -- the record of the chunk
    record_of : (leader : Leader) (piece : Piece) → Some leader ≡ option_map leader_of cover → IsRecordOf (outside n.platform) s part rank piece
        → KnownChunk those s.secret leader rank piece (chunk_at last.chunks part rank)
    record_of leader piece led is =
        known_chunk later (commit_of (commit_key_of s.secret)) sound.unforged (known_texts (outside n.platform)) was_read Needs
        s.secret rank cover there leader piece covered led (tells_of s part rank (outside n.platform) piece is)

    record_led : (piece : Piece) → IsRecordOf (outside n.platform) s part rank piece → (leader : Leader) × (Some leader ≡ option_map leader_of cover)
    record_led piece (inl here) = led_by cover rank piece (sym here)
    record_led piece (inr (p, by, is)) = (leader_of p, sym (ap (option_map leader_of) by.is_there))

    -- It lies in the segments.
    sealed_lies : (piece : Piece) (bytes key plain : List ℕ) (name : Name) → Needs piece → in_trace later.written piece bytes
        → IsSealedRecord key name plain bytes → LiesBelow s.log.segments.segments piece
    sealed_lies piece bytes key plain name needs found sealed =
        let grows = goes.grows told in
        let log = log_still (outside s.platform).trace later (store_in s) (head_in s) history last grows at.log in
        let still : IsRequired later.written (store_in s) (head_in s) piece =
        subst (λ (ws : List WrittenPiece). IsRequired ws (store_in s) (head_in s) piece) (sym grows.written)
        (required_still (written_in outside s) grows.more_written (store_in s) (head_in s) piece needs) in
        let placed = record_is_placed later.written (store_in s) (head_in s) history last log piece bytes key plain name still found sealed in
        let space = required_space later.written (store_in s) (head_in s) history last log piece still in
        subst (λ (x : SegmentSpace). LiesBelow x.segments piece) (sym at.knows.space) (placed.k, space.used placed.k placed.used, placed.lies)

    way_lies : (piece : Piece) → IsPieceOf (outside n.platform) s part rank piece → LiesBelow s.log.segments.segments piece
    way_lies piece (inl is) =
        let led = record_led piece is in
        let known = record_of led.0 piece led.1 is in
        sealed_lies piece known.sealed _ known.bytes _ known.found.1 known.found.0 known.opened
    way_lies piece (inr (level, (p, node))) =
        let n_of = node_of s part rank (outside n.platform) level p piece node in
        let own = node_record later (commit_of (commit_key_of s.secret)) sound.unforged (known_texts (outside n.platform)) was_read Needs
        s.secret rank cover there level piece covered n_of in
        sealed_lies piece own.1.0 _ own.1.2.plain _ (way_needed piece (inr (level, (p, node)))) own.1.1 own.1.2.sealed

    -- It stands in the image of a reliable platform, so an honest device shows no damage of it.
    unhurt_by_damage : IsReliable outside crash_states (store_in s) s.platform → (damage : Damage)
        → IsDamageOfChunk outside part rank damage s n → ⊥
    unhurt_by_damage reliable damage d =
        let needs : IsRequired (written_in outside s) (store_in s) (outside s.platform).anchor d.piece =
        subst (λ (a : Anchor). IsRequired (written_in outside s) (store_in s) a d.piece) (sym (d.at_head told)) (way_needed d.piece d.of_chunk) in
        d.hidden reliable.honest
        ((reliable.intact (outside s.platform).image (outside s.platform).anchor (as_it_reads s.platform reliable.honest told)).stand
        d.piece needs)

    shown_was_read : (more : List ReadPiece) → later.read ≡ (outside s.platform).trace.read ++ more → (piece : Piece) (Q : List ℕ → Type 0)
        → (shown : WasShown more piece Q) → WasRead later.read shown.one.bytes
    shown_was_read more is piece Q shown =
        subst (λ (rs : List ReadPiece). WasRead rs shown.one.bytes)
        (sym (is ∙ ap (λ (rs : List ReadPiece). (outside s.platform).trace.read ++ rs) shown.in_order))
        (read_among (outside s.platform).trace.read shown.earlier shown.later shown.one)

    -- What was shown with its digest is the record that was written, and so the record of the chunk,
    unhurt_record : (piece : Piece) → IsMalformedRecord outside part rank piece s n → ⊥
    unhurt_record piece d =
        let known = record_of (leader_of d.partition) piece (sym (ap (λ (c : Option Covered). option_map leader_of c) d.is_there)) d.of_chunk in
        let same : d.shown.one.bytes ≡ known.sealed =
        read_is_piece later (commit_of (commit_key_of s.secret)) sound.unforged d.shown.one.bytes
        (shown_was_read d.read.more d.read.read piece _ d.shown) piece known.sealed known.found.0 d.shown.digest in
        d.shown.holds known.bytes
        (subst (λ (bytes : List ℕ). IsSealedRecord (partition_key s.secret d.partition.home d.partition.birth)
        (record { kind = 1; suite = d.partition.suite; home = d.partition.home; rank = rank }) known.bytes bytes) (sym same) known.opened)

    -- or that of the node.
    unhurt_node : (piece : Piece) → IsMalformedNode outside part rank piece s n → ⊥
    unhurt_node piece d =
        let own = node_record later (commit_of (commit_key_of s.secret)) sound.unforged (known_texts (outside n.platform)) was_read Needs
        s.secret rank cover there d.level piece covered
        (d.partition, d.above.by_tree.is_there, d.above.by_tree.unnamed, d.above.inside, d.above.on_way) in
        let same : d.shown.one.bytes ≡ own.1.0 =
        read_is_piece later (commit_of (commit_key_of s.secret)) sound.unforged d.shown.one.bytes
        (shown_was_read d.read.more d.read.read piece _ d.shown) piece own.1.0 own.1.1 d.shown.digest in
        d.shown.holds own.0
        (subst (λ (bytes : List ℕ). IsNodeRecord (base_tree s d.partition) d.level (rank / 64 ^ suc d.level) own.0 bytes) (sym same) own.1.2)

  unhurt_by_form : (s n : StoreView D) (history : History) (last : StoreState) → StandsAt outside s history last
      → IsSound s.secret (outside n.platform) → StoreGoes outside crash_states s n → (place : Place)
      → IsMalformedChunk outside place s n → ⊥
  unhurt_by_form s n history last at sound goes place d = by d.why
    where
      by : IsMalformedRecord outside d.part d.rank d.piece s n ⊎ IsMalformedNode outside d.part d.rank d.piece s n
          ⊎ IsStrayPiece outside d.part d.rank d.piece s n → ⊥
      by (inl malformed) = unhurt_record s n history last at sound goes d.part d.rank d.piece malformed
      by (inr (inl malformed)) = unhurt_node s n history last at sound goes d.part d.rank d.piece malformed
      by (inr (inr stray)) = stray.strays (way_lies s n history last at sound goes d.part d.rank d.piece stray.of_chunk)

  -- the same where the store stood earlier, and its trace is sound later
  module _ (old new : StoreView D) (sound : IsSound old.secret (outside new.platform)) (history : History) (last : StoreState)
      (at : StandsAt outside old history last) (reliable : IsReliable outside crash_states (store_in old) old.platform) where
    secret_in : (s : StoreView D) → StoreGoes outside crash_states old s → s.secret ≡ old.secret
    secret_in s goes = ap (λ (x : Store). x.secret) goes.same

    sound_at : (s : StoreView D) → StoreGoes outside crash_states s new → IsSound old.secret (outside s.platform)
    sound_at s goes = sound_earlier outside crash_states counts numbered (store_in old) s.platform new.platform goes.tells goes.grows sound

    pub unhurt : (part : PartId) (id : ℕ) → IsHurt (store_means outside crash_states) old new part id → ⊥
    unhurt part id (inl hurt) =
        let seen = hurt.1 in
        let m = seen.0 in
        let n = seen.1 in
        let then = goes_joined outside crash_states counts numbered m n new seen.3 seen.4 in
        let there = seen.2.stands (sound_at m then) history last at in
        let still : IsReliable outside crash_states (store_in m) m.platform =
        subst (λ (x : Store). IsReliable outside crash_states x m.platform) (sym seen.2.same)
        (seen.2.reliable (sound_at m then) history last at reliable) in
        unhurt_by_damage m n (history ++ there.0) there.1 there.2
        (subst (λ (k : List ℕ). IsSound k (outside n.platform)) (sym (secret_in m seen.2)) (sound_at n seen.4)) seen.3 part.0 id still
        hurt.0 seen.5
    unhurt part id (inr hurt) =
        let seen = hurt.1 in
        let m = seen.0 in
        let n = seen.1 in
        let then = goes_joined outside crash_states counts numbered m n new seen.3 seen.4 in
        let there = seen.2.stands (sound_at m then) history last at in
        unhurt_by_form m n (history ++ there.0) there.1 there.2
        (subst (λ (k : List ℕ). IsSound k (outside n.platform)) (sym (secret_in m seen.2)) (sound_at n seen.4)) seen.3 hurt.0 seen.5

  abbrev Lines : Notes (StoreView D) → ScriptState → List (List ℕ) → List Reply → History → Notes (StoreView D) → ScriptState → Type 0
  Lines begun first lines replies added now last =
      Session (Step (store_means outside crash_states)) (Runs (store_means outside crash_states)) begun first lines replies added now last

  -- what a session leaves of its store
  pub session_goes : (begun : Notes (StoreView D)) (first : ScriptState) (lines : List (List ℕ)) (replies : List Reply) (added : History)
      (now : Notes (StoreView D)) (last : ScriptState) → Lines begun first lines replies added now last
      → StoreGoes outside crash_states begun.store now.store
  session_goes begun first [] [] added now last is =
      subst (λ (n : Notes (StoreView D)). StoreGoes outside crash_states begun.store n.store) (sym is.0)
      (ran_goes outside crash_states counts numbered begun.store begun.store [] []
      (store_itself outside crash_states counts numbered begun.store))
  session_goes begun first (line ∷ lines) (reply ∷ replies) added now last is =
      goes_joined outside crash_states counts numbered begun.store is.0.store now.store
      (ran_goes outside crash_states counts numbered begun.store is.0.store is.2 [] is.5)
      (session_goes is.0 is.1 lines replies is.3 now last is.6)
  session_goes begun first [] (reply ∷ replies) added now last is = absurd is
  session_goes begun first (line ∷ lines) [] added now last is = absurd is

  -- none of its replies tells damage
  pub session_unhurt : (begun : Notes (StoreView D)) (first : ScriptState) (lines : List (List ℕ)) (replies : List Reply) (added : History)
      (now : Notes (StoreView D)) (last : ScriptState) → Lines begun first lines replies added now last
      → IsSound begun.store.secret (outside now.store.platform) → (history : History) (end : StoreState)
      → StandsAt outside begun.store history end → IsReliable outside crash_states (store_in begun.store) begun.store.platform
      → AllByRecursion TellsNone replies
  session_unhurt begun first [] [] added now last is sound history end at reliable = tt
  session_unhurt begun first (line ∷ lines) (reply ∷ replies) added now last is sound history end at reliable =
      let then = ran_goes outside crash_states counts numbered begun.store is.0.store is.2 [] is.5 in
      let rest = session_goes is.0 is.1 lines replies is.3 now last is.6 in
      let mid : IsSound begun.store.secret (outside is.0.store.platform) =
      sound_earlier outside crash_states counts numbered (store_in begun.store) is.0.store.platform now.store.platform rest.tells rest.grows
      sound in
      let there = then.stands mid history end at in
      let secret : is.0.store.secret ≡ begun.store.secret = ap (λ (x : Store). x.secret) then.same in (
        λ part rank told.
            let hurt = by_bytes (store_means outside crash_states) begun.store is.0.store first line _ is.4 part rank told in
            unhurt begun.store is.0.store mid history end at reliable hurt.0 hurt.1.0 hurt.1.1,
        session_unhurt is.0 is.1 lines replies is.3 now last is.6
            (subst (λ (k : List ℕ). IsSound k (outside now.store.platform)) (sym secret) sound) (history ++ there.0) there.1 there.2
            (subst (λ (x : Store). IsReliable outside crash_states x is.0.store.platform) (sym then.same)
            (then.reliable mid history end at reliable)),
      )
  session_unhurt begun first [] (reply ∷ replies) added now last is sound history end at reliable = absurd is
  session_unhurt begun first (line ∷ lines) [] added now last is sound history end at reliable = absurd is

  -- what ran behind the last reply that was put
  module _ {came gone : SourceContent} (c : Conversation came gone) (mid new : Notes (StoreView D)) (last : ScriptState)
      (own maybe : History) where
    abbrev Next : ScriptEnd → Type 0
    Next end = NextRan (IsTold (store_means outside crash_states)) (IsAt (store_means outside crash_states))
        (Step (store_means outside crash_states)) (Begins (store_means outside crash_states)) (Runs (store_means outside crash_states))
        c mid new last own maybe end

    nothing_goes : Next End → StoreGoes outside crash_states mid.store new.store
    nothing_goes is = subst (λ (n : Notes (StoreView D)). StoreGoes outside crash_states mid.store n.store) (sym is.0)
        (ran_goes outside crash_states counts numbered mid.store mid.store [] []
        (store_itself outside crash_states counts numbered mid.store))

    own_goes : Next SinkFault → StoreGoes outside crash_states mid.store new.store
    own_goes is = ran_goes outside crash_states counts numbered mid.store new.store own [] is.1

    maybe_goes : Next PlatformFault → StoreGoes outside crash_states mid.store new.store
    maybe_goes is = ran_goes outside crash_states counts numbered mid.store new.store [] maybe is.1

    pub next_goes : (end : ScriptEnd) → Next end → StoreGoes outside crash_states mid.store new.store
    next_goes Bye is = nothing_goes is
    next_goes End is = nothing_goes is
    next_goes SourceFault is = nothing_goes is
    next_goes SinkFault is = own_goes is
    next_goes PlatformFault is = maybe_goes is
    next_goes Memory is = ⊎_elim nothing_goes (λ some. ⊎_elim maybe_goes own_goes some) is

    -- The reply to the next line, which wasn't put whole, tells no damage either.
    pub cut_unhurt : Next SinkFault → IsSound mid.store.secret (outside new.store.platform) → (history : History) (end : StoreState)
        → StandsAt outside mid.store history end → IsReliable outside crash_states (store_in mid.store) mid.store.platform
        → (reply : Reply) → c.next ≡ Some reply → TellsNone reply
    cut_unhurt is sound history end at reliable reply next part rank told =
        let same : is.2.0 ≡ reply = same_Some is.2.0 reply (sym is.2.1 ∙ next) in
        let step = is.2.2.holds.1 in
        let hurt = by_bytes (store_means outside crash_states) mid.store new.store last is.2.2.line _ step part rank (same ∙ told) in
        unhurt mid.store new.store sound history end at reliable hurt.0 hurt.1.0 hurt.1.1
