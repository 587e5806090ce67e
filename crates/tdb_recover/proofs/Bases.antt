-- The checkpoint that a log is read from.
use Rattle.std.proofs.Common.{◌≡◌, ◌⊎◌, inl, inr, ⊎_elim, ℕ, ◌+◌, ◌<◌, Bool, true, false, cond, nat_lt, List, [], ◌∷◌, length, Option, Some, None, IsTrue, refl, sym, ◌∙◌, ap, subst, arith}
use Rattle.std.specs.FinMap.{get}
use Rattle.tdb_base.specs.declared.piece.Piece.{Piece}
use Rattle.tdb_base.specs.Trace.{Extends, IsNumbered, Trace, WrittenPiece}
use Rattle.tdb_mark.specs.declared.commit.Commit.{Commit}
use Rattle.tdb_mark.specs.CommitChain.{commit_chain}
use Rattle.tdb_mark.specs.CommitFormat.{IsInFormat}
use Rattle.tdb_mark.specs.CommitText.{commit_key_of, commit_of}
use Rattle.tdb_model.specs.declared.change.Change.{Change}
use Rattle.tdb_model.specs.declared.error.CommitError.{CommitError}
use Rattle.tdb_model.specs.declared.error.CommitError.TheVariants.{TooManyChanges}
use Rattle.tdb_model.specs.Apply.{History}
use Rattle.tdb_model.specs.Check.{check}
use Rattle.tdb_model.specs.InRange.{IsInRange}
use Rattle.tdb_model.specs.Limits.{change_limit}
use Rattle.tdb_model.specs.State.{Partition, State}
use Rattle.tdb_model.proofs.RangeLemmas.{apply_all_in_range, empty_in_range}
use Rattle.tdb_node.specs.declared.table.Table.{Table}
use Rattle.tdb_node.specs.SegmentTable.{table_bytes}
use Rattle.tdb_platform.specs.Outside.{Outside}
use Rattle.tdb_platform.specs.CrashStates.{CrashStates}
use Rattle.tdb_seal.specs.SealedRecord.{IsSealedRecord}
use Rattle.tdb_seg.specs.SegmentSpace.{IsSegmentSpace}
use Rattle.tdb_seg.specs.TableSpace.{table_space}
use Rattle.tdb_overlay.specs.BaseTree.{TellsRoster}
use Rattle.tdb_overlay.specs.CheckpointState.{IsNarrow, IsOfRoster, IsReached, IsTreeState}
use Rattle.tdb_overlay.specs.Covering.{IsCovering}
use Rattle.tdb_overlay.specs.Found.{Finds, Store, in_trace, store_of_text}
use Rattle.tdb_overlay.specs.Keys.{system_key}
use Rattle.tdb_overlay.specs.Log.{IsCheckpointOn, IsCommitOn, IsLogOf, IsStep, end_of}
use Rattle.tdb_overlay.specs.Needed.{needed}
use Rattle.tdb_overlay.specs.Placement.{LiesBelow}
use Rattle.tdb_overlay.specs.Reading.{OnlyReads}
use Rattle.tdb_overlay.specs.Recovered.{IsRecovered}
use Rattle.tdb_overlay.specs.Required.{IsOpeningPiece, IsRequired}
use Rattle.tdb_overlay.specs.StoreState.{StoreState, first_state}
use Rattle.tdb_overlay.specs.declared.recovered.Recovered.{Recovered}
use Rattle.tdb_overlay.proofs.BaseTrees.{roster_told_at, roster_told_roots, roster_told_those}
use Rattle.tdb_overlay.proofs.Chains.{chain_in_format}
use Rattle.tdb_overlay.proofs.LogLaws.{allows, trace_finds_one}
use Rattle.tdb_overlay.proofs.PlacedLogs.{table_placed}
use Rattle.tdb_overlay.proofs.RosterCovers.{roster_covers}
use Rattle.tdb_recover.specs.Chain.{EndsWith, IsGiven, WholeLog}
use Rattle.tdb_recover.specs.Records.{IsTableIn}
use Rattle.tdb_recover.specs.Replay.{IsReplayOf, IsRest}
use Rattle.tdb_recover.specs.Roster.{IsRosterIn}
use Rattle.tdb_recover.proofs.Composing.{given_before, tells_then, written_back, written_then}
use Rattle.tdb_recover.proofs.Ends.{is_opening, newest, newest_counts}
use Rattle.tdb_recover.proofs.Steps.{counts_of, split}

-- Each text of a log leaves the state in range.
module _ (finds : Finds) (store : Store) where
  checked : (many : Bool) (refusal : CommitError) (rest : Option CommitError) → cond many (Some refusal) rest ≡ None → rest ≡ None
  checked true refusal rest is = absurd (cc is)
  checked false refusal rest is = is

  step_in_range : (before : StoreState) (c : Commit) (added : History) (after : StoreState) → IsInRange before.chunks
      → IsStep finds store before c added after → IsInRange after.chunks
  step_in_range before c added after is step = by_kind step.adds
    where
      by_kind : ((IsCheckpointOn finds store before c after × (added ≡ [])) ⊎ ((changes : List Change) × IsCommitOn finds store before c changes after × (added ≡ (c.count, changes) ∷ []))) → IsInRange after.chunks
      by_kind (inl checkpoint) = subst IsInRange (sym (ap (λ (s : StoreState). s.chunks) checkpoint.0.after_is)) is
      by_kind (inr commit) =
          let changes = commit.0 in
          let allowed = allows store before changes after commit.1.allowed in
          let passes = checked (nat_lt change_limit (length changes)) (TooManyChanges (length changes)) (check before.chunks changes) allowed.passes in
          subst IsInRange (sym (ap (λ (s : StoreState). s.chunks) allowed.after_is))
          (apply_all_in_range (before.count + 1) [] before.chunks changes (omega arith) is passes)

  log_in_range : (before : StoreState) (chain : List Commit) (history : History) (last : StoreState) → IsInRange before.chunks
      → IsLogOf finds store before chain history last → IsInRange last.chunks
  log_in_range before [] history last is tells = subst (λ (s : StoreState). IsInRange s.chunks) (sym tells.1) is
  log_in_range before (c ∷ chain) history last is tells =
      log_in_range tells.1 chain tells.2 last (step_in_range before c tells.0 tells.1 is tells.3) tells.4

-- the step of the checkpoint, and the log behind it
pub record BaseStep (written : List WrittenPiece) (log : WholeLog) (base : Commit) (later : List Commit) : Type 0 where
  pub before : StoreState
  pub after : StoreState
  pub history : History
  pub in_range : IsInRange before.chunks
  pub suite : base.suite ≡ log.store.suite
  pub checkpoint : IsCheckpointOn (in_trace written) log.store before base after
  pub tells : IsLogOf (in_trace written) log.store after later history log.last

-- no partition has the number 0
none_first : (state : State) → IsInRange state → (found : Option Partition) → get state 0 ≡ found → get state 0 ≡ None
none_first state is None there = there
none_first state is (Some p) there = absurd (omega (arith, (is 0 p there).some))

no_commit : (c : Commit) → IsInFormat c → c.base ≡ c.count → c.kind ≡ 1 → ⊥
no_commit c format own kind = ⊎_elim (λ commit. omega (arith, commit.1, own)) (λ checkpoint. omega (arith, checkpoint.0, kind)) format.kind

module _ (written : List WrittenPiece) (trace : Trace) (secret : List ℕ) (log : WholeLog) (given : IsGiven written trace secret log)
    (base : Commit) (later : List Commit) (format : IsInFormat base) (own : base.base ≡ base.count) (ends : EndsWith written secret log.chain base later) where
  base_by : (before : StoreState) (added : History) (after : StoreState) (history : History) → IsInRange before.chunks → IsStep (in_trace written) log.store before base added after → IsLogOf (in_trace written) log.store after later history log.last → BaseStep written log base later
  base_by before added after history in_range step tells = by_kind step.adds
    where
      by_kind : ((IsCheckpointOn (in_trace written) log.store before base after × (added ≡ [])) ⊎ ((changes : List Change) × IsCommitOn (in_trace written) log.store before base changes after × (added ≡ (base.count, changes) ∷ []))) → BaseStep written log base later
      by_kind (inl checkpoint) = record { before = before; after = after; history = history; in_range = in_range; suite = step.suite; checkpoint = checkpoint.0; tells = tells }
      by_kind (inr commit) = absurd (no_commit base format own commit.1.kind)

  pub base_step : BaseStep written log base later
  base_step =
      let parts = split (in_trace written) log.store first_state ends.front (base ∷ later) log.history log.last
      (subst (λ (l : List Commit). IsLogOf (in_trace written) log.store first_state l log.history log.last) ends.parts given.tells) in
      base_by parts.mid parts.second.0 parts.second.1 parts.second.2
      (log_in_range (in_trace written) log.store first_state ends.front parts.earlier parts.mid empty_in_range parts.first)
      parts.second.3 parts.second.4

  -- its table is there
  pub table_in : (step : BaseStep written log base later) → (table : IsTableIn written trace secret base) × (table.table.table ≡ step.checkpoint.table.table)
  table_in step =
      let h = step.checkpoint.table in (
        record {
          unforged = given.unforged;
          table = record {
            sealed = h.sealed;
            table = h.table;
            found = h.found;
            opened = subst (λ (s : List ℕ). IsSealedRecord (system_key s) (record { kind = 4; suite = base.suite; home = 0; rank = 0 }) (table_bytes h.table) h.sealed) given.keys h.opened;
            is_table = h.is_table;
            value = h.value;
            segments = h.segments;
            used = h.used;
          };
        },
        refl,
      )

  -- and opening reads it
  pub table_opening : (piece : Piece) → piece ≡ base.first → IsOpeningPiece written log.store log.anchor piece
  table_opening piece same = is_opening written trace secret log given base ends.front later piece ends.parts (omega (arith, ends.base, own)) (inr same)

  -- a text says its store
  same_store : (step : BaseStep written log base later) → log.store ≡ store_of_text secret base
  same_store step = λ i. record { secret = given.keys i; suite = sym step.suite i }

  own_store : (step : BaseStep written log base later) → log.store ≡ store_of_text log.store.secret base
  own_store step = λ i. record { secret = log.store.secret; suite = sym step.suite i }

  -- its table tells as many segments as it says
  many_segments : (step : BaseStep written log base later) → step.after.space.segments ≡ base.segments
  many_segments step = ap (λ (s : StoreState). s.space.segments) step.checkpoint.after_is ∙ step.checkpoint.table.segments

  -- what its root reaches lies in them
  reached_lies : (step : BaseStep written log base later) (piece : Piece) → IsReached (in_trace written) log.store base.root piece
      → LiesBelow base.segments piece
  reached_lies step piece reached =
      let placed = step.checkpoint.placed piece (inr reached) in
      let table = table_placed (in_trace written) log.store.secret base format step.checkpoint.table in
      let space : step.after.space ≡ table_space step.checkpoint.table.table (end_of base.first) = ap (λ (s : StoreState). s.space) step.checkpoint.after_is in
      let valid : IsSegmentSpace step.after.space = subst IsSegmentSpace (sym space) table.0 in
      (placed.k, subst (λ (n : ℕ). placed.k < n) (many_segments step) (valid.used placed.k placed.used), placed.lies)

  -- its roster and leaders are there
  pub roster_in : (step : BaseStep written log base later) → IsRosterIn written trace secret base step.before.chunks
  roster_in step =
      let finds = in_trace written in
      let same = same_store step in
      record {
        unforged = given.unforged;
        tree = subst (λ (s : Store). IsTreeState finds s base.root step.before.chunks) same step.checkpoint.tree;
        narrow = subst (λ (s : Store). IsNarrow finds s base.root) same step.checkpoint.narrow;
        numbered = none_first step.before.chunks step.in_range (get step.before.chunks 0) refl;
        lies = λ piece reached. reached_lies step piece (subst (λ (s : Store). IsReached finds s base.root piece) (sym same) reached);
      }

  -- the log needs what its root reaches
  reached_needed : (step : BaseStep written log base later) (piece : Piece) → IsReached (in_trace written) log.store base.root piece
      → IsRequired written log.store log.anchor piece
  reached_needed step piece reached = record {
    chain = log.chain;
    ends = subst (λ (s : List ℕ). commit_chain written (commit_of (commit_key_of s)) log.anchor.0 log.anchor.1 ≡ Some log.chain) (sym given.keys) given.ends;
    text = base;
    earlier = ends.front;
    later = later;
    in_chain = ends.parts;
    since_base = omega (arith, ends.base, own);
    rests = inr (inr (inr (subst (λ (s : Store). IsReached (in_trace written) s base.root piece) (own_store step) reached)));
  }

  -- and opening reads the roster and its leaders
  pub roster_opening : (step : BaseStep written log base later) (piece : Piece) → IsOfRoster (in_trace written) (store_of_text secret base) base.root piece
      → IsOpeningPiece written log.store log.anchor piece
  unfolding reached_needed
  roster_opening step piece is =
      let in_store = subst (λ (s : Store). IsOfRoster (in_trace written) s base.root piece) (sym (same_store step)) is in
      record {
        required = reached_needed step piece (inl in_store);
        of_text = inr (inr (subst (λ (s : Store). IsOfRoster (in_trace written) s base.root piece) (own_store step) in_store));
      }

  -- what is kept before the first list is read
  pub starts : (step : BaseStep written log base later) (r : Recovered) → r.segments ≡ table_space step.checkpoint.table.table (end_of base.first)
      → r.tree.root ≡ base.root → r.tree.leaders ≡ r.overlay
      → TellsRoster (in_trace written) (store_of_text secret base) base.root r.overlay → IsRest written log later r
  starts step r segments top leaders told =
      let finds = in_trace written in
      let needs = needed written log.store log.anchor in
      let root : step.after.root ≡ base.root = ap (λ (s : StoreState). s.root) step.checkpoint.after_is in
      let tells : TellsRoster finds log.store base.root r.overlay =
      subst (λ (s : Store). TellsRoster finds s base.root r.overlay) (sym (same_store step)) told in
      let by_needed : TellsRoster needs log.store step.after.root r.overlay =
      roster_told_at needs log.store base.root step.after.root r.overlay (sym root)
      (roster_told_those finds (IsRequired written log.store log.anchor) log.store base.root
      (λ piece is. reached_needed step piece (inl is)) r.overlay tells) in
      let after : step.after.space ≡ table_space step.checkpoint.table.table (end_of base.first) = ap (λ (s : StoreState). s.space) step.checkpoint.after_is in
      let chunks : step.after.chunks ≡ step.before.chunks = ap (λ (s : StoreState). s.chunks) step.checkpoint.after_is in
      record {
        state = step.after;
        history = step.history;
        tells = step.tells;
        kept = record {
          space = segments ∙ sym after;
          chunks =
              subst (λ (s : State). IsCovering (needed written log.store log.anchor) log.store.secret r.overlay s) (sym chunks)
              (roster_covers finds (trace_finds_one written) log.store base.root step.before.chunks step.checkpoint.tree
              (IsRequired written log.store log.anchor) (reached_needed step) r.overlay tells);
          root = top ∙ sym root;
          leaders = subst (TellsRoster needs log.store step.after.root) (sym leaders) by_needed;
          roots = roster_told_roots needs log.store step.after.root r.overlay by_needed;
        };
      }

  -- what is kept after the last one
  pub is_recovered : (count : ℕ) (mark : List ℕ) (r : Recovered) → 0 < count → log.anchor ≡ (count, mark) → r.head.count ≡ count → r.head.base ≡ base.count → r.suite ≡ base.suite
      → IsReplayOf (needed written log.store log.anchor) log.store r log.last
      → IsRecovered (needed written log.store log.anchor) log.store r log.last
  is_recovered count mark r some at counted based suited kept =
      let last = newest written trace secret log given count mark at some in
      let counts = newest_counts written trace secret log given count mark some last in
      let all = counts_of (in_trace written) log.store last.front last.commit log.chain log.history log.last last.parts
      (chain_in_format written (commit_key_of secret) log.anchor.0 log.anchor.1 log.chain given.ends) given.tells in
      record {
        suite = suited ∙ base_step.suite;
        count = counted ∙ sym counts.2;
        base = based ∙ sym own ∙ sym ends.base ∙ all.base;
        space = kept.space;
        chunks = kept.chunks;
        root = kept.root;
        leaders = kept.leaders;
        roots = kept.roots;
      }

-- The chain was read, then the table of its checkpoint, and then its roster. What is kept then is where the lists begin.
module _ {D : Type 0} (outside : D → Outside) (states : D → CrashStates) (numbered : (p : D) → IsTrue (outside p).tells → IsNumbered (outside p).trace)
    (old mid then led : D) (first : OnlyReads outside states old mid) (second : OnlyReads outside states mid then)
    (third : OnlyReads outside states then led) (both : OnlyReads outside states old then) (all : OnlyReads outside states old led)
    (t : IsTrue (outside old).tells) (trace : Trace) (grows : Extends (outside led).trace trace) (secret : List ℕ) (log : WholeLog)
    (given : IsGiven (outside old).trace.written trace secret log) where
  pub given_at_roster : IsGiven (outside old).trace.written (outside led).trace secret log
  given_at_roster =
      given_before (outside old).trace.written (outside led).trace trace secret log (numbered led (tells_then outside states old led all t)) grows given

  pub given_at_table : IsGiven (outside old).trace.written (outside then).trace secret log
  given_at_table =
      let told = tells_then outside states old then both t in
      given_before (outside old).trace.written (outside then).trace (outside led).trace secret log (numbered then told) (third.grows told) given_at_roster

  pub given_at_chain : IsGiven (outside old).trace.written (outside mid).trace secret log
  given_at_chain =
      let told = tells_then outside states old mid first t in
      given_before (outside old).trace.written (outside mid).trace (outside then).trace secret log (numbered mid told) (second.grows told) given_at_table

  module _ (base : Commit) (later : List Commit) (format : IsInFormat base) (own : base.base ≡ base.count)
      (ends : EndsWith (outside old).trace.written secret log.chain base later) where
    abbrev written : List WrittenPiece
    written = (outside old).trace.written

    pub step_here : BaseStep written log base later
    step_here = base_step written (outside led).trace secret log given_at_roster base later format own ends

    -- the roster, as it was read behind the table
    pub roster_here : IsRosterIn (outside then).trace.written (outside led).trace secret base step_here.before.chunks
    roster_here = written_then outside states old then both t (λ ws. IsRosterIn ws (outside led).trace secret base step_here.before.chunks)
        (roster_in written (outside led).trace secret log given_at_roster base later format own ends step_here)

    pub roster_opens : (piece : Piece) → IsOfRoster (in_trace (outside then).trace.written) (store_of_text secret base) base.root piece
        → IsOpeningPiece written log.store log.anchor piece
    roster_opens piece is = roster_opening written (outside led).trace secret log given_at_roster base later format own ends step_here piece
        (written_back outside states old then both t (λ ws. IsOfRoster (in_trace ws) (store_of_text secret base) base.root piece) is)

    pub rest_begins : (r : Recovered)
        → ((table : IsTableIn (outside mid).trace.written (outside then).trace secret base) → r.segments ≡ table_space table.table.table (end_of base.first))
        → r.tree.root ≡ base.root → r.tree.leaders ≡ r.overlay
        → ((state : State) → IsRosterIn (outside then).trace.written (outside led).trace secret base state
        → TellsRoster (in_trace (outside then).trace.written) (store_of_text secret base) base.root r.overlay)
        → IsRest (outside led).trace.written log later r
    rest_begins r segments top leaders told =
        let table = table_in written (outside then).trace secret log given_at_table base later format own ends step_here in
        let here = written_then outside states old mid first t
        (λ ws. (x : IsTableIn ws (outside then).trace secret base) × (x.table.table ≡ step_here.checkpoint.table.table)) table in
        written_then outside states old led all t (λ ws. IsRest ws log later r)
        (starts written (outside led).trace secret log given_at_roster base later format own ends step_here r
        (segments here.0 ∙ ap (λ (x : Table). table_space x (end_of base.first)) here.1) top leaders
        (written_back outside states old then both t (λ ws. TellsRoster (in_trace ws) (store_of_text secret base) base.root r.overlay)
        (told step_here.before.chunks roster_here)))
