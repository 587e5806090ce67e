-- The start of a log: where its table is placed, and what its text adds.
use Rattle.std.proofs.Common.{◌≡◌, ℕ, zero, suc, ◌+◌, ◌-◌, ◌/◌, ◌≤◌, Bool, true, not, List, [], ◌∷◌, length, Option, None, Some, Ok, ◌⊎◌, Result, IsTrue, ◌++◌, replicate, inl, inr, ⊎_elim, refl, sym, ap, subst, ◌∙◌, arith}
use Rattle.std.proofs.lemmas.Bool.{false≢true, cond-true, eqb-true, eq-eqb, or_left}
use Rattle.std.proofs.lemmas.Option.{same_Some}
use Rattle.std.specs.List.{filter, range_with_len}
use Rattle.std.specs.Cmp.{nat_cmp_total, unsigned_tied}
use Rattle.std.specs.Ordering.{nat_cmp, eq_by_cmp}
use Rattle.std.specs.FinSet.{FinSet, contains, contains-empty, contains-insert, empty, insert}
use Rattle.std.specs.Prelude.{All, OnOk}
use Rattle.sha2.specs.Sha256.{sha256}
use Rattle.tdb_append.specs.Placed.{Placed}
use Rattle.tdb_append.specs.declared.head.Head.{Head}
use Rattle.tdb_base.specs.declared.piece.Piece.{Piece}
use Rattle.tdb_base.specs.declared.piece.Place.{Place}
use Rattle.tdb_base.specs.declared.piece.NoRoom.{NoRoom}
use Rattle.tdb_mark.specs.declared.commit.Commit.{Commit}
use Rattle.tdb_mark.specs.CommitChain.{commit_chain}
use Rattle.tdb_mark.specs.CommitText.{commit_key_of, commit_of}
use Rattle.tdb_model.specs.Apply.{History}
use Rattle.std.specs.FinMap.{get-empty}
use Rattle.tdb_model.specs.State.{Partition, State, no_partitions}
use Rattle.tdb_node.specs.declared.table.Table.{Table}
use Rattle.tdb_node.specs.SegmentTable.{IsTable, IsTableValue, IsUsed, table_bytes}
use Rattle.tdb_append.specs.Put.{Puts}
use Rattle.tdb_platform.specs.Outside.{Anchor, Outside}
use Rattle.tdb_platform.specs.CrashStates.{CrashStates, now}
use Rattle.tdb_overlay.specs.Growth.{IsSettled}
use Rattle.tdb_seal.specs.SealedRecord.{IsSealedRecord}
use Rattle.tdb_seg.specs.SegmentSpace.{SegmentSpace, IsSegmentSpace, at_free_segment, free_segments, fresh_space, missing_below, place_in, with_bytes}
use Rattle.tdb_seg.specs.TableSpace.{table_space, used_in}
use Rattle.tdb_seg.specs.InsideLaws.{contains-used_in}
use Rattle.tdb_seg.proofs.Placing.{at_free-some, next-past, place-placed}
use Rattle.tdb_overlay.specs.Found.{Finds, Store}
use Rattle.tdb_overlay.specs.Keys.{system_key}
use Rattle.tdb_overlay.specs.Log.{IsCheckpointOn, IsLog, IsLogOf, IsStep, end_of}
use Rattle.tdb_overlay.specs.Found.{in_trace}
use Rattle.tdb_overlay.specs.StoreState.{StoreState, first_place, first_state, formatted_state, record_length}
use Rattle.tdb_chunk.specs.Committing.{AddedFrom}
use Rattle.tdb_chunk.specs.Formatting.{Formatted, IsStart}
use Rattle.tdb_overlay.specs.CheckpointState.{IsNarrow, IsPartitionOf, IsReached, IsTreeState}
use Rattle.tdb_overlay.specs.Trees.{map_height, nodes_in, roster}
use Rattle.tdb_map.proofs.TreeLemmas.{none_at}
use Rattle.tdb_overlay.proofs.CheckpointLaws.{none_narrow, none_reached}
use Rattle.tdb_overlay.proofs.PlacedLogs.{IsIn, table_placed}
use Rattle.tdb_overlay.specs.LaidOut.{IsFreshIn, IsOneOf, LaidOut, in_pieces}
use Rattle.tdb_overlay.specs.Names.{table_name}
use Rattle.tdb_overlay.specs.Text.{anchor_of, next_commit, text_in_slot, text_of}
use Rattle.tdb_chunk.proofs.Growing.{Counts, Steps, put_added}
use Rattle.tdb_overlay.proofs.Sealing.{record_fits}

first_is_free : (n : ℕ) → 16 ≤ n → at_free_segment (free_segments (fresh_space n)) 0 ≡ Some first_place
unfolding missing_below
first_is_free zero least = absurd (omega (arith, least))
first_is_free (suc m) least =
    let p : ℕ → Bool = λ k. not (contains (empty {R = nat_cmp}) k) in
    let here : p 0 ≡ true = ap not (contains-empty nat_cmp 0) in
    ap (λ (ks : List ℕ). at_free_segment ks 0) (cond-true (p 0) (0 ∷ filter p (range_with_len 1 m)) (filter p (range_with_len 1 m)) here)
    ∙ at_free-some 0 (filter p (range_with_len 1 m)) 0 (omega arith)

-- the first piece of a fresh device goes to the start of the first segment
pub first_placed : (n m : ℕ) → 16 ≤ n → 1 ≤ m → place_in (fresh_space n) m 0 ≡ Ok (first_place, with_bytes (fresh_space n) first_place m)
first_placed n m least some = place-placed (fresh_space n) m 0 first_place (next-past (fresh_space n) m 0 (omega (arith, some)) ∙ first_is_free n least)

first_used : (table : Table) → IsTableValue table → used_in table ≡ insert empty 0 → IsUsed table 0
first_used table value used =
    let there : contains (used_in table) 0 ≡ true =
    ap (λ (s : FinSet nat_cmp). contains s 0) used ∙ contains-insert nat_cmp_total (empty {R = nat_cmp}) 0 0 ∙ or_left (eq_by_cmp nat_cmp 0 0) (contains (empty {R = nat_cmp}) 0) (unsigned_tied 0 0 ∙ eq-eqb 0 0 refl) in
    eqb-true _ 1 (sym (contains-used_in table value 0) ∙ there)

pub the_start : (place p : Place) (space s : SegmentSpace) → ◌≡◌ {A = Result (Place × SegmentSpace) NoRoom} (Ok (place, space)) (Ok (p, s)) → (place ≡ p) × (space ≡ s)
the_start place p space s e =
    let pair : (place, space) ≡ (p, s) = cc in
    (ap (λ (q : Place × SegmentSpace). q.0) pair, ap (λ (q : Place × SegmentSpace). q.1) pair)

only_one : (p : Placed) → IsOneOf (p ∷ []) p.place p.bytes
only_one p = inl (refl, refl)

module _ (store : Store) (head : Head) (segments : ℕ) (first : Piece) (table : Table) (sealed : List ℕ) (space : SegmentSpace) (n : ℕ) (n_is : n ≡ record_length store.suite 528)
    (digest : sha256 sealed ≡ first.digest.0) (size : first.length ≡ length sealed) (long : length sealed ≡ n) (opened : IsSealedRecord (system_key store.secret) (table_name store.suite) (table_bytes table) sealed) (is_table : IsTable table) (value : IsTableValue table)
    (numbered : table.segments ≡ segments) (used : used_in table ≡ insert empty 0) (placed_at : place_in (fresh_space segments) n 0 ≡ Ok (first.place, space)) (least : 16 ≤ segments) (most : segments ≤ 4096) (zero_count : head.count ≡ 0) where
  abbrev pieces : List Placed
  pieces = record { place = first.place.0; bytes = sealed } ∷ []

  abbrev commit : Commit
  commit = next_commit store.suite head 2 1 segments first None

  fits : (1 ≤ n) × (n ≤ 262144)
  fits = subst (λ (m : ℕ). (1 ≤ m) × (m ≤ 262144)) (sym n_is) (record_fits store.suite 528 (omega arith))

  at : (first.place ≡ first_place) × (space ≡ with_bytes (fresh_space segments) first_place n)
  at = the_start first.place first_place space (with_bytes (fresh_space segments) first_place n) (sym placed_at ∙ first_placed segments n least fits.0)

  place_is : first.place.0 ≡ 262144
  place_is = ap (λ (p : Place). p.0) at.0

  behind : table_space table (end_of first) ≡ with_bytes (fresh_space segments) first_place n
  behind =
      let long_is : first.length ≡ n = size ∙ long in
      ap (λ (m : ℕ). table_space table (record { 0 = first.place.0 + m })) long_is
      ∙ ap (λ (m : ℕ). table_space table (record { 0 = m + n })) place_is
      ∙ ap (λ (s : FinSet nat_cmp). let x : SegmentSpace = record { segments = table.segments; used = s; tail = Some (record { 0 = 262144 + n }) } in x) used
      ∙ ap (λ (m : ℕ). let x : SegmentSpace = record { segments = m; used = insert empty 0; tail = Some (record { 0 = 262144 + n }) } in x) numbered

  used_first : IsUsed table (first.place.0 / 262144 - 1)
  used_first = subst (λ (p : Place). IsUsed table (p.0 / 262144 - 1)) (sym at.0) (first_used table value used)

  pub start_is : LaidOut store.secret (fresh_space segments) space pieces → IsStart store head segments commit pieces space
  start_is laid = record {
    first = first;
    commit = refl;
    laid = laid;
    table = record {
      sealed = sealed;
      table = table;
      found = (digest, only_one (record { place = first.place.0; bytes = sealed }), size);
      opened = opened;
      is_table = is_table;
      value = value;
      segments = numbered;
      used = used_first;
    };
    after = behind ∙ sym at.1;
    in_format = record {
      base = omega arith;
      kind = inr (refl, omega (arith, zero_count));
      fewest = least;
      most = most;
      first = (0, omega arith, record { some = omega (arith, size, long, fits.0); begins = omega (arith, place_is); ends = omega (arith, place_is, size, long, fits.1) });
      root = tt;
    };
    is_first = at.1 ∙ ap (λ (m : ℕ). with_bytes (fresh_space segments) first_place m) n_is;
  }

-- an anchor of count 0 has no text
pub starts_first : (o : Outside) (store : Store) (before : History) (from : StoreState) → o.anchor.0 ≡ 0 → IsLog o.trace.written store o.anchor before from → from ≡ first_state
starts_first o store before from start is =
    let ends = subst (λ (n : ℕ). commit_chain o.trace.written (commit_of (commit_key_of store.secret)) n o.anchor.1 ≡ Some is.chain) start is.ends in
    let none = subst (λ (chain : List Commit). IsLogOf (in_trace o.trace.written) store first_state chain before from) (sym (same_Some [] is.chain ends)) is.tells in
    none.1

-- without a root there is no partition
none_tells : (f : Finds) (store : Store) → IsTreeState f store None no_partitions
none_tells f store part = record {
  leaf = None;
  at = record { at = λ below. none_at (nodes_in f (roster store None)) map_height 0 part; above = λ above. refl };
  partition = subst (λ (p : Option Partition). IsPartitionOf f store part None p) (sym (get-empty {X = Partition} nat_cmp part)) tt;
}

-- the state at a checkpoint
abbrev state_by : ℕ → Option Piece → SegmentSpace → State → StoreState
state_by count root space chunks = record { count = count; base = count; root = root; space = space; chunks = chunks }

-- the first text is a checkpoint on no text
pub first_steps : (o : Outside) (store : Store) (head : Head) (segments : ℕ) (c : Commit) (ps : List Placed) (space : SegmentSpace) → IsStart store head segments c ps space → head.count ≡ 0 → o.anchor.0 ≡ 0
    → Steps (λ _. Unit {0}) store o ps c (Formatted store segments)
first_steps o store head segments c ps space s zero_count start before from is known =
    let from_is : from ≡ first_state = starts_first o store before from start is in
    let one : c.count ≡ 1 = omega (arith, ap (λ (k : Commit). k.count) s.commit, zero_count) in
    let none : from.count ≡ 0 = ap (λ (x : StoreState). x.count) from_is in
    let rootless : c.root ≡ None = ap (λ (k : Commit). k.root) s.commit in
    let start_space : SegmentSpace = with_bytes (fresh_space segments) first_place (record_length store.suite 528) in
    let table : SegmentSpace = table_space s.table.table (end_of c.first) in
    let after : formatted_state store segments ≡ state_by c.count c.root table from.chunks =
    ap (λ (n : ℕ). state_by n None start_space no_partitions) (sym one)
    ∙ ap (λ (y : SegmentSpace). state_by c.count None y no_partitions) (sym (s.after ∙ s.is_first))
    ∙ ap (λ (r : Option Piece). state_by c.count r table no_partitions) (sym rootless)
    ∙ ap (λ (y : StoreState). state_by c.count c.root table y.chunks) (sym from_is) in
    let placed : IsIn (formatted_state store segments).space c.first =
    subst (λ (x : StoreState). IsIn x.space c.first) (sym after) (table_placed (in_pieces ps) store.secret c s.in_format s.table).1 in
    let first_alone : (piece : Piece) → (piece ≡ c.first) ⊎ IsReached (in_pieces ps) store c.root piece → piece ≡ c.first =
    λ piece which. ⊎_elim (λ same. same)
    (λ reached. absurd (none_reached (in_pieces ps) store piece (subst (λ (root : Option Piece). IsReached (in_pieces ps) store root piece) rootless reached))) which in
    let checkpoint : IsCheckpointOn (in_pieces ps) store from c (formatted_state store segments) = record {
      kind = ap (λ (k : Commit). k.kind) s.commit;
      next = omega (arith, one, none);
      segments = inl none;
      table = s.table;
      tree = subst (λ (root : Option Piece). IsTreeState (in_pieces ps) store root from.chunks) (sym rootless)
          (subst (λ (x : StoreState). IsTreeState (in_pieces ps) store None x.chunks) (sym from_is) (none_tells (in_pieces ps) store));
      narrow = subst (λ (root : Option Piece). IsNarrow (in_pieces ps) store root) (sym rootless) (none_narrow (in_pieces ps) store);
      after_is = after;
      placed = λ piece which. subst (IsIn (formatted_state store segments).space) (sym (first_alone piece which)) placed;
      apart = λ p q p_is q_is same. first_alone p p_is ∙ sym (first_alone q q_is);
    } in
    let step : IsStep (in_pieces ps) store from c [] (formatted_state store segments) = record { suite = ap (λ (k : Commit). k.suite) s.commit; adds = inl (checkpoint, refl) } in
    ([], formatted_state store segments, (refl, none, refl), step)

-- nothing was placed before the first text
pub fresh_at_first : (ps : List Placed) → All (IsFreshIn first_state.space) ps
fresh_at_first ps k p within q m placed = absurd (false≢true (sym (contains-empty nat_cmp placed.k) ∙ placed.used))

-- a fresh space is one
pub fresh_valid : (n : ℕ) → 16 ≤ n → n ≤ 4096 → IsSegmentSpace (fresh_space n)
fresh_valid n least most = record { least = least; most = most; used = λ k used. absurd (false≢true (sym (contains-empty nat_cmp k) ∙ used)); tail = refl }

-- a put of the start adds the first text
pub format_added : {D T E : Type 0} (outside : D → Outside) (crash_states : D → CrashStates) (counts : Counts outside crash_states) (store : Store) (head : Head) (segments : ℕ) (c : Commit) (ps : List Placed) (space : SegmentSpace) (old new : D)
    (result : Result T E) → IsStart store head segments c ps space → head.count ≡ 0 → head.mark.0 ≡ replicate 32 0 → commit_of (commit_key_of store.secret) (text_of store.secret c) ≡ Some c → IsTrue (outside old).tells → (outside old).anchor.0 ≡ 0
    → IsSettled outside crash_states old → Puts outside crash_states old new (ps ++ text_in_slot store.secret c ∷ []) (anchor_of store.secret c) result → OnOk result ((outside new).anchor ≡ anchor_of store.secret c)
    → OnOk result ((i : List ℕ) (a : Anchor) → now outside crash_states new i a → a ≡ anchor_of store.secret c)
    → AddedFrom outside crash_states (λ _. Unit {0}) store old new (Formatted store segments) result
format_added outside crash_states counts store head segments c ps space old new result s zero_count zeros reads tells start settled puts advanced only =
    put_added outside crash_states counts (λ _. Unit {0}) (Formatted store segments) store old new 0 (replicate 32 0) (text_in_slot store.secret c) ps c reads
    (omega (arith, ap (λ (k : Commit). k.count) s.commit, zero_count)) (ap (λ (k : Commit). k.prev.0) s.commit ∙ zeros) (λ zero. refl) (first_steps (outside old) store head segments c ps space s zero_count start) tells start (inr refl) settled
    result puts advanced only
