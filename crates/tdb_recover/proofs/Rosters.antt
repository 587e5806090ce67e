-- The roster of a checkpoint and its leaders, as they are read.
use Rattle.std.proofs.Common.{◌≡◌, inl, inr, ℕ, ◌+◌, ◌^◌, ◌<◌, List, Option, None, Some, sym, ◌∙◌, ap, subst, arith, get_or, length, take, ◌==◌, Bool, true, false, cond}
use Rattle.std.proofs.lemmas.Bool.{cases_lt}
use Rattle.std.proofs.lemmas.Bool.Decides.{nat_tests}
use Rattle.std.specs.FinMap.{get, insert}
use Rattle.tdb_base.specs.Trace.{Extends, IsNumbered, Trace, WrittenPiece}
use Rattle.tdb_base.specs.declared.names.Rank.{Rank}
use Rattle.tdb_base.specs.declared.piece.Piece.{Piece}
use Rattle.tdb_map.specs.Tree.{HasAt}
use Rattle.tdb_map.specs.Walk.{Ascends, Listed, listed}
use Rattle.tdb_map.specs.declared.tree.Tree.{Tree}
use Rattle.tdb_mark.specs.declared.commit.Commit.{Commit}
use Rattle.tdb_mark.specs.CommitText.{commit_key_of, commit_of}
use Rattle.tdb_mark.proofs.UnforgedLemmas.{IsUnforged-before}
use Rattle.tdb_model.specs.State.{Partition, State}
use Rattle.tdb_model.proofs.MapLemmas.{get_inserted}
use Rattle.tdb_node.specs.declared.leader.Leader.{Leader}
use Rattle.tdb_overlay.specs.CheckpointState.{IsLeaderRecord, IsOfRoster, IsPartitionOf}
use Rattle.tdb_overlay.specs.Covering.{Covered, Covers}
use Rattle.tdb_overlay.specs.Found.{Finds, Store, in_trace, store_of_text}
use Rattle.tdb_overlay.specs.Lookup.{cover_told}
use Rattle.tdb_overlay.specs.Roster.{TellsLeaf, kept_of}
use Rattle.tdb_overlay.specs.Trees.{map_height, nodes_in, roster}
use Rattle.tdb_overlay.proofs.LogLaws.{trace_finds_one}
use Rattle.tdb_overlay.proofs.TreeLaws.{one_has_at, one_nodes_in}
use Rattle.tdb_overlay.proofs.TreeRead.{leaf_reaches}
use Rattle.tdb_recover.specs.Roster.{IsLeaderIn, IsRosterIn}
use Rattle.tdb_recover.proofs.RosterLists.{listed_at, listed_next}

-- what was given at the end was so before
pub roster_before : (written : List WrittenPiece) (mid new : Trace) (secret : List ℕ) (c : Commit) (state : State) → IsNumbered mid
    → Extends mid new → IsRosterIn written new secret c state → IsRosterIn written mid secret c state
roster_before written mid new secret c state numbered grows given = record {
  unforged = IsUnforged-before mid new (commit_of (commit_key_of secret)) numbered grows given.unforged;
  tree = given.tree;
  narrow = given.narrow;
  numbered = given.numbered;
  lies = given.lies;
}

-- the roster has a leader at this rank
module _ (written : List WrittenPiece) (trace : Trace) (secret : List ℕ) (c : Commit) (state : State)
    (given : IsRosterIn written trace secret c state) (part : ℕ) (piece : Piece)
    (at : HasAt (nodes_in (in_trace written) (roster (store_of_text secret c) c.root)) map_height c.root part (Some piece)) where
  small_part : part < 64 ^ map_height
  small_part = elim (cases_lt part (64 ^ map_height)) [
    | inl below ↦ below
    | inr above ↦ absurd (cc (at.above above))
  ]

  pub leader_of_roster : IsOfRoster (in_trace written) (store_of_text secret c) c.root piece
  leader_of_roster = leaf_reaches (nodes_in (in_trace written) (roster (store_of_text secret c) c.root)) map_height 0 c.root part piece (at.at small_part)

  leader_by : (found : Option Partition) → IsPartitionOf (in_trace written) (store_of_text secret c) part (Some piece) found
      → (l : Leader) × IsLeaderIn written trace secret c.suite c.segments part piece l
  leader_by None is = absurd is
  leader_by (Some p) is = (
    is.leader,
    record {
      unforged = given.unforged;
      is = is.is_leader;
      lies = given.lies piece (inl leader_of_roster);
      root_lies = λ root same. given.lies root
          (inr (record { part = part; at = piece; in_roster = at; leader = is.leader; is_leader = is.is_leader; reaches = inl same }));
    },
  )

  pub leader_in : (l : Leader) × IsLeaderIn written trace secret c.suite c.segments part piece l
  leader_in =
      let h = given.tree part in
      let tree : Tree = roster (store_of_text secret c) c.root in
      let nodes = nodes_in (in_trace written) tree in
      let leaf : h.leaf ≡ Some piece = one_has_at nodes (one_nodes_in (in_trace written) tree (trace_finds_one written)) map_height c.root part h.leaf (Some piece) h.at at in
      leader_by (get state part) (subst (λ (x : Option Piece). IsPartitionOf (in_trace written) (store_of_text secret c) part x (get state part)) leaf h.partition)

-- the roster has what is listed, and so the entry at a place
pub entry_at : (written : List WrittenPiece) (secret : List ℕ) (c : Commit) (es : Listed) → Ascends 1 4096 es
    → ((part : ℕ) → HasAt (nodes_in (in_trace written) (roster (store_of_text secret c) c.root)) map_height c.root part (listed es part))
    → (i : ℕ) (d : Rank × Piece) → i < length es
    → HasAt (nodes_in (in_trace written) (roster (store_of_text secret c) c.root)) map_height c.root (get_or es i d).0.0
    (Some (get_or es i d).1)
entry_at written secret c es ascends at i d below =
    let e = get_or es i d in
    subst (λ (o : Option Piece). HasAt (nodes_in (in_trace written) (roster (store_of_text secret c) c.root)) map_height c.root e.0.0 o)
    (listed_at 1 4096 es ascends i d below).1 (at e.0.0)

-- one leader more is told
pub told_next : (finds : Finds) (store : Store) (es : Listed) → Ascends 1 4096 es → (i : ℕ) (d : Rank × Piece) → i < length es → (covers : Covers)
    → ((part : ℕ) → TellsLeaf finds store part (listed (take i es) part) (get covers part)) → (l : Leader)
    → IsLeaderRecord finds store (get_or es i d).0.0 (get_or es i d).1 l → (part : ℕ)
    → TellsLeaf finds store part (listed (take (i + 1) es) part) (get (insert covers (get_or es i d).0.0 (cover_told (kept_of l))) part)
told_next finds store es ascends i d below covers told l is part =
    let e = get_or es i d in
    let cover : Covered = cover_told (kept_of l) in
    let found = get_inserted covers e.0.0 cover part in
    elim (listed_next 1 4096 es ascends i d below part) [
      | inl here ↦
          let test : (part == e.0.0) ≡ true = grind (arith, nat_tests, here.0) in
          let tells : get (insert covers e.0.0 cover) part ≡ Some cover = found ∙ ap (λ (b : Bool). cond b (Some cover) (get covers part)) test in
          subst (λ (o : Option Piece). TellsLeaf finds store part o (get (insert covers e.0.0 cover) part)) (sym here.1)
          (l, subst (λ (n : ℕ). IsLeaderRecord finds store n e.1 l) (sym here.0) is, tells)
      | inr other ↦
          let test : (part == e.0.0) ≡ false = grind (arith, nat_tests, other.0) in
          let tells : get (insert covers e.0.0 cover) part ≡ get covers part = found ∙ ap (λ (b : Bool). cond b (Some cover) (get covers part)) test in
          subst (λ (o : Option Piece). TellsLeaf finds store part o (get (insert covers e.0.0 cover) part)) (sym other.1)
          (subst (λ (o : Option Covered). TellsLeaf finds store part (listed (take i es) part) o) (sym tells) (told part))
    ]
