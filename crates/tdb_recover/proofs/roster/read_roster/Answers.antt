use Rattle.std.proofs.Common.{◌≡◌, ◌∙◌, ◌+◌, ◌<◌, ℕ, length, get_or, take, sym, subst, ap, arith}
use Rattle.std.proofs.lemmas.List.{take_all}
use Rattle.std.specs.FinMap.{get, get-empty, insert}
use Rattle.std.specs.Ordering.{nat_cmp}
use Rattle.tdb_map.specs.Tree.{HasAt}
use Rattle.tdb_map.specs.Walk.{Ascends, Listed, listed}
use Rattle.tdb_overlay.specs.CheckpointState.{IsOfRoster}
use Rattle.tdb_overlay.specs.Covering.{Covers}
use Rattle.tdb_overlay.specs.Found.{in_trace, store_of_text}
use Rattle.tdb_overlay.specs.Lookup.{cover_told}
use Rattle.tdb_overlay.specs.Roster.{TellsLeaf, kept_of}
use Rattle.tdb_overlay.specs.declared.overlay.Leader.{Leader}
use Rattle.tdb_overlay.specs.Trees.{map_height, nodes_in, roster}
use Rattle.tdb_overlay.proofs.ReadingLaws.{reads_then}
use Rattle.tdb_recover.specs.Explained.{IsExplained}
use Rattle.tdb_recover.specs.Roster.{IsLeaderIn}
use Rattle.tdb_recover.proofs.Answering.{if_err_and}
use Rattle.tdb_recover.proofs.Composing.{explained_then, tells_then, written_then}
use Rattle.tdb_recover.proofs.Counted.{most_as, most_then}
use Rattle.tdb_recover.proofs.Only.{only_as, only_then}
use Rattle.tdb_recover.proofs.RosterLists.{ascends_few, entry_within, no_entry}
use Rattle.tdb_recover.proofs.Rosters.{entry_at, leader_in, leader_of_roster, roster_before, told_next}
use Rattle.tdb_recover.proofs.Showing.{explained_as}
use Rattle.tdb_recover.proofs.roster.read_roster.Goals as goal

pub loop-part-init : goal.loop-part-init
loop-part-init g c = record {
  reads = c.read_nodes.ensures.reads;
  at = λ t state given part.
      let written = (g.P.Platform.outside c.args.platform.now).trace.written in
      let base = c.args.base.now in
      subst (λ (es : Listed). HasAt (nodes_in (in_trace written) (roster (store_of_text c.args.keys.now base) base.root)) map_height base.root part (listed es part))
      (sym c.deref-part-items.ensures.value) (c.in_ok-parts.ensures.at t state given part);
  told = λ t state given part. ap (λ (m : Covers). get m part) c.new-overlay.ensures ∙ get-empty nat_cmp part;
  only = c.in_ok-parts.ensures.only;
  most = c.read_nodes.ensures.most;
  quiet = c.in_ok-parts.ensures.quiet (λ same. cc same);
}

pub loop-part-preserved : goal.loop-part-preserved
loop-part-preserved g c =
    let outside = g.P.Platform.outside in
    let states = g.P.Platform.crash_states in
    let numbered = g.met.P.Platform.numbered in
    let old = c.args.platform.now in
    let mid = c.loop-part.platform in
    let new = c.read_partition.new.platform in
    let so_far = c.loop-part.invariant in
    let first = so_far.reads in
    let keys = c.args.keys.now in
    let base = c.args.base.now in
    let es = c.deref-part-items.result.now in
    let i = c.loop-part.part-index in
    let e = get_or es i no_entry in
    let below : i < length es = c.loop-part-test.true in
    let ascends : Ascends 1 4096 es = subst (Ascends 1 4096) (sym c.deref-part-items.ensures.value) c.in_ok-parts.ensures.ascends in
    let written = (outside old).trace.written in
    let store = store_of_text keys base in
    record {
      reads = reads_then outside states g.met.P.Platform.counts old mid new first c.read_partition.ensures.reads;
      at = λ t state given.
          let told = tells_then outside states old mid first t in
          so_far.at t state (roster_before written (outside mid).trace (outside new).trace keys base state (numbered mid told)
          (c.read_partition.ensures.reads.grows told) given);
      told = λ t state given part.
          let told = tells_then outside states old mid first t in
          let before = roster_before written (outside mid).trace (outside new).trace keys base state (numbered mid told)
          (c.read_partition.ensures.reads.grows told) given in
          let at = entry_at written keys base es ascends (so_far.at t state before) i no_entry below in
          let led = leader_in written (outside new).trace keys base state given e.0.0 e.1 at in
          let here = written_then outside states old mid first t
          (λ ws. IsLeaderIn ws (outside new).trace keys base.suite c.args.segments.now.segments e.0.0 e.1 led.0)
          (subst (λ (n : ℕ). IsLeaderIn written (outside new).trace keys base.suite n e.0.0 e.1 led.0) (sym c.requires.segments) led.1) in
          let same : c.in_ok-leader.leader ≡ kept_of led.0 = c.in_ok-leader.ensures.leader told led.0 here in
          let after : c.tell.new.self ≡ insert c.loop-part.overlay e.0.0 (cover_told (kept_of led.0)) =
          c.in_ok-tell.ensures ∙ ap (λ (k : Leader). insert c.loop-part.overlay e.0.0 (cover_told k)) same in
          subst (λ (m : Covers). TellsLeaf (in_trace written) store part (listed (take (i + 1) es) part) (get m part)) (sym after)
          (told_next (in_trace written) store es ascends i no_entry below c.loop-part.overlay (so_far.told t state before) led.0 led.1.is part);
      only = λ t state given.
          let told = tells_then outside states old mid first t in
          let before = roster_before written (outside mid).trace (outside new).trace keys base state (numbered mid told)
          (c.read_partition.ensures.reads.grows told) given in
          let at = entry_at written keys base es ascends (so_far.at t state before) i no_entry below in
          let pieces = IsOfRoster (in_trace written) store base.root in
          only_then (outside old) (outside mid) (outside new) pieces (so_far.only t state before)
          (only_as (outside mid) (outside new) (λ p. p ≡ e.1) pieces
          (λ piece same. subst pieces (sym same) (leader_of_roster written (outside new).trace keys base state given e.0.0 e.1 at))
          (c.in_ok-leader.ensures.only told));
      most = most_then outside states (66 + i) 1 (66 + (i + 1)) old mid new (omega arith) first c.read_partition.ensures.reads so_far.most
          c.read_partition.ensures.most;
      quiet = c.in_ok-leader.ensures.quiet (λ same. cc same) ∙ so_far.quiet;
    }

pub returns-in_err-leader-clause-reads : goal.returns-in_err-leader-clause-reads
returns-in_err-leader-clause-reads g c =
    reads_then g.P.Platform.outside g.P.Platform.crash_states g.met.P.Platform.counts c.args.platform.now c.loop-part.platform
    c.read_partition.new.platform c.loop-part.invariant.reads c.read_partition.ensures.reads

pub returns-in_err-leader-clause-most : goal.returns-in_err-leader-clause-most
returns-in_err-leader-clause-most g c =
    let es = c.deref-part-items.result.now in
    let i = c.loop-part.part-index in
    let few = ascends_few 1 4096 es (subst (Ascends 1 4096) (sym c.deref-part-items.ensures.value) c.in_ok-parts.ensures.ascends) in
    most_then g.P.Platform.outside g.P.Platform.crash_states (66 + i) 1 4161 c.args.platform.now c.loop-part.platform
    c.read_partition.new.platform (omega (arith, few, c.loop-part-test.true)) c.loop-part.invariant.reads c.read_partition.ensures.reads
    c.loop-part.invariant.most c.read_partition.ensures.most

pub returns-in_err-leader-clause-explained : goal.returns-in_err-leader-clause-explained
returns-in_err-leader-clause-explained g c t =
    let outside = g.P.Platform.outside in
    let states = g.P.Platform.crash_states in
    let old = c.args.platform.now in
    let mid = c.loop-part.platform in
    let new = c.read_partition.new.platform in
    let so_far = c.loop-part.invariant in
    let first = so_far.reads in
    let keys = c.args.keys.now in
    let base = c.args.base.now in
    let es = c.deref-part-items.result.now in
    let i = c.loop-part.part-index in
    let e = get_or es i no_entry in
    let below : i < length es = c.loop-part-test.true in
    let ascends : Ascends 1 4096 es = subst (Ascends 1 4096) (sym c.deref-part-items.ensures.value) c.in_ok-parts.ensures.ascends in
    let written = (outside old).trace.written in
    let told = tells_then outside states old mid first t in
    let pieces = IsOfRoster (in_trace written) (store_of_text keys base) base.root in
    if_err_and c.from_residual-in_err-leader.result _ _ c.from_residual-in_err-leader.ensures.1
    (λ error is state given.
    let before = roster_before written (outside mid).trace (outside new).trace keys base state (g.met.P.Platform.numbered mid told)
    (c.read_partition.ensures.reads.grows told) given in
    let at = entry_at written keys base es ascends (so_far.at t state before) i no_entry below in
    let led = leader_in written (outside new).trace keys base state given e.0.0 e.1 at in
    let here = written_then outside states old mid first t
    (λ ws. IsLeaderIn ws (outside new).trace keys base.suite c.args.segments.now.segments e.0.0 e.1 led.0)
    (subst (λ (n : ℕ). IsLeaderIn written (outside new).trace keys base.suite n e.0.0 e.1 led.0) (sym c.requires.segments) led.1) in
    subst (IsExplained (outside old) (outside new) pieces) (sym is)
    (explained_as (outside old) (outside new) (λ p. p ≡ e.1) pieces c.in_err-leader.field-0.0
    (λ piece same. subst pieces (sym same) (leader_of_roster written (outside new).trace keys base state given e.0.0 e.1 at))
    (explained_then outside states old mid first t new (λ p. p ≡ e.1) c.in_err-leader.field-0.0
    (c.in_err-leader.ensures.explained told led.0 here))))

pub returns-in_err-tell-clause-reads : goal.returns-in_err-tell-clause-reads
returns-in_err-tell-clause-reads g c =
    reads_then g.P.Platform.outside g.P.Platform.crash_states g.met.P.Platform.counts c.args.platform.now c.loop-part.platform
    c.read_partition.new.platform c.loop-part.invariant.reads c.read_partition.ensures.reads

pub returns-in_err-tell-clause-most : goal.returns-in_err-tell-clause-most
returns-in_err-tell-clause-most g c =
    let es = c.deref-part-items.result.now in
    let i = c.loop-part.part-index in
    let few = ascends_few 1 4096 es (subst (Ascends 1 4096) (sym c.deref-part-items.ensures.value) c.in_ok-parts.ensures.ascends) in
    most_then g.P.Platform.outside g.P.Platform.crash_states (66 + i) 1 4161 c.args.platform.now c.loop-part.platform
    c.read_partition.new.platform (omega (arith, few, c.loop-part-test.true)) c.loop-part.invariant.reads c.read_partition.ensures.reads
    c.loop-part.invariant.most c.read_partition.ensures.most

pub returns-clause-told : goal.returns-clause-told
returns-clause-told g c t state given part =
    let written = (g.P.Platform.outside c.args.platform.now).trace.written in
    let store = store_of_text c.args.keys.now c.args.base.now in
    let es = c.deref-part-items.result.now in
    let all : take c.loop-part.part-index es ≡ es = take_all c.loop-part.part-index es c.loop-part-test.false in
    record {
      leaf = listed es part;
      at = c.loop-part.invariant.at t state given part;
      tells = subst (λ (l : Listed). TellsLeaf (in_trace written) store part (listed l part) (get c.loop-part.overlay part)) all
          (c.loop-part.invariant.told t state given part);
    }

pub returns-clause-most : goal.returns-clause-most
returns-clause-most g c =
    let outside = g.P.Platform.outside in
    let es = c.deref-part-items.result.now in
    let few = ascends_few 1 4096 es (subst (Ascends 1 4096) (sym c.deref-part-items.ensures.value) c.in_ok-parts.ensures.ascends) in
    most_as (66 + c.loop-part.part-index) 4161 (outside c.args.platform.now) (outside c.loop-part.platform)
    (omega (arith, few, c.loop-part.auto.part-index-end)) c.loop-part.invariant.most

pub tell-requires-clause-number : goal.tell-requires-clause-number
tell-requires-clause-number g c =
    let es = c.deref-part-items.result.now in
    let ascends : Ascends 1 4096 es = subst (Ascends 1 4096) (sym c.deref-part-items.ensures.value) c.in_ok-parts.ensures.ascends in
    let within = entry_within 1 4096 es ascends c.loop-part.part-index no_entry c.loop-part-test.true in
    (within.0, omega (arith, within.1))
