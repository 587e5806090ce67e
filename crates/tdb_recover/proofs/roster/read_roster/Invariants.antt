use Rattle.std.proofs.Common.{◌≡◌, ◌+◌, ℕ, IsTrue, take}
use Rattle.std.specs.FinMap.{get}
use Rattle.tdb_map.specs.Tree.{HasAt}
use Rattle.tdb_map.specs.Walk.{listed}
use Rattle.tdb_model.specs.State.{State}
use Rattle.tdb_overlay.specs.CheckpointState.{IsOfRoster}
use Rattle.tdb_overlay.specs.Found.{in_trace, store_of_text}
use Rattle.tdb_overlay.specs.Reading.{OnlyReads}
use Rattle.tdb_overlay.specs.Roster.{TellsLeaf}
use Rattle.tdb_overlay.specs.Trees.{map_height, nodes_in, roster}
use Rattle.tdb_recover.specs.Reads.{ReadsAtMost, ReadsOnly}
use Rattle.tdb_recover.specs.Roster.{IsRosterIn}
use Rattle.tdb_recover.proofs.roster.read_roster.Given as goal

abbrev pub invariant-loop-part : goal.invariant-loop-part
invariant-loop-part g l = record {
  reads : OnlyReads g.P.Platform.outside g.P.Platform.crash_states l.fn.platform l.platform;
  at : IsTrue (g.P.Platform.outside l.fn.platform).tells → (state : State)
      → IsRosterIn (g.P.Platform.outside l.fn.platform).trace.written (g.P.Platform.outside l.platform).trace l.keys l.base state → (part : ℕ)
      → HasAt (nodes_in (in_trace (g.P.Platform.outside l.fn.platform).trace.written) (roster (store_of_text l.keys l.base) l.base.root))
      map_height l.base.root part (listed l.part-items part);
  told : IsTrue (g.P.Platform.outside l.fn.platform).tells → (state : State)
      → IsRosterIn (g.P.Platform.outside l.fn.platform).trace.written (g.P.Platform.outside l.platform).trace l.keys l.base state → (part : ℕ)
      → TellsLeaf (in_trace (g.P.Platform.outside l.fn.platform).trace.written) (store_of_text l.keys l.base) part
      (listed (take l.part-index l.part-items) part) (get l.overlay part);
  only : IsTrue (g.P.Platform.outside l.fn.platform).tells → (state : State)
      → IsRosterIn (g.P.Platform.outside l.fn.platform).trace.written (g.P.Platform.outside l.platform).trace l.keys l.base state
      → ReadsOnly (IsOfRoster (in_trace (g.P.Platform.outside l.fn.platform).trace.written) (store_of_text l.keys l.base) l.base.root)
      (g.P.Platform.outside l.fn.platform) (g.P.Platform.outside l.platform);
  most : ReadsAtMost (66 + l.part-index) (g.P.Platform.outside l.fn.platform) (g.P.Platform.outside l.platform);
  quiet : (g.P.Platform.outside l.platform).faults ≡ (g.P.Platform.outside l.fn.platform).faults;
}
