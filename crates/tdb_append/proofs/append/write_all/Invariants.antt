use Rattle.std.proofs.Common.{◌≡◌, IsTrue}
use Rattle.std.specs.Prelude.{take}
use Rattle.tdb_append.specs.Placed.{EachHolds, placed}
use Rattle.tdb_append.proofs.Writing.{Progress}
use Rattle.tdb_append.proofs.append.write_all.Given as goal

abbrev pub invariant-loop-piece : goal.invariant-loop-piece
invariant-loop-piece g l = record {
  progress : Progress g.P.Platform.outside g.P.Platform.crash_states l.fn.platform l.platform (placed (take l.piece-index l.pieces));
  holds : IsTrue (g.P.Platform.outside l.fn.platform).honest → EachHolds (g.P.Platform.outside l.platform).image (placed (take l.piece-index l.pieces));
  anchor : IsTrue (g.P.Platform.outside l.fn.platform).tells → (g.P.Platform.outside l.platform).anchor ≡ (g.P.Platform.outside l.fn.platform).anchor;
  quiet : (g.P.Platform.outside l.platform).faults ≡ (g.P.Platform.outside l.fn.platform).faults;
}
