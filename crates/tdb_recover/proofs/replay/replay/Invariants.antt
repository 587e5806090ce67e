use Rattle.std.proofs.Common.{◌≡◌, ◌-◌, ◌≤◌, ◌++◌, List, length, reverse, vec_len}
use Rattle.std.specs.List.{AllByRecursion}
use Rattle.tdb_mark.specs.declared.commit.Commit.{Commit}
use Rattle.tdb_overlay.specs.Reading.{OnlyReads}
use Rattle.tdb_recover.specs.Chain.{EachLog, EndsWith, IsBehind, ReadsOnlyIn}
use Rattle.tdb_recover.specs.Reads.{ReadsAtMost}
use Rattle.tdb_recover.specs.Replay.{IsRest}
use Rattle.tdb_recover.proofs.replay.replay.Given as goal

abbrev pub invariant-loop-text : goal.invariant-loop-text
invariant-loop-text g l = record {
  reads : OnlyReads g.P.Platform.outside g.P.Platform.crash_states l.fn.platform l.platform;
  head : l.log.head ≡ l.fn.log.head;
  suite : l.log.suite ≡ l.fn.log.suite;
  done : (done : List Commit) × (reverse l.fn.chain.commits.items ≡ done ++ reverse l.commits.items);
  behind : AllByRecursion (IsBehind l.fn.chain.base) (reverse l.commits.items);
  rest : EachLog (g.P.Platform.outside l.fn.platform) (g.P.Platform.outside l.platform) l.keys (λ whole.
      IsRest (g.P.Platform.outside l.fn.platform).trace.written whole (reverse l.fn.chain.commits.items) l.fn.log
      → EndsWith (g.P.Platform.outside l.fn.platform).trace.written l.keys whole.chain l.fn.chain.base (reverse l.fn.chain.commits.items)
      → IsRest (g.P.Platform.outside l.fn.platform).trace.written whole (reverse l.commits.items) l.log);
  quiet : (g.P.Platform.outside l.platform).faults ≡ (g.P.Platform.outside l.fn.platform).faults;
  only : EachLog (g.P.Platform.outside l.fn.platform) (g.P.Platform.outside l.platform) l.keys (λ whole.
      IsRest (g.P.Platform.outside l.fn.platform).trace.written whole (reverse l.fn.chain.commits.items) l.fn.log
      → EndsWith (g.P.Platform.outside l.fn.platform).trace.written l.keys whole.chain l.fn.chain.base (reverse l.fn.chain.commits.items)
      → ReadsOnlyIn (g.P.Platform.outside l.fn.platform) (g.P.Platform.outside l.platform) whole);
  left : length l.commits.items ≤ length l.fn.chain.commits.items;
  most : ReadsAtMost (length l.fn.chain.commits.items - length l.commits.items) (g.P.Platform.outside l.fn.platform)
      (g.P.Platform.outside l.platform);
}

abbrev pub decreases-loop-text : goal.decreases-loop-text
decreases-loop-text g l = vec_len l.commits
