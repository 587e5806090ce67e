use Rattle.std.proofs.Common.{◌-◌, ◌≡◌, ◌+◌, ◌≤◌, IsTrue, length, reverse}
use Rattle.std.specs.List.{AllByRecursion}
use Rattle.tdb_mark.specs.CommitFormat.{IsInFormat}
use Rattle.tdb_overlay.specs.Reading.{OnlyReads}
use Rattle.tdb_recover.specs.Chain.{EachLog, EndsWith, IsBehind, ReadsOnlyIn}
use Rattle.tdb_recover.specs.FirstText.{HasFirstText}
use Rattle.tdb_recover.specs.Reads.{ReadsAtMost}
use Rattle.tdb_recover.proofs.texts.read_chain.Given as goal

abbrev pub invariant-loop-text : goal.invariant-loop-text
invariant-loop-text g l = record {
  reads : OnlyReads g.P.Platform.outside g.P.Platform.crash_states l.fn.platform l.platform;
  format : IsInFormat l.text;
  counts : (l.text.count ≤ l.count) × (l.count ≤ l.text.base + 1000);
  commits : AllByRecursion (IsBehind l.text) (reverse l.commits.items);
  accepted : IsTrue (g.P.Platform.outside l.fn.platform).tells
      → HasFirstText l.keys (l.count, l.mark.0) (g.P.Platform.outside l.fn.platform) (g.P.Platform.outside l.platform);
  ends : EachLog (g.P.Platform.outside l.fn.platform) (g.P.Platform.outside l.platform) l.keys (λ log. log.anchor ≡ (l.count, l.mark.0)
      → EndsWith (g.P.Platform.outside l.fn.platform).trace.written l.keys log.chain l.text (reverse l.commits.items));
  quiet : (g.P.Platform.outside l.platform).faults ≡ (g.P.Platform.outside l.fn.platform).faults;
  only : EachLog (g.P.Platform.outside l.fn.platform) (g.P.Platform.outside l.platform) l.keys (λ log. log.anchor ≡ (l.count, l.mark.0)
      → ReadsOnlyIn (g.P.Platform.outside l.fn.platform) (g.P.Platform.outside l.platform) log);
  many : length l.commits.items + l.text.count ≡ l.count;
  most : ReadsAtMost (length l.commits.items + 1) (g.P.Platform.outside l.fn.platform) (g.P.Platform.outside l.platform);
}

abbrev pub decreases-loop-text : goal.decreases-loop-text
decreases-loop-text g l = l.text.count - l.text.base
