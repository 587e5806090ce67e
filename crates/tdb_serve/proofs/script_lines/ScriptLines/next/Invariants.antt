use Rattle.std.proofs.Common.{◌-◌, ◌≡◌, ◌≤◌}
use Rattle.tdb_serve.specs.declared.script_lines.TheConstants.{MAX_SCRIPT_LENGTH}
use Rattle.tdb_serve.proofs.Unreading.{Passed}
use Rattle.tdb_serve.proofs.script_lines.ScriptLines.next.Given as goal

abbrev pub invariant-reading : goal.invariant-reading
invariant-reading g l = record {
  passed : Passed (g.S.Source.content l.fn.source) (g.S.Source.content l.source) l.fn.self l.self l.fits;
  tells : (g.S.Source.content l.source).tells ≡ (g.S.Source.content l.fn.source).tells;
  no_fewer : (g.S.Source.content l.fn.source).faults ≤ (g.S.Source.content l.source).faults;
}

abbrev pub decreases-reading : goal.decreases-reading
decreases-reading g l = MAX_SCRIPT_LENGTH - l.self.taken
