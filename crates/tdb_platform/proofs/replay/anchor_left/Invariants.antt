use Rattle.std.proofs.Common.{◌≡◌, ℕ, List, drop}
use Rattle.tdb_platform.specs.LeftAnchor.{anchor_of}
use Rattle.tdb_platform.specs.Logs.{calls_of}
use Rattle.tdb_platform.proofs.replay.anchor_left.Given as goal

abbrev pub invariant-loop-entry : goal.invariant-loop-entry
invariant-loop-entry l = (i : List ℕ) → (j : List ℕ) × (anchor_of l.how (j, l.anchor) l.left (calls_of (drop l.entry-index l.entries)) ≡ anchor_of l.how (i, l.fn.start) l.fn.start (calls_of l.entries))
