use Rattle.std.proofs.Common.{◌≡◌, drop}
use Rattle.tdb_platform.specs.LeftImage.{image_of}
use Rattle.tdb_platform.specs.Logs.{calls_of}
use Rattle.tdb_platform.specs.Outside.{Anchor}
use Rattle.tdb_platform.proofs.replay.image_left.Given as goal

abbrev pub invariant-loop-entry : goal.invariant-loop-entry
invariant-loop-entry l = (a : Anchor) → (b : Anchor) × (image_of l.how (l.image.items, b) l.left.items (calls_of (drop l.entry-index l.entries)) ≡ image_of l.how (l.start, a) l.start (calls_of l.entries))
