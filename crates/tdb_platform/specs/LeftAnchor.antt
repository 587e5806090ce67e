-- The anchor that a stop leaves, by what becomes of an advance that failed.
use Rattle.std.specs.Prelude.{Bool, List, [], ◌∷◌, if◌then◌else◌}
use Rattle.tdb_platform.specs.declared.crash.AnchorLeft.{AnchorLeft}
use Rattle.tdb_platform.specs.declared.crash.AnchorLeft.TheVariants.{Old, New}
use Rattle.tdb_platform.specs.Outside.{Anchor}
use Rattle.tdb_platform.specs.Replay.{Event, Reads, Writes, Syncs, Asks, Advances, Fails, Replaces, Stops, Stand, stand_after, Logged}

-- An advance that failed left the anchor as it was, or exchanged it.
abbrev pub exchanged : AnchorLeft → Anchor → Anchor → Bool → Anchor
exchanged Old was next failed = if failed then was else next
exchanged New was next failed = next

-- the anchor that a stop right after a call leaves, from the one that a stop right before it would have left
abbrev pub anchor_after : AnchorLeft → Stand → Anchor → Event → Anchor
anchor_after how s left (Advances count mark failed) = exchanged how left (count, mark) failed
anchor_after how s left Asks = s.1
anchor_after how s left (Stops image anchor) = anchor
anchor_after how s left (Reads at asked bytes) = left
anchor_after how s left (Writes at piece failed) = left
anchor_after how s left Syncs = left
anchor_after how s left Fails = left
anchor_after how s left (Replaces at bytes) = left

abbrev pub anchor_of : AnchorLeft → Stand → Anchor → List Logged → Anchor
anchor_of how s left [] = left
anchor_of how s left (c ∷ cs) = anchor_of how (stand_after s c.event) (anchor_after how s left c.event) cs
