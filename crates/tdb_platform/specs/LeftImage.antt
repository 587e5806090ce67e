-- The image that a stop leaves, by what becomes of the ranges that were written since the last sync.
use Rattle.std.specs.Prelude.{ℕ, List, [], ◌∷◌, length, replicate}
use Rattle.tdb_platform.specs.declared.crash.ImageLeft.{ImageLeft}
use Rattle.tdb_platform.specs.declared.crash.ImageLeft.TheVariants.{Old, New, Torn}
use Rattle.tdb_platform.specs.Image.{overwritten, written_over}
use Rattle.tdb_platform.specs.Replay.{Event, Reads, Writes, Syncs, Asks, Advances, Fails, Replaces, Stops, Stand, stand_after, Logged}

-- A written range is taken back, holds what was handed in, or holds one byte all over.
abbrev pub refilled : ImageLeft → List ℕ → ℕ → List ℕ → List ℕ
refilled Old image at piece = image
refilled New image at piece = overwritten image at piece
refilled (Torn byte) image at piece = written_over byte image at (replicate (length piece) byte)

-- the image that a stop right after a call leaves, from the one that a stop right before it would have left
abbrev pub image_after : ImageLeft → Stand → List ℕ → Event → List ℕ
image_after how s left (Writes at piece failed) = refilled how left at piece
image_after how s left Syncs = s.0
image_after how s left (Replaces at bytes) = overwritten left at bytes
image_after how s left (Stops image anchor) = image
image_after how s left (Reads at asked bytes) = left
image_after how s left Asks = left
image_after how s left (Advances count mark failed) = left
image_after how s left Fails = left

abbrev pub image_of : ImageLeft → Stand → List ℕ → List Logged → List ℕ
image_of how s left [] = left
image_of how s left (c ∷ cs) = image_of how (stand_after s c.event) (image_after how s left c.event) cs
