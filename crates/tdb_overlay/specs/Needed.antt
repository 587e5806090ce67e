-- The pieces that the log of an anchor needs, with the bytes that they stand for.
use Rattle.std.specs.Prelude.{List}
use Rattle.tdb_base.specs.Trace.{WrittenPiece}
use Rattle.tdb_platform.specs.Outside.{Anchor}
use Rattle.tdb_overlay.specs.Found.{Finds, Store, in_trace}
use Rattle.tdb_overlay.specs.Required.{IsRequired}

-- In a trace those of a piece as ever, and only of one that the log needs.
abbrev pub needed : List WrittenPiece → Store → Anchor → Finds
needed written store anchor piece bytes = in_trace written piece bytes × IsRequired written store anchor piece
