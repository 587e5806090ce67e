-- What a stop leaves, by what becomes of late writes and of an advance that failed.
use Rattle.tdb_platform.specs.declared.crash.Crash.{Crash}
use Rattle.tdb_platform.specs.LeftAnchor.{anchor_of}
use Rattle.tdb_platform.specs.LeftImage.{image_of}
use Rattle.tdb_platform.specs.Replay.{Log, Stand}

abbrev pub left_by : Crash → Log → Stand
left_by crash l = (image_of crash.image l.start l.start.0 l.calls, anchor_of crash.anchor l.start l.start.1 l.calls)
