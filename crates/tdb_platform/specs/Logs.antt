-- What the entries of a device in memory say, call by call.
use Rattle.std.specs.Prelude.{Bool, true, false, List, map}
use Rattle.tdb_platform.specs.declared.call.Call.{Call}
use Rattle.tdb_platform.specs.declared.call.Call.TheVariants.{Read, Write, Sync, Anchor, Advance, Failed, Replace, Stop}
use Rattle.tdb_platform.specs.declared.call.Entry.{Entry}
use Rattle.tdb_platform.specs.Replay.{Event, Reads, Writes, Syncs, Asks, Advances, Fails, Replaces, Stops, Logged}

abbrev pub event_of : Call → Event
event_of (Read at asked bytes) = Reads at asked bytes.items
event_of (Write at piece failed) = Writes at piece.items failed
event_of Sync = Syncs
event_of Anchor = Asks
event_of (Advance count mark failed) = Advances count mark failed
event_of Failed = Fails
event_of (Replace at bytes) = Replaces at bytes.items
event_of (Stop image count mark) = Stops image.items (count, mark)

abbrev pub logged_of : Entry → Logged
logged_of e = record { event = event_of e.call; short = e.short }

abbrev pub calls_of : List Entry → List Logged
calls_of entries = map logged_of entries

-- whether the call is a read that gave a piece
abbrev pub gave : Call → Bool
gave (Read at asked bytes) = true
gave (Write at piece failed) = false
gave Sync = false
gave Anchor = false
gave (Advance count mark failed) = false
gave Failed = false
gave (Replace at bytes) = false
gave (Stop image count mark) = false
