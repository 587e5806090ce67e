-- How a run ends, by how its opening stopped or its script ended.
use Rattle.std.specs.Prelude.{true, false}
use Rattle.tdb_append.specs.Put.{slot_place}
use Rattle.tdb_base.specs.declared.piece.Place.{Place}
use Rattle.tdb_chunk.specs.declared.store_format.FormatError.{FormatError}
use Rattle.tdb_chunk.specs.declared.store_format.FormatError.TheVariants as formats
use Rattle.tdb_model.specs.declared.error.CommitError.{CommitError}
use Rattle.tdb_model.specs.declared.error.CommitError.TheVariants as refusals
use Rattle.tdb_recover.specs.declared.error.OpenError.{OpenError}
use Rattle.tdb_recover.specs.declared.error.OpenError.TheVariants as opens
use Rattle.tdb_serve.specs.declared.script_end.ScriptEnd.{ScriptEnd}
use Rattle.tdb_serve.specs.declared.script_end.ScriptEnd.TheVariants as ends
use Rattle.tdb_run.specs.declared.opening.NotOpened.{NotOpened}
use Rattle.tdb_run.specs.declared.opening.NotOpened.TheVariants as stops
use Rattle.tdb_run.specs.declared.status.Finding.TheVariants.{Form, Tampered}
use Rattle.tdb_run.specs.declared.status.Refusal.TheVariants.{Counter, Full, Ring}
use Rattle.tdb_run.specs.declared.status.Success.TheVariants.{Script}
use Rattle.tdb_run.specs.declared.status.Status.{Status}
use Rattle.tdb_run.specs.declared.status.Status.TheVariants.{Done, AnchorCount, Damaged, PlatformFault, SourceFault}
use Rattle.tdb_run.specs.declared.status.Status.TheVariants.{SinkFault, Memory, End, Refused}

-- a script that ended so
abbrev pub status_of_end : ScriptEnd → Status
status_of_end ends.Bye = Done Script
status_of_end ends.End = End
status_of_end ends.SourceFault = SourceFault
status_of_end ends.SinkFault = SinkFault
status_of_end ends.PlatformFault = PlatformFault
status_of_end ends.Memory = Memory

-- a store that wasn't opened for this
abbrev pub status_of_stop : NotOpened → Status
status_of_stop stops.AlreadyFormatted = AnchorCount true
status_of_stop stops.Unformatted = AnchorCount false
status_of_stop (stops.Damaged finding) = Damaged finding
status_of_stop (stops.Refused refusal) = Refused refusal
status_of_stop stops.PlatformFault = PlatformFault
status_of_stop stops.Memory = Memory

-- Why a store isn't opened that can't be attached,
abbrev pub stop_of_open : OpenError → NotOpened
stop_of_open opens.Unformatted = stops.Unformatted
stop_of_open (opens.Tampered damage) = stops.Damaged (Tampered damage)
stop_of_open (opens.Form place) = stops.Damaged (Form place)
stop_of_open opens.Fault = stops.PlatformFault
stop_of_open opens.Memory = stops.Memory

-- or can't be formatted, where the number of segments is one that a store may have,
abbrev pub stop_of_format : FormatError → NotOpened
stop_of_format formats.Segments = stops.Memory
stop_of_format (formats.AlreadyFormatted count) = stops.AlreadyFormatted
stop_of_format formats.Fault = stops.PlatformFault
stop_of_format formats.Memory = stops.Memory

-- or can't be opened that was just made, where the anchor counts a text,
abbrev pub after_format : NotOpened → NotOpened
after_format stops.Unformatted = stops.Damaged (Form (record { 0 = slot_place 1 }))
after_format stops.AlreadyFormatted = stops.AlreadyFormatted
after_format (stops.Damaged finding) = stops.Damaged finding
after_format (stops.Refused refusal) = stops.Refused refusal
after_format stops.PlatformFault = stops.PlatformFault
after_format stops.Memory = stops.Memory

-- or whose partitions can't be made, the last text being in this slot.
abbrev pub stop_of_commit : CommitError → Place → NotOpened
stop_of_commit refusals.RingFull slot = stops.Refused Ring
stop_of_commit refusals.CounterEnd slot = stops.Refused Counter
stop_of_commit (refusals.NoRoom room) slot = stops.Refused (Full room)
stop_of_commit refusals.Memory slot = stops.Memory
stop_of_commit refusals.Fault slot = stops.PlatformFault
stop_of_commit other slot = stops.Damaged (Form slot)
