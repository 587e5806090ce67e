-- What a device in memory tells, and what a call does to that.
use Rattle.std.specs.Prelude.{◌≡◌, ℕ, true, ◌+◌, List}
use Rattle.tdb_base.specs.Trace.{Trace, no_trace}
use Rattle.tdb_platform.specs.declared.device.Device.{Device}
use Rattle.tdb_platform.specs.Outside.{Outside, Anchor, Rose}
use Rattle.tdb_platform.specs.CrashStates.{CrashStates, Elapses}
use Rattle.tdb_platform.specs.Logs.{calls_of}
use Rattle.tdb_platform.specs.Image.{overwritten}
use Rattle.tdb_platform.specs.Replay.{Event, Replaces, Stops, Log, Stand, stand_after, trace_after, pairs_after}
use Rattle.tdb_platform.specs.Replay.{trace_of, clock_of, LeftSince}

abbrev pub log_of : Device → Log
log_of d = record { start = (d.start.image.items, (d.start.count, d.start.mark)); calls = calls_of d.entries.items; short = d.short }

-- the device as it reads, with its anchor
abbrev pub stand : Device → Stand
stand d = (d.image.items, (d.count, d.mark))

abbrev pub trace : Device → Trace
trace d = trace_of no_trace (log_of d).calls

-- what it tells, where its calls had this many faults
abbrev pub outside_of : Device → ℕ → Outside
outside_of d faults = record {
  tells = true;
  honest = true;
  trace = trace d;
  image = d.image.items;
  anchor = (d.count, d.mark);
  faults = faults;
  clock = clock_of (log_of d);
}

abbrev pub crash_states_of : Device → CrashStates
crash_states_of d = LeftSince (log_of d)

-- One call took place, and did this.
pub record Did (old new : Device) (e : Event) : Type 0 where
  pub trace : trace new ≡ trace_after (trace old) e
  pub image : new.image.items ≡ (stand_after (stand old) e).0
  pub anchor : (new.count, new.mark) ≡ (stand_after (stand old) e).1
  pub now : (i : List ℕ) (a : Anchor) → crash_states_of new (clock_of (log_of new)) i a
      → pairs_after (stand old) (crash_states_of old (clock_of (log_of old))) e i a
  pub time : (m n : ℕ) → Elapses (outside_of old m) (outside_of new n) (crash_states_of old) (crash_states_of new)
  pub ticks : Rose (clock_of (log_of old)) (clock_of (log_of new))

-- The device's holder put bytes at a place: a stop now leaves what it could leave before, with these bytes in each image.
pub record Replaced (old new : Device) (at : ℕ) (bytes : List ℕ) : Type 0 where
  pub did : Did old new (Replaces at bytes)
  pub clock : clock_of (log_of new) ≡ clock_of (log_of old) + 1
  pub each : (i : List ℕ) (a : Anchor) → crash_states_of old (clock_of (log_of old)) i a
      → crash_states_of new (clock_of (log_of new)) (overwritten i at bytes) a

-- A stop took place, and left this.
pub record Stopped (old new : Device) (left : Stand) : Type 0 where
  pub did : Did old new (Stops left.0 left.1)
  pub clock : clock_of (log_of new) ≡ clock_of (log_of old) + 1
  pub short : new.short ≡ old.short
