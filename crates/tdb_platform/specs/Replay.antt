-- What a log of calls makes of a device and its anchor, of the trace, and of what a stop may leave.
use Rattle.std.specs.Prelude.{◌≡◌, ◌⊎◌, ℕ, zero, suc, Bool, false, ◌+◌, ◌≤◌, List, [], ◌∷◌, ◌++◌, length, max, min, take, if◌then◌else◌}
use Rattle.tdb_base.specs.Trace.{Trace, with_written, with_read}
use Rattle.tdb_platform.specs.Outside.{Anchor}
use Rattle.tdb_platform.specs.Image.{SameExcept, overwritten}
use Rattle.tdb_platform.specs.CrashStates.{Pairs}

-- a call, with what it was handed and what it gave
pub data Event : Type 0 where
  Reads : (at asked : ℕ) (bytes : List ℕ) → Event
  Writes : (at : ℕ) (piece : List ℕ) (failed : Bool) → Event
  Syncs : Event
  Asks : Event
  Advances : (count : ℕ) (mark : List ℕ) (failed : Bool) → Event
  -- a read, a sync or an `anchor` that failed, and any call that found no memory
  Fails : Event
  -- bytes that the device's holder put there
  Replaces : (at : ℕ) (bytes : List ℕ) → Event
  -- a stop that left this image and this anchor
  Stops : (image : List ℕ) (anchor : Anchor) → Event

-- the device's bytes, and the anchor
abbrev pub Stand : Type 0
Stand = List ℕ × Anchor

abbrev pub stand_after : Stand → Event → Stand
stand_after s (Writes at piece failed) = ((if failed then s.0 else overwritten s.0 at piece), s.1)
stand_after s (Advances count mark failed) = (s.0, (if failed then s.1 else (count, mark)))
stand_after s (Replaces at bytes) = (overwritten s.0 at bytes, s.1)
stand_after s (Stops image anchor) = (image, anchor)
stand_after s (Reads at asked bytes) = s
stand_after s Syncs = s
stand_after s Asks = s
stand_after s Fails = s

abbrev pub trace_after : Trace → Event → Trace
trace_after t (Reads at asked bytes) = with_read t at asked bytes
trace_after t (Writes at piece failed) = with_written t at piece
trace_after t Syncs = t
trace_after t Asks = t
trace_after t (Advances count mark failed) = t
trace_after t Fails = t
trace_after t (Replaces at bytes) = t
trace_after t (Stops image anchor) = t

-- what a stop right after a call may leave, from what one right before it might have left
abbrev pub pairs_after : Stand → Pairs → Event → Pairs
pairs_after s before (Writes at piece failed) i a = (was : List ℕ) × before was a × SameExcept at (length piece) was i
pairs_after s before Syncs i a = before i a × (i ≡ s.0)
pairs_after s before Asks i a = before i a × (a ≡ s.1)
pairs_after s before (Advances count mark failed) i a =
    (was : Anchor) × before i was × ((a ≡ was) ⊎ (a ≡ (count, mark))) × (failed ≡ false → a ≡ (count, mark))
pairs_after s before (Reads at asked bytes) i a = before i a
pairs_after s before Fails i a = before i a
pairs_after s before (Replaces at bytes) i a = (was : List ℕ) × before was a × (i ≡ overwritten was at bytes)
pairs_after s before (Stops image anchor) i a = (i ≡ image) × (a ≡ anchor)

-- a call of the log, and how many calls had found no memory before it, which the log hasn't
pub record Logged : Type 0 where
  pub event : Event
  pub short : ℕ

abbrev pub stand_of : Stand → List Logged → Stand
stand_of s [] = s
stand_of s (c ∷ cs) = stand_of (stand_after s c.event) cs

abbrev pub trace_of : Trace → List Logged → Trace
trace_of t [] = t
trace_of t (c ∷ cs) = trace_of (trace_after t c.event) cs

abbrev pub pairs_of : Stand → Pairs → List Logged → Pairs
pairs_of s before [] = before
pairs_of s before (c ∷ cs) = pairs_of (stand_after s c.event) (pairs_after s before c.event) cs

-- what a stop before the first call leaves
abbrev pub at_first : Stand → Pairs
at_first s i a = (i ≡ s.0) × (a ≡ s.1)

-- how many calls had found no memory by the end of the time after the first n calls of the log
abbrev pub short_after : List Logged → ℕ → ℕ → ℕ
short_after [] short n = short
short_after (c ∷ cs) short zero = c.short
short_after (c ∷ cs) short (suc n) = short_after cs short n

abbrev pub most_short : List Logged → ℕ
most_short [] = 0
most_short (c ∷ cs) = max c.short (most_short cs)

-- the device and anchor of the start, each call since then that found memory, and the number of those that didn't
pub record Log : Type 0 where
  pub start : Stand
  pub calls : List Logged
  pub short : ℕ

abbrev pub clock_of : Log → ℕ
clock_of l = length l.calls + l.short

-- What a stop since the moment t may leave: what one might have left after the first calls of the log, as long as that time reaches t.
pub record LeftSince (l : Log) (t : ℕ) (i : List ℕ) (a : Anchor) : Type 0 where
  pub made : ℕ
  pub within : made ≤ length l.calls
  pub reaches : t ≤ made + short_after l.calls l.short made
  pub left : pairs_of l.start (at_first l.start) (take made l.calls) i a

-- a call more in the log
abbrev pub added : Log → Event → Log
added l e = record { start = l.start; calls = l.calls ++ record { event = e; short = l.short } ∷ []; short = l.short }

-- a call more that found no memory
abbrev pub missed : Log → Log
missed l = record { start = l.start; calls = l.calls; short = min (l.short + 1) 18446744073709551615 }

-- a call that changes neither the image nor the anchor
pub record IsQuiet (e : Event) : Type 0 where
  pub image : (s : Stand) → (stand_after s e).0 ≡ s.0
  pub anchor : (s : Stand) → (stand_after s e).1 ≡ s.1
