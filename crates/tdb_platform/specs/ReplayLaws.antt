-- The laws of a platform, for what a log of calls makes of one.
use Rattle.std.proofs.Common.{◌≡◌, inl, inr, ℕ, ◌≤◌, List, [], ◌∷◌, length, true, false, refl, sym, subst, arith}
use Rattle.std.proofs.lemmas.List.{take_all}
use Rattle.tdb_base.specs.Trace.{Trace, no_trace, IsNumbered}
use Rattle.tdb_base.proofs.Tracing.{numbered_written, numbered_read}
use Rattle.tdb_platform.specs.Outside.{Anchor}
use Rattle.tdb_platform.specs.ImageLaws.{overwritten_same, same_itself}
use Rattle.tdb_platform.specs.CrashStates.{Pairs}
use Rattle.tdb_platform.specs.Replay.{Event, Reads, Writes, Syncs, Asks, Advances, Fails, Replaces, Stops, Stand}
use Rattle.tdb_platform.specs.Replay.{stand_after, trace_after, pairs_after, Logged, stand_of, trace_of, pairs_of}
use Rattle.tdb_platform.specs.Replay.{at_first, short_after, Log, clock_of, LeftSince}

pub left_earlier : (l : Log) (t u : ℕ) (i : List ℕ) (a : Anchor) → t ≤ u → LeftSince l u i a → LeftSince l t i a
left_earlier l t u i a le s = record { made = s.made; within = s.within; reaches = omega (arith, le, s.reaches); left = s.left }

-- what reads give, with the anchor, is one of the pairs
one_call : (e : Event) (s : Stand) (before : Pairs) → before s.0 s.1 → pairs_after s before e (stand_after s e).0 (stand_after s e).1
one_call (Reads at asked bytes) s before here = here
one_call (Writes at piece false) s before here = (s.0, here, overwritten_same s.0 at piece)
one_call (Writes at piece true) s before here = (s.0, here, same_itself at (length piece) s.0)
one_call Syncs s before here = (here, refl)
one_call Asks s before here = (here, refl)
one_call (Advances count mark false) s before here = (s.1, here, inr refl, λ is. refl)
one_call (Advances count mark true) s before here = (s.1, here, inl refl, λ is. absurd (cc is))
one_call Fails s before here = here
one_call (Replaces at bytes) s before here = (s.0, here, refl)
one_call (Stops image anchor) s before here = (refl, refl)

all_calls : (cs : List Logged) (s : Stand) (before : Pairs) → before s.0 s.1 → pairs_of s before cs (stand_of s cs).0 (stand_of s cs).1
all_calls [] s before here = here
all_calls (c ∷ cs) s before here = all_calls cs (stand_after s c.event) (pairs_after s before c.event) (one_call c.event s before here)

-- after all calls
short_after_all : (cs : List Logged) (short : ℕ) → short_after cs short (length cs) ≡ short
short_after_all [] short = refl
short_after_all (c ∷ cs) short = short_after_all cs short

pub left_now : (l : Log) (i : List ℕ) (a : Anchor) → pairs_of l.start (at_first l.start) l.calls i a → LeftSince l (clock_of l) i a
left_now l i a left = record {
  made = length l.calls;
  within = omega arith;
  reaches = omega (arith, short_after_all l.calls l.short);
  left = subst (λ (cs : List Logged). pairs_of l.start (at_first l.start) cs i a)
      (sym (take_all (length l.calls) l.calls (omega arith))) left;
}

pub left_as_it_reads : (l : Log) (image : List ℕ) (anchor : Anchor) → (image, anchor) ≡ stand_of l.start l.calls
    → LeftSince l (clock_of l) image anchor
left_as_it_reads l image anchor is =
    left_now l image anchor (subst (λ (s : Stand). pairs_of l.start (at_first l.start) l.calls s.0 s.1) (sym is)
    (all_calls l.calls l.start (at_first l.start) (refl, refl)))

numbered_one : (e : Event) (t : Trace) → IsNumbered t → IsNumbered (trace_after t e)
numbered_one (Reads at asked bytes) t h = numbered_read t at asked bytes h
numbered_one (Writes at piece failed) t h = numbered_written t at piece h
numbered_one Syncs t h = h
numbered_one Asks t h = h
numbered_one (Advances count mark failed) t h = h
numbered_one Fails t h = h
numbered_one (Replaces at bytes) t h = h
numbered_one (Stops image anchor) t h = h

numbered_all : (cs : List Logged) (t : Trace) → IsNumbered t → IsNumbered (trace_of t cs)
numbered_all [] t h = h
numbered_all (c ∷ cs) t h = numbered_all cs (trace_after t c.event) (numbered_one c.event t h)

pub numbered_log : (cs : List Logged) → IsNumbered (trace_of no_trace cs)
numbered_log cs = numbered_all cs no_trace (record { written = tt; read = tt })
