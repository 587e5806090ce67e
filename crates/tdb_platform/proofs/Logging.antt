-- What one call more in a log makes of the stand, the trace and what a stop may leave.
use Rattle.std.proofs.Common.{◌≡◌, inl, inr, ⊎_elim, ℕ, zero, suc, ◌+◌, ◌<◌, ◌≤◌, List, [], ◌∷◌, ◌++◌, length, take, refl, sym, subst, arith}
use Rattle.std.proofs.lemmas.List.{take_all, take-append-le, length-append}
use Rattle.std.proofs.lemmas.Bool.{cases_lt}
use Rattle.tdb_base.specs.Trace.{Trace}
use Rattle.tdb_platform.specs.Outside.{Outside, Anchor}
use Rattle.tdb_platform.specs.Image.{overwritten}
use Rattle.tdb_platform.specs.CrashStates.{Pairs, Elapses}
use Rattle.tdb_platform.specs.Replay.{Event, Reads, Writes, Syncs, Asks, Advances, Fails, Replaces, Stops, Stand, stand_after, trace_after, pairs_after, Logged, stand_of, trace_of, pairs_of, at_first, short_after, most_short, Log, clock_of, LeftSince, added, missed}
use Rattle.tdb_platform.specs.ReplayLaws.{left_now}

pub stand_of-push : (cs : List Logged) (c : Logged) (s : Stand) → stand_of s (cs ++ c ∷ []) ≡ stand_after (stand_of s cs) c.event
stand_of-push [] c s = refl
stand_of-push (d ∷ ds) c s = stand_of-push ds c (stand_after s d.event)

pub trace_of-push : (cs : List Logged) (c : Logged) (t : Trace) → trace_of t (cs ++ c ∷ []) ≡ trace_after (trace_of t cs) c.event
trace_of-push [] c t = refl
trace_of-push (d ∷ ds) c t = trace_of-push ds c (trace_after t d.event)

pairs_of-push : (cs : List Logged) (c : Logged) (s : Stand) (before : Pairs) → pairs_of s before (cs ++ c ∷ []) ≡ pairs_after (stand_of s cs) (pairs_of s before cs) c.event
pairs_of-push [] c s before = refl
pairs_of-push (d ∷ ds) c s before = pairs_of-push ds c (stand_after s d.event) (pairs_after s before d.event)

pairs_after_more : (e : Event) (s : Stand) (P Q : Pairs) → ((i : List ℕ) (a : Anchor) → P i a → Q i a) → (i : List ℕ) (a : Anchor) → pairs_after s P e i a → pairs_after s Q e i a
pairs_after_more (Reads at asked bytes) s P Q more i a left = more i a left
pairs_after_more (Writes at piece failed) s P Q more i a left = (left.0, more left.0 a left.1, left.2)
pairs_after_more Syncs s P Q more i a left = (more i a left.0, left.1)
pairs_after_more Asks s P Q more i a left = (more i a left.0, left.1)
pairs_after_more (Advances count mark failed) s P Q more i a left = (left.0, more i left.0 left.1, left.2, left.3)
pairs_after_more Fails s P Q more i a left = more i a left
pairs_after_more (Replaces at bytes) s P Q more i a left = (left.0, more left.0 a left.1, left.2)
pairs_after_more (Stops image anchor) s P Q more i a left = left

-- ---- the calls that found no memory

short_after-push : (cs : List Logged) (e : Event) (short made : ℕ) → made ≤ length cs → short_after (cs ++ record { event = e; short = short } ∷ []) short made ≡ short_after cs short made
short_after-push [] e short zero le = refl
short_after-push [] e short (suc n) le = absurd (omega arith)
short_after-push (c ∷ cs) e short zero le = refl
short_after-push (c ∷ cs) e short (suc n) le = short_after-push cs e short n (omega arith)

short_after_within : (cs : List Logged) (short more made : ℕ) → made < length cs → short_after cs short made ≡ short_after cs more made
short_after_within [] short more made within = absurd (omega arith)
short_after_within (c ∷ cs) short more zero within = refl
short_after_within (c ∷ cs) short more (suc n) within = short_after_within cs short more n (omega arith)

short_after_more : (cs : List Logged) (short more made : ℕ) → short ≤ more → short_after cs short made ≤ short_after cs more made
short_after_more [] short more made le = le
short_after_more (c ∷ cs) short more zero le = omega arith
short_after_more (c ∷ cs) short more (suc n) le = short_after_more cs short more n le

short_after_most : (cs : List Logged) (short made : ℕ) → most_short cs ≤ short → short_after cs short made ≤ short
short_after_most [] short made le = omega arith
short_after_most (c ∷ cs) short zero le = omega (arith, le)
short_after_most (c ∷ cs) short (suc n) le = short_after_most cs short n (omega (arith, le))

short_after_all : (cs : List Logged) (short made : ℕ) → length cs ≤ made → short_after cs short made ≡ short
short_after_all [] short made le = refl
short_after_all (c ∷ cs) short zero le = absurd (omega arith)
short_after_all (c ∷ cs) short (suc n) le = short_after_all cs short n (omega arith)

pub most_short-push : (cs : List Logged) (e : Event) (short : ℕ) → most_short cs ≤ short → most_short (cs ++ record { event = e; short = short } ∷ []) ≤ short
most_short-push [] e short le = omega arith
most_short-push (c ∷ cs) e short le = omega (arith, le, most_short-push cs e short (omega (arith, le)))

-- ---- what a stop may leave

pub only_now : (l : Log) → most_short l.calls ≤ l.short → (i : List ℕ) (a : Anchor) → LeftSince l (clock_of l) i a → pairs_of l.start (at_first l.start) l.calls i a
only_now l most i a s =
    subst (λ (cs : List Logged). pairs_of l.start (at_first l.start) cs i a) (take_all s.made l.calls (omega (arith, s.reaches, short_after_most l.calls l.short s.made most))) s.left

pub now_added : (l : Log) (e : Event) → most_short l.calls ≤ l.short → (i : List ℕ) (a : Anchor) → LeftSince (added l e) (clock_of (added l e)) i a
    → pairs_after (stand_of l.start l.calls) (LeftSince l (clock_of l)) e i a
now_added l e most i a s =
    pairs_after_more e _ (pairs_of l.start (at_first l.start) l.calls) (LeftSince l (clock_of l)) (left_now l) i a
    (subst (λ (p : Pairs). p i a) (pairs_of-push l.calls (record { event = e; short = l.short }) l.start (at_first l.start)) (only_now (added l e) (most_short-push l.calls e l.short most) i a s))

module _ (l : Log) (e : Event) (o n : Outside) (before : o.clock ≡ clock_of l) (after : n.clock ≡ clock_of (added l e)) where
  longer : length (added l e).calls ≡ length l.calls + 1
  longer = length-append l.calls (record { event = e; short = l.short } ∷ [])

  front_of : (made : ℕ) → made ≤ length l.calls → take made (added l e).calls ≡ take made l.calls
  front_of made le = take-append-le made l.calls (record { event = e; short = l.short } ∷ []) le

  earlier : (t : ℕ) (i : List ℕ) (a : Anchor) (s : LeftSince (added l e) t i a) → s.made ≤ length l.calls → LeftSince l t i a
  earlier t i a s le = record {
    made = s.made;
    within = le;
    reaches = omega (arith, s.reaches, short_after-push l.calls e l.short s.made le);
    left = subst (λ (cs : List Logged). pairs_of l.start (at_first l.start) cs i a) (front_of s.made le) s.left;
  }

  at_end : (t : ℕ) (i : List ℕ) (a : Anchor) (s : LeftSince (added l e) t i a) → length l.calls < s.made → LeftSince (added l e) n.clock i a
  at_end t i a s last = record {
    made = s.made;
    within = s.within;
    reaches = omega (arith, after, longer, short_after_all (added l e).calls l.short s.made (omega (arith, longer, last)), last);
    left = s.left;
  }

  pub elapses_added : Elapses o n (LeftSince l) (LeftSince (added l e))
  elapses_added = record {
    later = omega (arith, before, after, longer);
    nothing_else = λ t i a le s. ⊎_elim (λ last. inr (at_end t i a s last)) (λ le. inl (earlier t i a s le)) (cases_lt (length l.calls) s.made);
    keeps = λ t i a le s. record {
      made = s.made;
      within = omega (arith, s.within, longer);
      reaches = omega (arith, s.reaches, short_after-push l.calls e l.short s.made s.within);
      left = subst (λ (cs : List Logged). pairs_of l.start (at_first l.start) cs i a) (sym (front_of s.made s.within)) s.left;
    };
  }

module _ (l : Log) (short : l.short ≤ 18446744073709551615) (o n : Outside) (before : o.clock ≡ clock_of l) (after : n.clock ≡ clock_of (missed l)) where
  pub elapses_missed : Elapses o n (LeftSince l) (LeftSince (missed l))
  elapses_missed = record {
    later = omega (arith, before, after, short);
    nothing_else = λ t i a le s. ⊎_elim
        (λ within. inl (record { made = s.made; within = s.within; reaches = omega (arith, s.reaches, short_after_within l.calls l.short (missed l).short s.made within); left = s.left }))
        (λ last. inr (record { made = s.made; within = s.within; reaches = omega (arith, after, last, short_after_all l.calls (missed l).short s.made last); left = s.left }))
        (cases_lt s.made (length l.calls));
    keeps = λ t i a le s. record {
      made = s.made;
      within = s.within;
      reaches = omega (arith, s.reaches, short_after_more l.calls l.short (missed l).short s.made (omega (arith, short)));
      left = s.left;
    };
  }

pub now_missed : (l : Log) → most_short l.calls ≤ l.short → l.short ≤ 18446744073709551615 → (i : List ℕ) (a : Anchor) → LeftSince (missed l) (clock_of (missed l)) i a → LeftSince l (clock_of l) i a
now_missed l most short i a s = left_now l i a (only_now (missed l) (omega (arith, most, short)) i a s)

-- the images as they were, with these bytes in each
pub replaced_each : (l : Log) (at : ℕ) (bytes : List ℕ) → most_short l.calls ≤ l.short → (i : List ℕ) (a : Anchor) → LeftSince l (clock_of l) i a
    → LeftSince (added l (Replaces at bytes)) (clock_of (added l (Replaces at bytes))) (overwritten i at bytes) a
replaced_each l at bytes most i a left =
    left_now (added l (Replaces at bytes)) (overwritten i at bytes) a
    (subst (λ (p : Pairs). p (overwritten i at bytes) a) (sym (pairs_of-push l.calls (record { event = Replaces at bytes; short = l.short }) l.start (at_first l.start))) (i, only_now l most i a left, refl))
