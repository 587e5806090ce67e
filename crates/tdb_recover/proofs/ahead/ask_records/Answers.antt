use Rattle.std.proofs.Common.{◌∙◌, ◌≡◌, ◌++◌, List, [], ap, arith, length, sym, refl, take}
use Rattle.std.proofs.lemmas.Bool.{false≢true}
use Rattle.std.proofs.lemmas.List.{take_all}
use Rattle.sha2.specs.Sha256.{sha256}
use Rattle.tdb_list.specs.declared.entry.Entry.{Entry}
use Rattle.tdb_overlay.specs.Changes.{named_records}
use Rattle.tdb_recover.proofs.AheadList.{asked_all, asked_next, asked_same, asked_until}
use Rattle.tdb_recover.proofs.Counted.{most_seen, most_then, shown_before, shown_few}
use Rattle.tdb_recover.proofs.ReadingAhead.{seen_nothing, seen_then, stopped_then}
use Rattle.tdb_recover.proofs.ahead.ask_records.Goals as goal

pub loop-entry-init : goal.loop-entry-init
loop-entry-init g c = ([], seen_nothing g.P.Platform.outside g.P.Platform.crash_states g.met.P.Platform.counts c.args.platform.now, refl)

pub loop-entry-preserved-then-entry-ne-WRITE : goal.loop-entry-preserved-then-entry-ne-WRITE
loop-entry-preserved-then-entry-ne-WRITE g c =
    let done = c.loop-entry.invariant in
    let i = c.loop-entry.entry-index in
    (done.0, done.1, asked_same c.args.entries.now i _ done.0 c.loop-entry-test.true c.if-entry-ne-WRITE.true done.2)

pub returns-in-Err-clause-asks : goal.returns-in-Err-clause-asks
returns-in-Err-clause-asks g c =
    let done = c.loop-entry.invariant in
    stopped_then g.P.Platform.outside g.P.Platform.crash_states g.met.P.Platform.counts c.args.platform.now c.loop-entry.platform
    c.show.new.platform done.0 c.in-Err.error done.1 c.in-Err.ensures.asks

pub returns-then-not-has_digest-clause-asks : goal.returns-then-not-has_digest-clause-asks
returns-then-not-has_digest-clause-asks g c =
    let done = c.loop-entry.invariant in
    let more = c.in-Ok.ensures.asks in
    let i = c.loop-entry.entry-index in (
      done.0 ++ more.0,
      seen_then g.P.Platform.outside g.P.Platform.crash_states g.met.P.Platform.counts c.args.platform.now c.loop-entry.platform
          c.show.new.platform done.0 more.0 done.1 more.1,
      asked_until c.args.entries.now i _ c.loop-entry-test.true c.if-entry-ne-WRITE.false done.0 more.0 c.in-Ok.bytes.items done.2 more.2
          (λ same. false≢true (sym c.if-not-has_digest.true ∙ c.has_digest.ensures.1 (ap sha256 c.as_slice.ensures.value ∙ same))),
    )

pub loop-entry-preserved : goal.loop-entry-preserved
loop-entry-preserved g c =
    let done = c.loop-entry.invariant in
    let more = c.in-Ok.ensures.asks in
    let i = c.loop-entry.entry-index in (
      done.0 ++ more.0,
      seen_then g.P.Platform.outside g.P.Platform.crash_states g.met.P.Platform.counts c.args.platform.now c.loop-entry.platform
          c.show.new.platform done.0 more.0 done.1 more.1,
      asked_next c.args.entries.now i _ c.loop-entry-test.true c.if-entry-ne-WRITE.false done.0 more.0 c.in-Ok.bytes.items done.2 more.2
          (ap sha256 (sym c.as_slice.ensures.value) ∙ c.has_digest.ensures.0 c.if-not-has_digest.false),
    )

pub returns-clause-asks : goal.returns-clause-asks
returns-clause-asks g c =
    let done = c.loop-entry.invariant in
    (done.0, done.1, asked_all c.args.entries.now c.loop-entry.entry-index done.0 c.loop-entry-test.false done.2)

pub returns-in-Err-clause-most : goal.returns-in-Err-clause-most
returns-in-Err-clause-most g c =
    let outside = g.P.Platform.outside in
    let states = g.P.Platform.crash_states in
    let old = c.args.platform.now in
    let mid = c.loop-entry.platform in
    let done = c.loop-entry.invariant in
    let so_far = most_seen outside states (length done.0) old mid done.0 done.1 (omega arith) in
    most_then outside states (length done.0) 1 (length (named_records c.args.entries.now)) old mid c.show.new.platform
    (shown_before c.args.entries.now c.loop-entry.entry-index _ done.0 c.loop-entry-test.true c.if-entry-ne-WRITE.false done.2)
    done.1.only c.in-Err.ensures.asks.only so_far c.show.ensures.most

pub returns-then-not-has_digest-clause-most : goal.returns-then-not-has_digest-clause-most
returns-then-not-has_digest-clause-most g c =
    let outside = g.P.Platform.outside in
    let states = g.P.Platform.crash_states in
    let old = c.args.platform.now in
    let mid = c.loop-entry.platform in
    let done = c.loop-entry.invariant in
    let so_far = most_seen outside states (length done.0) old mid done.0 done.1 (omega arith) in
    most_then outside states (length done.0) 1 (length (named_records c.args.entries.now)) old mid c.show.new.platform
    (shown_before c.args.entries.now c.loop-entry.entry-index _ done.0 c.loop-entry-test.true c.if-entry-ne-WRITE.false done.2)
    done.1.only c.in-Ok.ensures.asks.1.only so_far c.show.ensures.most

pub returns-clause-most : goal.returns-clause-most
returns-clause-most g c =
    let done = c.loop-entry.invariant in
    let entries = c.args.entries.now in
    let all : take c.loop-entry.entry-index entries ≡ entries = take_all c.loop-entry.entry-index entries c.loop-entry-test.false in
    let few = shown_few (named_records (take c.loop-entry.entry-index entries)) done.0 done.2 in
    most_seen g.P.Platform.outside g.P.Platform.crash_states (length (named_records entries)) c.args.platform.now c.loop-entry.platform
    done.0 done.1 (omega (arith, few, ap (λ (l : List Entry). length (named_records l)) all))
