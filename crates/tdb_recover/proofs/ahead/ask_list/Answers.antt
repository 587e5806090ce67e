use Rattle.std.proofs.Common.{◌++◌, List, arith, ap, length, true, false}
use Rattle.tdb_list.specs.declared.entry.Entry.{Entry}
use Rattle.tdb_overlay.specs.Changes.{named_records}
use Rattle.tdb_recover.proofs.AheadList.{asks_no_more, asks_records, is_listed}
use Rattle.tdb_recover.proofs.Counted.{listed_few, most_then}
use Rattle.tdb_recover.proofs.ReadingAhead.{seen_then, stopped_then}
use Rattle.tdb_recover.proofs.ahead.ask_list.Goals as goal

pub returns-in-Ok-None-clause-asks : goal.returns-in-Ok-None-clause-asks
returns-in-Ok-None-clause-asks g c =
    let first = c.in-Ok.ensures.asks in
    let none = rw c.in-Ok-None.field-0-is at c.in-Ok-None.ensures.none in (
      first.0,
      first.1,
      (asks_no_more c.args.keys.now c.args.log.now c.args.commit.now _ _ c.as_slice.ensures.value first.0 first.2 none, tt),
    )

pub returns-in-Ok-true-clause-asks : goal.returns-in-Ok-true-clause-asks
returns-in-Ok-true-clause-asks g c =
    let first = c.in-Ok.ensures.asks in
    let more = rw c.in-Ok-true.field-0-test at c.in-Ok-true.ensures.asks in
    let is = rw c.in-Ok-Some.field-0-is at c.in-Ok-Some.ensures.some in
    let entries = c.in-Ok-Some.entries.items in (
      first.0 ++ more.0,
      seen_then g.P.Platform.outside g.P.Platform.crash_states g.met.P.Platform.counts c.args.platform.now c.show.new.platform
          c.ask_records.new.platform first.0 more.0 first.1 more.1,
      (
        asks_records c.args.keys.now c.args.log.now c.args.commit.now _ _ c.as_slice.ensures.value first.0 first.2 entries _ more.0 true
            c.as_slice-2.ensures.value is more.2,
        is_listed c.args.keys.now c.args.log.now c.args.commit.now _ _ c.as_slice.ensures.value first.0 first.2 entries more.0 is,
      ),
    )

pub returns-in-Ok-false-clause-asks : goal.returns-in-Ok-false-clause-asks
returns-in-Ok-false-clause-asks g c =
    let first = c.in-Ok.ensures.asks in
    let more = rw c.in-Ok-false.field-0-test at c.in-Ok-false.ensures.asks in
    let is = rw c.in-Ok-Some.field-0-is at c.in-Ok-Some.ensures.some in
    let entries = c.in-Ok-Some.entries.items in (
      first.0 ++ more.0,
      seen_then g.P.Platform.outside g.P.Platform.crash_states g.met.P.Platform.counts c.args.platform.now c.show.new.platform
          c.ask_records.new.platform first.0 more.0 first.1 more.1,
      (
        asks_records c.args.keys.now c.args.log.now c.args.commit.now _ _ c.as_slice.ensures.value first.0 first.2 entries _ more.0 false
            c.as_slice-2.ensures.value is more.2,
        tt,
      ),
    )

pub returns-clause-asks : goal.returns-clause-asks
returns-clause-asks g c =
    let first = c.in-Ok.ensures.asks in
    stopped_then g.P.Platform.outside g.P.Platform.crash_states g.met.P.Platform.counts c.args.platform.now c.show.new.platform
    c.ask_records.new.platform first.0 c.in-Err-ask_records.error first.1 c.in-Err-ask_records.ensures.asks

pub returns-in-Ok-true-clause-most : goal.returns-in-Ok-true-clause-most
returns-in-Ok-true-clause-most g c =
    let is = rw c.in-Ok-Some.field-0-is at c.in-Ok-Some.ensures.some in
    let few = listed_few c.args.keys.now c.args.log.now c.args.commit.now _ c.in-Ok-Some.entries.items is in
    let all = length (named_records c.as_slice-2.result.now) in
    let later = (rw c.in-Ok-true.field-0-test at c.in-Ok-true.ensures.asks).1.only in
    most_then g.P.Platform.outside g.P.Platform.crash_states 1 all 1025 c.args.platform.now c.show.new.platform c.ask_records.new.platform
    (omega (arith, few, ap (λ (l : List Entry). length (named_records l)) c.as_slice-2.ensures.value)) c.in-Ok.ensures.asks.1.only
    later c.show.ensures.most c.ask_records.ensures.most

pub returns-in-Ok-false-clause-most : goal.returns-in-Ok-false-clause-most
returns-in-Ok-false-clause-most g c =
    let is = rw c.in-Ok-Some.field-0-is at c.in-Ok-Some.ensures.some in
    let few = listed_few c.args.keys.now c.args.log.now c.args.commit.now _ c.in-Ok-Some.entries.items is in
    let all = length (named_records c.as_slice-2.result.now) in
    let later = (rw c.in-Ok-false.field-0-test at c.in-Ok-false.ensures.asks).1.only in
    most_then g.P.Platform.outside g.P.Platform.crash_states 1 all 1025 c.args.platform.now c.show.new.platform c.ask_records.new.platform
    (omega (arith, few, ap (λ (l : List Entry). length (named_records l)) c.as_slice-2.ensures.value)) c.in-Ok.ensures.asks.1.only
    later c.show.ensures.most c.ask_records.ensures.most

pub returns-clause-most : goal.returns-clause-most
returns-clause-most g c =
    let is = rw c.in-Ok-Some.field-0-is at c.in-Ok-Some.ensures.some in
    let few = listed_few c.args.keys.now c.args.log.now c.args.commit.now _ c.in-Ok-Some.entries.items is in
    let all = length (named_records c.as_slice-2.result.now) in
    let later = c.in-Err-ask_records.ensures.asks.only in
    most_then g.P.Platform.outside g.P.Platform.crash_states 1 all 1025 c.args.platform.now c.show.new.platform c.ask_records.new.platform
    (omega (arith, few, ap (λ (l : List Entry). length (named_records l)) c.as_slice-2.ensures.value)) c.in-Ok.ensures.asks.1.only
    later c.show.ensures.most c.ask_records.ensures.most
