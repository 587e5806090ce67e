use Rattle.std.proofs.Common.{inl, inr, true, false, refl, ◌∙◌, ap, arith}
use Rattle.tdb_append.specs.declared.head.Head.{Head}
use Rattle.tdb_base.specs.Trace.{Trace}
use Rattle.tdb_overlay.proofs.ReadingLaws.{reads_then}
use Rattle.tdb_recover.specs.declared.error.OpenError.TheVariants.{Fault}
use Rattle.tdb_recover.proofs.Answering.{if_ok_two}
use Rattle.tdb_recover.proofs.Composing.{tells_then}
use Rattle.tdb_recover.proofs.Beside.{beside_after, beside_as, beside_opened}
use Rattle.tdb_recover.proofs.Opened.{IsLogRead, known, looked, may_have_taken, ok_is_no_err, shown, stays_or_takes}
use Rattle.tdb_recover.proofs.Opened.{stopped_reading, took_it, took_nothing}
use Rattle.tdb_recover.proofs.FirstRead.{first_longer, ok_always}
use Rattle.tdb_recover.proofs.Carrying.{reads_unless_fault, writes_reads, writes_then}
use Rattle.tdb_recover.proofs.Reliable.{no_damage}
use Rattle.tdb_recover.proofs.opening.recover.Goals as goal

pub returns-in-Err-clause-not_recovered : goal.returns-in-Err-clause-not_recovered
returns-in-Err-clause-not_recovered g c store history from given =
    stopped_reading g.P.Platform.outside g.P.Platform.crash_states
    c.args.platform.now c.read_log.new.platform store history from c.read_log.ensures.reads

pub returns-in-Err-clause-reliable : goal.returns-in-Err-clause-reliable
returns-in-Err-clause-reliable g c damage answer store history from given =
    no_damage g.P.Platform.outside g.P.Platform.crash_states g.met.P.Platform.as_it_reads
    c.args.platform.now (g.P.Platform.outside c.read_log.new.platform) c.args.keys.now store damage given.tells given.keys
    (c.in-Err.ensures.tampered damage answer store history from given)

pub returns-in-Ok-Some-clause-unwritten : goal.returns-in-Ok-Some-clause-unwritten
returns-in-Ok-Some-clause-unwritten g c =
    let outside = g.P.Platform.outside in
    let states = g.P.Platform.crash_states in
    let counts = g.met.P.Platform.counts in
    let old = c.args.platform.now in
    let mid = c.read_log.new.platform in
    let then = c.look_ahead.new.platform in
    let both = reads_then outside states counts old mid then c.read_log.ensures.reads c.look_ahead.ensures.reads in
    writes_then outside states counts old then c.take.new.platform both c.take.ensures.unwritten

pub returns-in-Ok-Some-clause-reads : goal.returns-in-Ok-Some-clause-reads
returns-in-Ok-Some-clause-reads g c =
    let outside = g.P.Platform.outside in
    let states = g.P.Platform.crash_states in
    let counts = g.met.P.Platform.counts in
    let old = c.args.platform.now in
    let mid = c.read_log.new.platform in
    let then = c.look_ahead.new.platform in
    let both = reads_then outside states counts old mid then c.read_log.ensures.reads c.look_ahead.ensures.reads in
    reads_unless_fault outside states old then c.take.new.platform both c.take.result
    c.take.ensures.errors c.take.ensures.memory

pub returns-in-Ok-Some-clause-recovered : goal.returns-in-Ok-Some-clause-recovered
returns-in-Ok-Some-clause-recovered g c =
    let outside = g.P.Platform.outside in
    let states = g.P.Platform.crash_states in
    let counts = g.met.P.Platform.counts in
    let numbered = g.met.P.Platform.numbered in
    let old = c.args.platform.now in
    let mid = c.read_log.new.platform in
    let then = c.look_ahead.new.platform in
    let keys = c.args.keys.now in
    let read : IsLogRead outside states old mid keys c.in-Ok.log = record {
      reads = c.read_log.ensures.reads;
      settled = c.in-Ok.ensures.settled (ok_is_no_err c.in-Ok.log Fault);
      sure = c.in-Ok.ensures.sure;
      head = c.in-Ok.ensures.at_head;
      recovered = c.in-Ok.ensures.recovered;
      only = c.in-Ok.ensures.only_opening;
    } in
    let new = c.take.new.platform in
    let p = c.in-Ok-Some.pending in
    let sees = c.in-Ok-Some.ensures.asks in
    let asks = rw c.in-Ok-Some.field-0-is at sees.2 in
    let settled = c.look_ahead.ensures.settled read.settled in
    took_it outside states counts numbered old mid keys c.in-Ok.log read then new p sees.0 sees.1 asks.0 asks.1 settled
    c.take.ensures.unwritten c.take.result (c.take.ensures.taken mid keys) c.take.ensures.at_head c.take.ensures.head

pub returns-in-Ok-Some-clause-not_recovered : goal.returns-in-Ok-Some-clause-not_recovered
returns-in-Ok-Some-clause-not_recovered g c =
    let outside = g.P.Platform.outside in
    let states = g.P.Platform.crash_states in
    let counts = g.met.P.Platform.counts in
    let numbered = g.met.P.Platform.numbered in
    let old = c.args.platform.now in
    let mid = c.read_log.new.platform in
    let then = c.look_ahead.new.platform in
    let keys = c.args.keys.now in
    let read : IsLogRead outside states old mid keys c.in-Ok.log = record {
      reads = c.read_log.ensures.reads;
      settled = c.in-Ok.ensures.settled (ok_is_no_err c.in-Ok.log Fault);
      sure = c.in-Ok.ensures.sure;
      head = c.in-Ok.ensures.at_head;
      recovered = c.in-Ok.ensures.recovered;
      only = c.in-Ok.ensures.only_opening;
    } in
    let new = c.take.new.platform in
    let p = c.in-Ok-Some.pending in
    let sees = c.in-Ok-Some.ensures.asks in
    let asks = rw c.in-Ok-Some.field-0-is at sees.2 in
    let settled = c.look_ahead.ensures.settled read.settled in
    may_have_taken outside states counts numbered old mid keys c.in-Ok.log read then new p sees.0 sees.1 asks.0 asks.1 settled
    c.take.ensures.unwritten c.take.result (c.take.ensures.taken mid keys) c.take.ensures.unread

pub returns-in-Ok-Some-clause-ahead : goal.returns-in-Ok-Some-clause-ahead
returns-in-Ok-Some-clause-ahead g c t =
    let outside = g.P.Platform.outside in
    let states = g.P.Platform.crash_states in
    let counts = g.met.P.Platform.counts in
    let numbered = g.met.P.Platform.numbered in
    let old = c.args.platform.now in
    let mid = c.read_log.new.platform in
    let then = c.look_ahead.new.platform in
    let keys = c.args.keys.now in
    let read : IsLogRead outside states old mid keys c.in-Ok.log = record {
      reads = c.read_log.ensures.reads;
      settled = c.in-Ok.ensures.settled (ok_is_no_err c.in-Ok.log Fault);
      sure = c.in-Ok.ensures.sure;
      head = c.in-Ok.ensures.at_head;
      recovered = c.in-Ok.ensures.recovered;
      only = c.in-Ok.ensures.only_opening;
    } in
    let new = c.take.new.platform in
    let p = c.in-Ok-Some.pending in
    let sees = c.in-Ok-Some.ensures.asks in
    let asks = rw c.in-Ok-Some.field-0-is at sees.2 in
    let both = reads_then outside states counts old mid then read.reads sees.1.only in
    let told = tells_then outside states old then both t in
    let few = beside_opened outside states old mid then read.reads sees.1.only c.in-Ok.log.head c.in-Ok.ensures.counts.commits
    c.in-Ok.ensures.most_ok c.look_ahead.ensures.most c.look_ahead.ensures.none in
    let at_then = tells_then outside states old mid read.reads t in
    if_ok_two c.take.result _ _ _ c.take.ensures.head c.take.ensures.kept
    (λ r is kept. looked outside states counts numbered old mid keys c.in-Ok.log read new r true sees.0 t
    (writes_then outside states counts mid then new sees.1.only c.take.ensures.unwritten)
    (beside_after 3026 4161 (outside old) (outside then) (outside new) few
    (λ told. c.take.ensures.unread (tells_then outside states old then both told)))
    (ap (λ (u : Trace). u.read) (c.take.ensures.unread told) ∙ sees.1.told at_then) asks.0
    (inr (
      refl,
      record {
        pending = p;
        shown = asks.1;
        count = ap (λ (h : Head). h.count) is ∙ (shown keys c.in-Ok.log sees.0 p asks.0 asks.1).next;
        mark = ap (λ (h : Head). h.mark) is;
        base = ap (λ (h : Head). h.base) is;
        suite = kept.0;
        segments = kept.1;
      },
    )))

pub returns-in-Ok-Some-clause-anchor_err : goal.returns-in-Ok-Some-clause-anchor_err
returns-in-Ok-Some-clause-anchor_err g c t =
    let outside = g.P.Platform.outside in
    let states = g.P.Platform.crash_states in
    let counts = g.met.P.Platform.counts in
    let numbered = g.met.P.Platform.numbered in
    let old = c.args.platform.now in
    let mid = c.read_log.new.platform in
    let then = c.look_ahead.new.platform in
    let keys = c.args.keys.now in
    let read : IsLogRead outside states old mid keys c.in-Ok.log = record {
      reads = c.read_log.ensures.reads;
      settled = c.in-Ok.ensures.settled (ok_is_no_err c.in-Ok.log Fault);
      sure = c.in-Ok.ensures.sure;
      head = c.in-Ok.ensures.at_head;
      recovered = c.in-Ok.ensures.recovered;
      only = c.in-Ok.ensures.only_opening;
    } in
    let p = c.in-Ok-Some.pending in
    let sees = c.in-Ok-Some.ensures.asks in
    let asks = rw c.in-Ok-Some.field-0-is at sees.2 in
    stays_or_takes outside states counts numbered old mid keys c.in-Ok.log read then c.take.new.platform p sees.0 sees.1 asks.0 asks.1
    (c.look_ahead.ensures.settled read.settled) c.take.ensures.unwritten c.take.result t c.take.ensures.unread c.take.ensures.either

pub returns-in-Ok-None-clause-unwritten : goal.returns-in-Ok-None-clause-unwritten
returns-in-Ok-None-clause-unwritten g c =
    let outside = g.P.Platform.outside in
    let states = g.P.Platform.crash_states in
    let counts = g.met.P.Platform.counts in
    let old = c.args.platform.now in
    let mid = c.read_log.new.platform in
    let then = c.look_ahead.new.platform in
    let both = reads_then outside states counts old mid then c.read_log.ensures.reads c.look_ahead.ensures.reads in
    writes_reads outside states old then both

pub returns-in-Ok-None-clause-recovered : goal.returns-in-Ok-None-clause-recovered
returns-in-Ok-None-clause-recovered g c store history from given =
    let outside = g.P.Platform.outside in
    let states = g.P.Platform.crash_states in
    let counts = g.met.P.Platform.counts in
    let numbered = g.met.P.Platform.numbered in
    let old = c.args.platform.now in
    let mid = c.read_log.new.platform in
    let then = c.look_ahead.new.platform in
    let keys = c.args.keys.now in
    let read : IsLogRead outside states old mid keys c.in-Ok.log = record {
      reads = c.read_log.ensures.reads;
      settled = c.in-Ok.ensures.settled (ok_is_no_err c.in-Ok.log Fault);
      sure = c.in-Ok.ensures.sure;
      head = c.in-Ok.ensures.at_head;
      recovered = c.in-Ok.ensures.recovered;
      only = c.in-Ok.ensures.only_opening;
    } in
    let both = reads_then outside states counts old mid then c.read_log.ensures.reads c.look_ahead.ensures.reads in
    took_nothing outside states counts numbered old then store history from c.in-Ok.log both
    (c.look_ahead.ensures.settled read.settled) given.tells given.log
    (known outside states counts numbered old mid keys c.in-Ok.log read then store history from
    (writes_reads outside states mid then c.look_ahead.ensures.reads) given)

pub returns-in-Ok-None-clause-ahead : goal.returns-in-Ok-None-clause-ahead
returns-in-Ok-None-clause-ahead g c t =
    let outside = g.P.Platform.outside in
    let states = g.P.Platform.crash_states in
    let counts = g.met.P.Platform.counts in
    let numbered = g.met.P.Platform.numbered in
    let old = c.args.platform.now in
    let mid = c.read_log.new.platform in
    let then = c.look_ahead.new.platform in
    let keys = c.args.keys.now in
    let read : IsLogRead outside states old mid keys c.in-Ok.log = record {
      reads = c.read_log.ensures.reads;
      settled = c.in-Ok.ensures.settled (ok_is_no_err c.in-Ok.log Fault);
      sure = c.in-Ok.ensures.sure;
      head = c.in-Ok.ensures.at_head;
      recovered = c.in-Ok.ensures.recovered;
      only = c.in-Ok.ensures.only_opening;
    } in
    let sees = c.in-Ok-None.ensures.asks in
    let asks = rw c.in-Ok-None.field-0-is at sees.2 in
    let few = beside_opened outside states old mid then read.reads sees.1.only c.in-Ok.log.head c.in-Ok.ensures.counts.commits
    c.in-Ok.ensures.most_ok c.look_ahead.ensures.most c.look_ahead.ensures.none in
    looked outside states counts numbered old mid keys c.in-Ok.log read then c.in-Ok.log false sees.0 t
    (writes_reads outside states mid then sees.1.only) few (sees.1.told (tells_then outside states old mid read.reads t)) asks.0
    (inl (refl, refl))

pub returns-in-Err-look_ahead-clause-unwritten : goal.returns-in-Err-look_ahead-clause-unwritten
returns-in-Err-look_ahead-clause-unwritten g c =
    let outside = g.P.Platform.outside in
    let states = g.P.Platform.crash_states in
    let counts = g.met.P.Platform.counts in
    let old = c.args.platform.now in
    let mid = c.read_log.new.platform in
    let then = c.look_ahead.new.platform in
    let both = reads_then outside states counts old mid then c.read_log.ensures.reads c.look_ahead.ensures.reads in
    writes_reads outside states old then both

pub returns-in-Err-look_ahead-clause-reads : goal.returns-in-Err-look_ahead-clause-reads
returns-in-Err-look_ahead-clause-reads g c no_fault =
    let outside = g.P.Platform.outside in
    let states = g.P.Platform.crash_states in
    let counts = g.met.P.Platform.counts in
    let old = c.args.platform.now in
    let mid = c.read_log.new.platform in
    let then = c.look_ahead.new.platform in
    reads_then outside states counts old mid then c.read_log.ensures.reads c.look_ahead.ensures.reads

pub returns-in-Err-look_ahead-clause-not_recovered : goal.returns-in-Err-look_ahead-clause-not_recovered
returns-in-Err-look_ahead-clause-not_recovered g c store history from given =
    let outside = g.P.Platform.outside in
    let states = g.P.Platform.crash_states in
    let counts = g.met.P.Platform.counts in
    let old = c.args.platform.now in
    let mid = c.read_log.new.platform in
    let then = c.look_ahead.new.platform in
    let both = reads_then outside states counts old mid then c.read_log.ensures.reads c.look_ahead.ensures.reads in
    stopped_reading outside states old then store history from both

pub returns-in-Err-look_ahead-clause-anchor_err : goal.returns-in-Err-look_ahead-clause-anchor_err
returns-in-Err-look_ahead-clause-anchor_err g c t =
    let outside = g.P.Platform.outside in
    let states = g.P.Platform.crash_states in
    let counts = g.met.P.Platform.counts in
    let old = c.args.platform.now in
    let mid = c.read_log.new.platform in
    let then = c.look_ahead.new.platform in
    let both = reads_then outside states counts old mid then c.read_log.ensures.reads c.look_ahead.ensures.reads in
    inl both

pub returns-in-Err-clause-most : goal.returns-in-Err-clause-most
returns-in-Err-clause-most g c =
    beside_as 2002 3026 4161 (g.P.Platform.outside c.args.platform.now) (g.P.Platform.outside c.read_log.new.platform) (omega arith)
    c.read_log.ensures.most

pub returns-in-Ok-Some-clause-most : goal.returns-in-Ok-Some-clause-most
returns-in-Ok-Some-clause-most g c =
    let outside = g.P.Platform.outside in
    let states = g.P.Platform.crash_states in
    let old = c.args.platform.now in
    let mid = c.read_log.new.platform in
    let then = c.look_ahead.new.platform in
    let both = reads_then outside states g.met.P.Platform.counts old mid then c.read_log.ensures.reads c.look_ahead.ensures.reads in
    beside_after 3026 4161 (outside old) (outside then) (outside c.take.new.platform)
    (beside_opened outside states old mid then c.read_log.ensures.reads c.look_ahead.ensures.reads c.in-Ok.log.head
    c.in-Ok.ensures.counts.commits c.in-Ok.ensures.most_ok c.look_ahead.ensures.most c.look_ahead.ensures.none)
    (λ t. c.take.ensures.unread (tells_then outside states old then both t))

pub returns-in-Ok-None-clause-most : goal.returns-in-Ok-None-clause-most
returns-in-Ok-None-clause-most g c =
    beside_opened g.P.Platform.outside g.P.Platform.crash_states c.args.platform.now c.read_log.new.platform c.look_ahead.new.platform
    c.read_log.ensures.reads c.look_ahead.ensures.reads c.in-Ok.log.head c.in-Ok.ensures.counts.commits c.in-Ok.ensures.most_ok
    c.look_ahead.ensures.most c.look_ahead.ensures.none

pub returns-in-Err-look_ahead-clause-most : goal.returns-in-Err-look_ahead-clause-most
returns-in-Err-look_ahead-clause-most g c =
    beside_opened g.P.Platform.outside g.P.Platform.crash_states c.args.platform.now c.read_log.new.platform c.look_ahead.new.platform
    c.read_log.ensures.reads c.look_ahead.ensures.reads c.in-Ok.log.head c.in-Ok.ensures.counts.commits c.in-Ok.ensures.most_ok
    c.look_ahead.ensures.most c.look_ahead.ensures.none

pub returns-in-Ok-Some-clause-accepted : goal.returns-in-Ok-Some-clause-accepted
returns-in-Ok-Some-clause-accepted g c t =
    let outside = g.P.Platform.outside in
    let states = g.P.Platform.crash_states in
    let old = c.args.platform.now in
    let mid = c.read_log.new.platform in
    let then = c.look_ahead.new.platform in
    let new = c.take.new.platform in
    let keys = c.args.keys.now in
    let both = reads_then outside states g.met.P.Platform.counts old mid then c.read_log.ensures.reads c.look_ahead.ensures.reads in
    ok_always c.take.result
    (first_longer keys (outside old).anchor (outside old) (outside then) (outside new)
    (first_longer keys (outside old).anchor (outside old) (outside mid) (outside then) (c.in-Ok.ensures.accepted t)
    (c.look_ahead.ensures.reads.grows (tells_then outside states old mid c.read_log.ensures.reads t)))
    (c.take.ensures.unwritten.grows (tells_then outside states old then both t)))

pub returns-in-Ok-None-clause-accepted : goal.returns-in-Ok-None-clause-accepted
returns-in-Ok-None-clause-accepted g c t =
    let outside = g.P.Platform.outside in
    let states = g.P.Platform.crash_states in
    let old = c.args.platform.now in
    let mid = c.read_log.new.platform in
    first_longer c.args.keys.now (outside old).anchor (outside old) (outside mid) (outside c.look_ahead.new.platform)
    (c.in-Ok.ensures.accepted t)
    (c.look_ahead.ensures.reads.grows (tells_then outside states old mid c.read_log.ensures.reads t))
