use Rattle.std.proofs.Common.{arith, refl}
use Rattle.std.proofs.lemmas.Bool.{false≢true}
use Rattle.tdb_overlay.proofs.ReadingLaws.{reads_settled}
use Rattle.tdb_recover.specs.declared.ahead.Pending.{Pending}
use Rattle.tdb_recover.proofs.AheadSlot.{ahead_full, ahead_passed, ahead_shown, ahead_stopped}
use Rattle.tdb_recover.proofs.Counted.{most_as, most_none, most_then}
use Rattle.tdb_recover.proofs.ahead.look_ahead.Goals as goal

pub returns-then-not-may_follow : goal.returns-then-not-may_follow
returns-then-not-may_follow g c =
    let outside = g.P.Platform.outside in
    let states = g.P.Platform.crash_states in
    let s = ahead_full outside states g.met.P.Platform.counts c.args.keys.now c.args.log.now c.args.platform.now
    (λ may. false≢true (c.if-not-may_follow.ensures.1 may)) in
    record {
      reads = s.1.only;
      settled = λ at. at;
      asks = s;
      most = most_none 1026 (outside c.args.platform.now) (outside c.args.platform.now) (λ t. refl);
      none = λ full. most_none 0 (outside c.args.platform.now) (outside c.args.platform.now) (λ t. refl);
    }

pub returns-in-Ok-None-ask_list : goal.returns-in-Ok-None-ask_list
returns-in-Ok-None-ask_list g c =
    let outside = g.P.Platform.outside in
    let states = g.P.Platform.crash_states in
    let counts = g.met.P.Platform.counts in
    let old = c.args.platform.now in
    let new = c.ask_list.new.platform in
    let may = c.may_follow.ensures.0 c.if-not-may_follow.false in
    let member = c.in-Ok-Some.member in
    let later = rw c.in-Ok-None-ask_list.field-0-is at c.in-Ok-None-ask_list.ensures.asks in
    let s = ahead_passed outside states counts c.args.keys.now c.args.log.now old c.find_member.new.platform new
    c.in-Ok-Some.field-0 member may c.in-Ok-Some.field-0-is c.in-Ok-Some.ensures.asks later in
    record {
      reads = s.1.only;
      settled = reads_settled outside states counts old new s.1.only;
      asks = s;
      most = most_then outside states 1 1025 1026 old c.find_member.new.platform new (omega arith) c.in-Ok-Some.ensures.asks.1.only
          later.1.only c.find_member.ensures.most c.ask_list.ensures.most;
      none = λ full. absurd (full (c.may_follow.ensures.0 c.if-not-may_follow.false));
    }

pub returns-in-Ok-Some-ask_list : goal.returns-in-Ok-Some-ask_list
returns-in-Ok-Some-ask_list g c =
    let outside = g.P.Platform.outside in
    let states = g.P.Platform.crash_states in
    let counts = g.met.P.Platform.counts in
    let old = c.args.platform.now in
    let new = c.ask_list.new.platform in
    let may = c.may_follow.ensures.0 c.if-not-may_follow.false in
    let member = c.in-Ok-Some.member in
    let given : Pending = record { commit = member.commit; mark = member.mark; entries = c.in-Ok-Some-ask_list.entries } in
    let later = rw c.in-Ok-Some-ask_list.field-0-is at c.in-Ok-Some-ask_list.ensures.asks in
    let s = ahead_shown outside states counts c.args.keys.now c.args.log.now old c.find_member.new.platform new
    c.in-Ok-Some.field-0 member given may c.in-Ok-Some.field-0-is refl refl c.in-Ok-Some.ensures.asks later in
    record {
      reads = s.1.only;
      settled = reads_settled outside states counts old new s.1.only;
      asks = s;
      most = most_then outside states 1 1025 1026 old c.find_member.new.platform new (omega arith) c.in-Ok-Some.ensures.asks.1.only
          later.1.only c.find_member.ensures.most c.ask_list.ensures.most;
      none = λ full. absurd (full (c.may_follow.ensures.0 c.if-not-may_follow.false));
    }

pub returns-in-Err-ask_list : goal.returns-in-Err-ask_list
returns-in-Err-ask_list g c =
    let outside = g.P.Platform.outside in
    let states = g.P.Platform.crash_states in
    let counts = g.met.P.Platform.counts in
    let old = c.args.platform.now in
    let new = c.ask_list.new.platform in
    let s = ahead_stopped outside states counts c.args.keys.now c.args.log.now old c.find_member.new.platform new
    c.in-Ok-Some.field-0 c.in-Err-ask_list.error c.in-Ok-Some.ensures.asks c.in-Err-ask_list.ensures.asks in
    record {
      reads = s.only;
      settled = reads_settled outside states counts old new s.only;
      asks = s;
      most = most_then outside states 1 1025 1026 old c.find_member.new.platform new (omega arith) c.in-Ok-Some.ensures.asks.1.only
          c.in-Err-ask_list.ensures.asks.only c.find_member.ensures.most c.ask_list.ensures.most;
      none = λ full. absurd (full (c.may_follow.ensures.0 c.if-not-may_follow.false));
    }

pub returns-in-Err-clause-most : goal.returns-in-Err-clause-most
returns-in-Err-clause-most g c =
    most_as 1 1026 (g.P.Platform.outside c.args.platform.now) (g.P.Platform.outside c.find_member.new.platform) (omega arith)
    c.find_member.ensures.most

pub returns-in-Err-clause-none : goal.returns-in-Err-clause-none
returns-in-Err-clause-none g c full = absurd (full (c.may_follow.ensures.0 c.if-not-may_follow.false))

pub returns-in-Ok-None-clause-most : goal.returns-in-Ok-None-clause-most
returns-in-Ok-None-clause-most g c =
    most_as 1 1026 (g.P.Platform.outside c.args.platform.now) (g.P.Platform.outside c.find_member.new.platform) (omega arith)
    c.find_member.ensures.most

pub returns-in-Ok-None-clause-none : goal.returns-in-Ok-None-clause-none
returns-in-Ok-None-clause-none g c full = absurd (full (c.may_follow.ensures.0 c.if-not-may_follow.false))
