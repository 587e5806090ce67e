use Rattle.std.proofs.Common.{length, refl, sym}
use Rattle.tdb_chunk.specs.Known.{store_of}
use Rattle.tdb_chunk.proofs.Committing.{too_many}
use Rattle.tdb_parts.specs.BareState.{bare_state}
use Rattle.tdb_chunk.proofs.Prepared.{check_refused, check_refuses, known_passes, refused_for}
use Rattle.tdb_chunk.proofs.Rightly.{check_right}
use Rattle.tdb_chunk.proofs.open_log.OpenLog.may_commit_all.Goals as goal

pub returns-then-changes-gt-CHANGE_LIMIT-clause-refused : goal.returns-then-changes-gt-CHANGE_LIMIT-clause-refused
returns-then-changes-gt-CHANGE_LIMIT-clause-refused c o last known = too_many (store_of c.args.self.now) last c.args.changes.now c.if-changes-gt-CHANGE_LIMIT.true

pub returns-in-Ok-clause-refused : goal.returns-in-Ok-clause-refused
returns-in-Ok-clause-refused c =
    let was = c.args.self.now in
    let changes = c.args.changes.now in
    refused_for was changes c.may_follow.result
    (λ o last known. c.may_follow.ensures.refused (store_of was) last changes refl (sym known.count) (sym known.base) (known_passes o was changes last known (sym c.in-Ok.ensures.bare)))

pub returns-in-Err-clause-refusal : goal.returns-in-Err-clause-refusal
returns-in-Err-clause-refusal c = check_refuses (bare_state c.args.self.now.log.overlay) c.args.changes.now c.in-Err.refusal (sym c.in-Err.ensures.bare)

pub returns-in-Err-clause-refused : goal.returns-in-Err-clause-refused
returns-in-Err-clause-refused c o last known = check_refused o c.args.self.now c.args.changes.now last known c.in-Err.refusal c.if-changes-gt-CHANGE_LIMIT.false (sym c.in-Err.ensures.bare)

pub returns-in-Err-clause-right : goal.returns-in-Err-clause-right
returns-in-Err-clause-right c = check_right (length c.args.changes.now) c.args.self.now.log.head.count (bare_state c.args.self.now.log.overlay) c.args.changes.now c.in-Err.refusal (sym c.in-Err.ensures.bare)
