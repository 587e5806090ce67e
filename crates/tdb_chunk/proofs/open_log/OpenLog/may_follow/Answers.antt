use Rattle.std.proofs.Common.{◌∙◌, Err, Result, ℕ, arith, ap}
use Rattle.tdb_append.specs.declared.head.HeadError.{HeadError}
use Rattle.tdb_model.specs.declared.error.CommitError.{CommitError}
use Rattle.tdb_model.specs.declared.error.CommitError.TheVariants as refusals
use Rattle.tdb_overlay.specs.StoreState.{StoreState}
use Rattle.tdb_chunk.proofs.Committing.{counter_end, few_pass, ring_full, too_many}
use Rattle.tdb_chunk.proofs.open_log.OpenLog.may_follow.Goals as goal

pub returns-then-number-gt-CHANGE_LIMIT-clause-refused : goal.returns-then-number-gt-CHANGE_LIMIT-clause-refused
returns-then-number-gt-CHANGE_LIMIT-clause-refused c store last changes number count base passes =
    too_many store last changes (omega (arith, number, c.if-number-gt-CHANGE_LIMIT.true)) ∙ ap (λ (n : ℕ). let r : Result StoreState CommitError = Err (refusals.TooManyChanges n) in r) number

pub returns-in-Err-RingFull-clause-refused : goal.returns-in-Err-RingFull-clause-refused
returns-in-Err-RingFull-clause-refused c store last changes number count base passes =
    let full = c.may_commit.ensures.ring_full.0 (c.in-Err-RingFull.is ∙ ap (λ (e : HeadError). Err e) c.in-Err-RingFull.field-0-is) in
    ring_full store last changes (few_pass last changes (omega (arith, number, c.if-number-gt-CHANGE_LIMIT.false)) passes) (omega (arith, count, base, full))

pub returns-in-Err-CounterEnd-clause-refused : goal.returns-in-Err-CounterEnd-clause-refused
returns-in-Err-CounterEnd-clause-refused c store last changes number count base passes =
    let end = c.may_commit.ensures.counter_end.0 (c.in-Err-CounterEnd.is ∙ ap (λ (e : HeadError). Err e) c.in-Err-CounterEnd.field-0-is) in
    counter_end store last changes (few_pass last changes (omega (arith, number, c.if-number-gt-CHANGE_LIMIT.false)) passes) (λ full. end.1 (omega (arith, count, base, full))) (count ∙ end.0)
