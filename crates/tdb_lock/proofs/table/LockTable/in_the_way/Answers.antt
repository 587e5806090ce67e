use Rattle.std.proofs.Common.{◌≡◌, ◌||◌, Bool, true, sym, ◌∙◌, ap, rules}
use Rattle.tdb_lock.proofs.Conflicts.{first_barring, ends_past, ends_at, free_from, least_from}
use Rattle.tdb_lock.proofs.table.LockTable.in_the_way.Goals as goal
use Rattle.tdb_lock.proofs.table.LockTable.in_the_way.Goals.{then-exclusive, else-exclusive}

pub returns-then-ne : goal.returns-then-ne
returns-then-ne c =
    let a = c.args in
    free_from a.id a.tx a.exclusive a.self.now c.self.inside.exclusive_by_claim c.self.view_is c.range-claim-items.ensures.ordered (
    ap (first_barring a.id a.tx a.exclusive) (sym (c.range-claim-items.ensures.between (search rules)) ∙ sym c.into_iter-claim-iterator.ensures.into_iter_gives)
    ∙ sym c.loop-claim.invariant
    ∙ ap (first_barring a.id a.tx a.exclusive) c.in-Some.ensures.steps
    ∙ ends_past a.id a.tx a.exclusive (c.in-Some.claim.now, c.in-Some.held.now) _ (sym c.ne.ensures ∙ c.if-ne.true)
    )

pub returns-then-held : goal.returns-then-held
returns-then-held c =
    let a = c.args in
    let kind : (a.exclusive || c.in-Some.held.now) ≡ true = elim c.if-exclusive.branch [
      | then-exclusive w ↦ ap (λ (b : Bool). b || c.in-Some.held.now) w.if-exclusive.true
      | else-exclusive w ↦ ap (λ (b : Bool). b || c.in-Some.held.now) w.if-exclusive.false ∙ (sym w.value-is ∙ c.if-held.true)
    ] in
    least_from a.id a.tx a.exclusive a.self.now c.self.inside.exclusive_by_claim c.self.view_is c.range-claim-items.ensures.ordered c.in-Some.claim.now.1 (
    ap (first_barring a.id a.tx a.exclusive) (sym (c.range-claim-items.ensures.between (search rules)) ∙ sym c.into_iter-claim-iterator.ensures.into_iter_gives)
    ∙ sym c.loop-claim.invariant
    ∙ ap (first_barring a.id a.tx a.exclusive) c.in-Some.ensures.steps
    ∙ ends_at a.id a.tx a.exclusive (c.in-Some.claim.now, c.in-Some.held.now) _ (sym c.ne.ensures ∙ c.if-ne.false) (sym c.ne-in-loop-claim.ensures ∙ c.if-ne-2.true) kind
    )

pub returns : goal.returns
returns c =
    let a = c.args in
    free_from a.id a.tx a.exclusive a.self.now c.self.inside.exclusive_by_claim c.self.view_is c.range-claim-items.ensures.ordered (
    ap (first_barring a.id a.tx a.exclusive) (sym (c.range-claim-items.ensures.between (search rules)) ∙ sym c.into_iter-claim-iterator.ensures.into_iter_gives)
    ∙ sym c.loop-claim.invariant
    ∙ ap (first_barring a.id a.tx a.exclusive) c.in-None.ensures.steps.0
    )
