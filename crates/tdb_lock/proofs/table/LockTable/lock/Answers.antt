use Rattle.std.proofs.Common.{◌≡◌, ◌||◌, Bool, false, unwrap_or, ap, sym, ◌∙◌}
use Rattle.std.specs.FinMap.{get, insert}
use Rattle.tdb_lock.specs.HeldLocks.{HeldLocks, lock_of}
use Rattle.tdb_lock.proofs.Granting.{Claim, get_locks, granted}
use Rattle.tdb_lock.proofs.table.LockTable.lock.Goals as goal
use Rattle.tdb_lock.proofs.table.LockTable.lock.Goals.{in-Ok, in-Err, then-exclusive, else-exclusive}

pub returns-clause-answer : goal.returns-clause-answer
returns-clause-answer c =
    let claim : Claim = (c.args.id, c.args.tx) in
    elim c.match-insert.branch [
      | in-Ok w ↦ rw w.result-is c.in_default.ensures
      | in-Err w ↦ rw w.result-is (
        c.in_default.ensures,
        ap (λ (locks : HeldLocks). get locks claim) (sym c.self.view_is) ∙ get_locks c.self.inside.exclusive_by_claim claim ∙ w.in-Err.ensures.absent,
      )
    ]

pub returns-clause-ok : goal.returns-clause-ok
returns-clause-ok c =
    let claim : Claim = (c.args.id, c.args.tx) in
    let before = unwrap_or (lock_of c.args.self.now c.args.tx c.args.id) false in
    let kind : c.if-exclusive.insert ≡ (c.args.exclusive || before) = elim c.if-exclusive.branch [
      | then-exclusive w ↦ w.insert-is ∙ w.if-exclusive.true ∙ sym (ap (λ (b : Bool). b || before) w.if-exclusive.true)
      | else-exclusive w ↦ w.insert-is ∙ c.holds_exclusively-stays_exclusive.ensures ∙ sym (ap (λ (b : Bool). b || before) w.if-exclusive.false)
    ] in
    elim c.match-insert.branch [
      | in-Ok w ↦ rw w.result-is (
          granted c.self.inside.exclusive_by_claim c.insert.new.self claim c.if-exclusive.insert w.in-Ok.ensures.updates
          ∙ ap (λ (locks : HeldLocks). insert locks claim c.if-exclusive.insert) c.self.view_is
          ∙ ap (insert c.args.self.now claim) kind
          )
      | in-Err w ↦ rw w.result-is tt
    ]
