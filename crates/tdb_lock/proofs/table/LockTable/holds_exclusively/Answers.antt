use Rattle.std.proofs.Common.{◌≡◌, Bool, false, Option, Some, None, unwrap_or, ap, sym, ◌∙◌}
use Rattle.std.specs.FinMap.{get}
use Rattle.tdb_lock.specs.HeldLocks.{HeldLocks}
use Rattle.tdb_lock.proofs.Granting.{Claim, get_locks}
use Rattle.tdb_lock.proofs.table.LockTable.holds_exclusively.Goals as goal

pub returns-in-Some : goal.returns-in-Some
returns-in-Some c =
    let claim : Claim = (c.args.id, c.args.tx) in
    let found : get c.args.self.now claim ≡ Some c.in-Some.exclusive.now =
    ap (λ (locks : HeldLocks). get locks claim) (sym c.self.view_is) ∙ get_locks c.self.inside.exclusive_by_claim claim ∙ sym c.in-Some.ensures.value in
    ap (λ (o : Option Bool). unwrap_or o false) (sym found)

pub returns-in-None : goal.returns-in-None
returns-in-None c =
    let claim : Claim = (c.args.id, c.args.tx) in
    let found : ◌≡◌ {A = Option Bool} (get c.args.self.now claim) None =
    ap (λ (locks : HeldLocks). get locks claim) (sym c.self.view_is) ∙ get_locks c.self.inside.exclusive_by_claim claim ∙ sym c.in-None.ensures.value in
    ap (λ (o : Option Bool). unwrap_or o false) (sym found)
