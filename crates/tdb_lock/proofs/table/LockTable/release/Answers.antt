use Rattle.std.proofs.Common.{◌==◌, not, ap, ◌∙◌, rules}
use Rattle.std.proofs.lemmas.Map.Made.{filter_same_pairs}
use Rattle.tdb_lock.specs.HeldLocks.{HeldLocks, without_locks_of}
use Rattle.tdb_lock.proofs.Granting.{released}
use Rattle.tdb_lock.proofs.table.LockTable.release.Goals as goal

pub returns : goal.returns
returns c =
    let before = c.self.inside.exclusive_by_claim in
    released before c.retain.new.self c.args.tx (filter_same_pairs _ (λ e. not (e.0.1.0 == c.args.tx.0)) _ (λ k v b w f' t. search rules) before.entries _ c.retain.ensures.filtered)
    ∙ ap (λ (locks : HeldLocks). without_locks_of c.args.tx locks) c.self.view_is
