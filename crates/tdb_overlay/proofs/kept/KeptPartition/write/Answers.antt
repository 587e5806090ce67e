use Rattle.std.proofs.Common.{◌≡◌, ◌+◌, Some, max, rules}
use Rattle.std.specs.FinMap.{insert}
use Rattle.tdb_model.specs.Memory.{seen_as}
use Rattle.tdb_model.proofs.MemoryLemmas.{seen_inserted}
use Rattle.tdb_overlay.proofs.kept.KeptPartition.write.Goals as goal

pub returns-clause-ok : goal.returns-clause-ok
returns-clause-ok c =
    let old = c.args.self.now in
    let next : c.max-self.result ≡ max old.leader.next (c.args.rank + 1) = search rules in
    let edits : seen_as (λ piece. piece) c.insert.new.self ≡ insert (seen_as (λ piece. piece) old.edits) c.args.rank (Some c.args.piece) =
    seen_inserted (λ piece. piece) old.edits c.insert.new.self c.args.rank (Some c.args.piece) c.in_ok-insert.ensures.updates in
    λ i. record { suite = old.leader.suite; home = old.leader.home; birth = old.leader.birth; next = next i; parent = old.leader.parent; born = old.leader.born; root = old.leader.root; edits = edits i }
