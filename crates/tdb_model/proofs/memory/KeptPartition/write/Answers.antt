use Rattle.std.proofs.Common.{◌≡◌, ◌+◌, max, rules}
use Rattle.std.specs.FinMap.{insert}
use Rattle.tdb_model.specs.Memory.{seen_as, chunk_bytes}
use Rattle.tdb_model.proofs.MemoryLemmas.{seen_inserted}
use Rattle.tdb_model.proofs.memory.KeptPartition.write.Goals as goal

pub returns-clause-ok : goal.returns-clause-ok
returns-clause-ok c =
    let old = c.args.self.now in
    let next : c.max-self.result ≡ max old.next (c.args.rank + 1) = search rules in
    let chunks : seen_as chunk_bytes c.insert.new.self ≡ insert (seen_as chunk_bytes old.chunks) c.args.rank c.args.bytes.items =
    seen_inserted chunk_bytes old.chunks c.insert.new.self c.args.rank c.args.bytes c.in_ok-insert.ensures.updates in
    λ i. record { suite = old.suite; home = old.home; birth = old.birth; next = next i; parent = old.parent; born = old.born; chunks = chunks i }
