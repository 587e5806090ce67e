use Rattle.std.proofs.Common.{◌≡◌}
use Rattle.std.specs.FinMap as map
use Rattle.tdb_model.specs.Memory.{seen_as, chunk_bytes}
use Rattle.tdb_model.proofs.MemoryLemmas.{seen_removed}
use Rattle.tdb_model.proofs.memory.KeptPartition.free.Goals as goal

pub returns : goal.returns
returns c =
    let old = c.args.self.now in
    let chunks : seen_as chunk_bytes c.remove-freed.new.self ≡ map.remove (seen_as chunk_bytes old.chunks) c.args.rank =
    seen_removed chunk_bytes old.chunks c.remove-freed.new.self c.args.rank c.remove-freed.ensures.updates in
    λ i. record { suite = old.suite; home = old.home; birth = old.birth; next = old.next; parent = old.parent; born = old.born; chunks = chunks i }
