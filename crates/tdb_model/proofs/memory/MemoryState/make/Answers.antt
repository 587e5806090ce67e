use Rattle.tdb_model.specs.Apply.{made}
use Rattle.tdb_model.proofs.StateLemmas.{put, new_chunks}
use Rattle.tdb_model.proofs.memory.MemoryState.make.Goals as goal

pub returns-clause-ok : goal.returns-clause-ok
returns-clause-ok c =
    let a = c.args in
    put c.self.inside.partitions c.insert.new.self a.self.now a.part
    (record { suite = a.suite; home = a.part; birth = a.count; next = 0; parent = 0; born = a.count; chunks = c.new.result })
    (made a.count a.part a.suite) c.self.view_is c.in_ok-insert.ensures.updates
    (λ i. record { suite = a.suite; home = a.part; birth = a.count; next = 0; parent = 0; born = a.count; chunks = new_chunks c.new.result c.new.ensures.empty i })
