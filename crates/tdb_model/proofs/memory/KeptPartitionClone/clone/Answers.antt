use Rattle.std.proofs.Common.{◌≡◌}
use Rattle.tdb_model.specs.Memory.{seen_as, chunk_bytes}
use Rattle.tdb_model.proofs.StateLemmas.{cloned_chunks}
use Rattle.tdb_model.proofs.memory.KeptPartitionClone.clone.Goals as goal

pub returns : goal.returns
returns c =
    let old = c.args.self.now in
    let chunks : seen_as chunk_bytes c.in_ok-clone.field-0 ≡ seen_as chunk_bytes old.chunks =
    cloned_chunks old.chunks c.in_ok-clone.field-0 c.in_ok-clone.ensures.cases in
    record {
      cases =
          λ i. record {
            suite = old.suite;
            home = old.home;
            birth = old.birth;
            next = old.next;
            parent = old.parent;
            born = old.born;
            chunks =
                chunks i;
          };
    }
