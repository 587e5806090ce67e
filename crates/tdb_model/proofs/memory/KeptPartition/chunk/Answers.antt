use Rattle.std.proofs.Common.{◌≡◌, Some, None, sym, ap, ◌∙◌}
use Rattle.std.specs.BTreeMap as tree
use Rattle.std.specs.Option.{option_map, option_copied}
use Rattle.std.specs.Ordering.{nat_cmp}
use Rattle.tdb_model.specs.Memory.{chunk_bytes}
use Rattle.tdb_model.proofs.MemoryLemmas.{get_seen}
use Rattle.tdb_model.proofs.memory.KeptPartition.chunk.Goals as goal

pub returns-in-Some : goal.returns-in-Some
returns-in-Some c =
    let there : tree.get nat_cmp c.args.self.now.chunks c.args.rank ≡ Some c.in-Some.bytes.now = sym c.get.ensures.value ∙ ap option_copied c.in-Some.is in
    ap Some c.as_slice.ensures.value ∙ sym (get_seen chunk_bytes c.args.self.now.chunks c.args.rank ∙ ap (option_map chunk_bytes) there)

pub returns-in-None : goal.returns-in-None
returns-in-None c =
    let there : tree.get nat_cmp c.args.self.now.chunks c.args.rank ≡ None = sym c.get.ensures.value ∙ ap option_copied c.in-None.is in
    sym (get_seen chunk_bytes c.args.self.now.chunks c.args.rank ∙ ap (option_map chunk_bytes) there)
