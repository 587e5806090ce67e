use Rattle.std.proofs.Common.{refl, ap, ◌∙◌}
use Rattle.tdb_model.specs.Check.{check_commit}
use Rattle.tdb_model.specs.InMemory.{InMemory}
use Rattle.tdb_model.proofs.RefusalLemmas.{refused_in_memory}
use Rattle.tdb_model.proofs.memory_chunks.MemoryChunksChunks.commit.Goals as goal

pub returns-in-Err : goal.returns-in-Err
returns-in-Err c = record {
  committed = refused_in_memory c.args.changes.now c.args.self.now c.in-Err.refusal
      (c.in-Err.ensures.answer ∙ ap (λ (s : InMemory). check_commit s.state c.args.changes.now) c.self.view_is);
  next = tt;
  refused = refl;
}
