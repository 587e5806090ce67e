use Rattle.std.proofs.Common.{refl, sym, ◌∙◌, ap, arith}
use Rattle.tdb_chunk.specs.CommitFacts.{stops}
use Rattle.tdb_chunk.proofs.StoreCalls.{commit_stopped, committed_as, made, not_made, only_faults_stop}
use Rattle.tdb_chunk.proofs.store_chunks.StoreChunks.commit.Goals as goal

pub returns-then-self : goal.returns-then-self
returns-then-self g c = record {
  committed = commit_stopped g.P.Platform.outside g.P.Platform.crash_states g.met.P.Platform.counts g.met.P.Platform.numbered c.args.changes.now
      _ _ c.self.view_is c.if-self.true;
  refused = λ isnt. refl;
}

pub returns-in-Ok : goal.returns-in-Ok
returns-in-Ok g c = record {
  committed = committed_as g.P.Platform.outside g.P.Platform.crash_states g.met.P.Platform.counts g.met.P.Platform.numbered c.args.changes.now
      _ _ _ c.self.view_is
      (made g.P.Platform.outside g.P.Platform.crash_states c.args.changes.now c.self.inside.chain c.commit.new.self c.self.inside.platform
      c.commit.new.platform c.self.inside.stopped c.self.inside.stopped c.if-self.false c.self.invariant (omega (arith, c.count-count.ensures, c.count-count.type_inv)) tt c.in-Ok.ensures.commit
      c.if-self.false c.in-Ok.ensures.many);
  refused = tt;
}

pub returns-in-Err : goal.returns-in-Err
returns-in-Err g c = let facts = not_made g.P.Platform.outside g.P.Platform.crash_states c.args.changes.now c.self.inside.chain c.commit.new.self
    c.self.inside.platform c.commit.new.platform c.self.inside.stopped c.is_stop-self-inside.result c.if-self.false c.self.invariant (omega (arith, c.count-count.ensures, c.count-count.type_inv))
    c.in-Err.error c.in-Err.ensures.commit (λ isnt. c.is_stop-self-inside.ensures ∙ only_faults_stop c.in-Err.error isnt ∙ sym c.if-self.false)
    (λ is. c.is_stop-self-inside.ensures ∙ ap stops is) c.in-Err.ensures.right c.in-Err.ensures.many in record {
      committed = committed_as g.P.Platform.outside g.P.Platform.crash_states g.met.P.Platform.counts g.met.P.Platform.numbered c.args.changes.now
          _ _ _ c.self.view_is facts;
      refused = λ isnt. facts.kept isnt ∙ c.self.view_is;
    }
