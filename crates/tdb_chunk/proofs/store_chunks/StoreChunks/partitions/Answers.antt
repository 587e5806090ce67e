use Rattle.std.proofs.Common.{◌∙◌}
use Rattle.std.proofs.lemmas.Result.{IfOk-weaker}
use Rattle.tdb_chunk.proofs.StoreReads.{infos_as}
use Rattle.tdb_chunk.proofs.store_chunks.StoreChunks.partitions.Goals as goal

pub returns : goal.returns
returns g c = record {
  listed = λ told s at. IfOk-weaker c.infos.result _ _
      (λ infos is. is ∙ infos_as g.P.Platform.outside c.args.self.now _ c.self.view_is s at) c.infos.ensures;
}
