use Rattle.std.proofs.Common.{◌∙◌, arith}
use Rattle.std.proofs.lemmas.List.{take_at}
use Rattle.tdb_platform.proofs.Overwriting.{put_is_written_over}
use Rattle.tdb_platform.proofs.image.write_over.Goals as goal

pub returns-clause-ok : goal.returns-clause-ok
returns-clause-ok c =
    take_at _ _ _ (omega arith)
    ∙ c.put.ensures
    ∙ put_is_written_over c.args.gap c.args.image.now.items c.deref_mut.result.now c.args.at c.max.result _ c.args.piece.now (omega arith) (omega arith) (c.deref_mut.ensures.value ∙ c.in_ok-resize.ensures.items)
