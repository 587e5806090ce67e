use Rattle.tdb_append.specs.Placed.{placed}
use Rattle.tdb_base.specs.declared.piece.Piece.{Piece}
use Rattle.tdb_chunk.proofs.Committing.{next_is}
use Rattle.tdb_chunk.proofs.open_log.OpenLog.lay_list.Goals as goal

pub returns-clause-next : goal.returns-clause-next
returns-clause-next c =
    let first : Piece = c.in_ok-first.first in
    let lay = c.in_ok-first.ensures in
    let was = c.args.self.now in
    next_is was c.args.keep c.args.entries.now (placed c.args.batch.pieces.items) c.args.batch.segments c.in_ok-list.list.items first _ c.lay.new.self.segments c.segments.result c.segments.ensures
    c.in_ok-list.ensures.size lay.size lay.digest c.in_ok-list.ensures.sealed lay.place lay.pieces c.requires.laid_out c.requires.counts_on c.requires.list (lay.laid_out was.keys was.log.segments c.in_ok-list.ensures.is_record c.requires.laid_out)
