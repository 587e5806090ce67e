use Rattle.std.proofs.Common.{inl, inr}
use Rattle.tdb_mark.proofs.laws.read_piece_was_written.Goals as goal

pub returns : goal.returns
returns c trace grammar piece given unforged written read same = unforged.no_collision piece given (inl written) (inr read) same
