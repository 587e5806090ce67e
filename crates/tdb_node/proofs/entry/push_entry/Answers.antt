use Rattle.std.proofs.Common.{ℕ, List, ◌++◌, Option, sym, ap, ◌∙◌, append_assoc}
use Rattle.std.specs.Int.{w32, to_be_bytes}
use Rattle.tdb_base.specs.declared.piece.Piece.{Piece}
use Rattle.tdb_base.specs.PieceBytes.{piece_bytes, entry_bytes}
use Rattle.tdb_node.proofs.entry.push_entry.Goals as goal

pub returns-in_ok-push_piece-in-Some-clause-spelled : goal.returns-in_ok-push_piece-in-Some-clause-spelled
returns-in_ok-push_piece-in-Some-clause-spelled c =
    c.in_ok-push_piece-in-Some.ensures.spelled
    ∙ ap (λ (l : List ℕ). l ++ piece_bytes c.in-Some.piece) c.in_ok-push_u32-in-Some.ensures.items
    ∙ append_assoc c.args.bytes.now.items (to_be_bytes w32 1) (piece_bytes c.in-Some.piece)
    ∙ ap (λ (o : Option Piece). c.args.bytes.now.items ++ entry_bytes o) (sym c.in-Some.is)
