use Rattle.std.proofs.Common.{ℕ, ◌+◌, ◌∙◌, arith}
use Rattle.tdb_base.proofs.FieldLemmas.{drop_alike}
use Rattle.tdb_base.proofs.piece_fields.put_entry.Goals as goal

pub returns-in-Some-clause-behind : goal.returns-in-Some-clause-behind
returns-in-Some-clause-behind c =
    let end : ℕ = c.args.at + 48 in
    drop_alike (c.args.at + 4 + 44) end _ _ (omega arith) c.put_piece.ensures.behind
    ∙ drop_alike (c.args.at + 4) end _ _ (omega arith) c.put_u32.ensures.behind
