use Rattle.std.proofs.Common.{ℕ, List, ◌++◌, ap, ◌∙◌, append_assoc}
use Rattle.std.specs.Int.{w32, w64, to_be_bytes}
use Rattle.tdb_node.proofs.entry.push_piece.Goals as goal

pub returns-clause-spelled : goal.returns-clause-spelled
returns-clause-spelled c =
    let p = c.args.piece.now in
    let size = to_be_bytes w32 p.length in
    let place = to_be_bytes w64 p.place.0 in
    c.in_ok-push_bytes.ensures.items
    ∙ ap (λ (l : List ℕ). l ++ p.digest.0) (c.in_ok-push_u64.ensures.items ∙ ap (λ (l : List ℕ). l ++ place) c.in_ok-push_u32.ensures.items)
    ∙ append_assoc (c.args.bytes.now.items ++ size) place p.digest.0
    ∙ append_assoc c.args.bytes.now.items size (place ++ p.digest.0)
