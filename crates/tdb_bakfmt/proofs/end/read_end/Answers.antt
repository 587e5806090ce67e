use Rattle.std.proofs.Common.{◌≡◌, ◌++◌, ℕ, List, take, drop, length-drop, ap, sym, ◌∙◌, arith}
use Rattle.std.specs.Int.{w32, to_be_bytes}
use Rattle.std.proofs.lemmas.List.{take_all, take-append-drop}
use Rattle.tdb_bakfmt.proofs.EndSpelling.{number_in_front}
use Rattle.tdb_bakfmt.proofs.end.read_end.Goals as goal

pub returns-clause-found : goal.returns-clause-found
returns-clause-found c =
    let bytes : List ℕ = c.args.bytes.now in
    let number : to_be_bytes w32 3 ≡ take 4 bytes = number_in_front bytes 3 (omega arith) (λ k. omega (arith, c.type_inv.bytes k)) (sym c.if-u32_at-ne-END.false ∙ c.u32_at.ensures) in
    sym (take-append-drop 4 bytes) ∙ (λ i. sym number i ++ drop 4 bytes)
    ∙ ap (λ (l : List ℕ). to_be_bytes w32 3 ++ l) (sym (take_all 32 (drop 4 bytes) (omega (arith, length-drop 4 bytes))) ∙ sym c.bytes32_at.ensures)
