use Rattle.std.proofs.Common.{◌≡◌, ℕ, ◌+◌, List, ◌++◌, take, sym, ◌∙◌, ap, append_assoc, arith}
use Rattle.std.specs.Int.{w32, w64, to_be_bytes}
use Rattle.tdb_base.proofs.FieldLemmas.{drop_alike}
use Rattle.tdb_base.proofs.piece_fields.put_piece.Goals as goal

pub returns-clause-front : goal.returns-clause-front
returns-clause-front c =
    let at : ℕ = c.args.at in
    let front : List ℕ = take at c.args.text.now in
    let size : List ℕ = to_be_bytes w32 c.args.piece.now.length in
    let place : List ℕ = to_be_bytes w64 c.args.piece.now.place.0 in
    let digest : List ℕ = c.args.piece.now.digest.0 in
    let whole : at + 44 ≡ (at + 12) + 32 = omega arith in
    let half : at + 12 ≡ (at + 4) + 8 = omega arith in
    ap (λ (n : ℕ). take n c.put_bytes32.new.text) whole ∙ c.put_bytes32.ensures.front
    ∙ ap (λ (l : List ℕ). l ++ digest) (ap (λ (n : ℕ). take n c.put_u64.new.text) half ∙ c.put_u64.ensures.front ∙ ap (λ (l : List ℕ). l ++ place) c.put_u32.ensures.front)
    ∙ append_assoc (front ++ size) place digest
    ∙ append_assoc front size (place ++ digest)
    ∙ ap (λ (l : List ℕ). front ++ l) (sym (append_assoc size place digest))

pub returns-clause-behind : goal.returns-clause-behind
returns-clause-behind c =
    let end : ℕ = c.args.at + 44 in
    drop_alike (c.args.at + 12 + 32) end _ _ (omega arith) c.put_bytes32.ensures.behind
    ∙ drop_alike (c.args.at + 4 + 8) end _ _ (omega arith) c.put_u64.ensures.behind
    ∙ drop_alike (c.args.at + 4) end _ _ (omega arith) c.put_u32.ensures.behind
