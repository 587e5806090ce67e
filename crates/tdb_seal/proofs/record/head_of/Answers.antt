use Rattle.std.proofs.Common.{◌++◌, ℕ, List, ap, sym, ◌∙◌, arith}
use Rattle.std.specs.Prelude.{codes}
use Rattle.std.specs.Int.{w32, to_be_bytes}
use Rattle.std.proofs.lemmas.List.{take_all}
use Rattle.tdb_seal.specs.SealedRecord.{record_head}
use Rattle.tdb_seal.proofs.record.head_of.Goals as goal

pub returns : goal.returns
unfolding record_head
returns c =
    let name = c.args.name.now in
    sym (take_all 32 c.put_u32-6.new.text (omega arith))
    ∙ c.put_u32-6.ensures.front
    ∙ ap (λ (l : List ℕ). l ++ to_be_bytes w32 c.args.body_length) (c.put_u32-5.ensures.front
    ∙ ap (λ (l : List ℕ). l ++ to_be_bytes w32 c.args.plain_length) (c.put_u32-4.ensures.front
    ∙ ap (λ (l : List ℕ). l ++ to_be_bytes w32 name.rank) (c.put_u32-3.ensures.front
    ∙ ap (λ (l : List ℕ). l ++ to_be_bytes w32 name.home) (c.put_u32-2.ensures.front
    ∙ ap (λ (l : List ℕ). l ++ to_be_bytes w32 c.number.result) (c.put_u32.ensures.front
    ∙ ap (λ (l : List ℕ). l ++ to_be_bytes w32 name.kind) c.put_bytes.ensures.front)
    ∙ ap (λ (n : ℕ). codes "TDBREC01" ++ to_be_bytes w32 name.kind ++ to_be_bytes w32 n) c.number.ensures))))
