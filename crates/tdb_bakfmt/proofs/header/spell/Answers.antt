use Rattle.std.proofs.Common.{◌≡◌, ◌++◌, ℕ, List, take, ap, sym, ◌∙◌, arith}
use Rattle.std.specs.Int.{w32, w64, to_be_bytes}
use Rattle.std.proofs.lemmas.List.{take_all}
use Rattle.tdb_base.specs.SuiteNumber.{suite_number}
use Rattle.tdb_bakfmt.specs.Header.{header_bytes}
use Rattle.tdb_bakfmt.proofs.header.spell.Goals as goal

-- each field stands behind those before it
pub returns : goal.returns
unfolding header_bytes
returns c =
    let h = c.args.header.now in
    sym (take_all 48 c.put_u64-3.new.text (omega arith))
    ∙ c.put_u64-3.ensures.front ∙ ap (λ (l : List ℕ). l ++ to_be_bytes w64 0)
    (c.put_u64-2.ensures.front ∙ ap (λ (l : List ℕ). l ++ to_be_bytes w64 h.base_born)
    (c.put_u64.ensures.front ∙ ap (λ (l : List ℕ). l ++ to_be_bytes w64 h.born)
    (c.put_u32-4.ensures.front ∙ ap (λ (l : List ℕ). l ++ to_be_bytes w32 h.base_part)
    (c.put_u32-3.ensures.front ∙ ap (λ (l : List ℕ). l ++ to_be_bytes w32 h.part)
    (c.put_u32-2.ensures.front
    ∙ ap (λ (n : ℕ). take 12 c.put_u32.new.text ++ to_be_bytes w32 n) c.number.ensures
    ∙ ap (λ (l : List ℕ). l ++ to_be_bytes w32 (suite_number h.suite))
    (c.put_u32.ensures.front ∙ ap (λ (l : List ℕ). l ++ to_be_bytes w32 h.kind) c.put_bytes.ensures.front))))))
