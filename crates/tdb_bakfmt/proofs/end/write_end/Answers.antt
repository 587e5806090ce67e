use Rattle.std.proofs.Common.{◌++◌, ℕ, List, ap, sym, ◌∙◌, arith}
use Rattle.std.proofs.lemmas.List.{take_all}
use Rattle.tdb_bakfmt.proofs.end.write_end.Goals as goal

pub returns : goal.returns
returns c =
    sym (take_all 36 c.put_bytes32.new.text (omega arith)) ∙ c.put_bytes32.ensures.front ∙ ap (λ (l : List ℕ). l ++ c.args.tag.now.0) c.put_u32.ensures.front
