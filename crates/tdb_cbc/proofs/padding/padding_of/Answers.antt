use Rattle.std.proofs.Common.{◌≤◌, ◌-◌, sym, ◌∙◌, arith}
use Rattle.tdb_cbc.proofs.PaddingLaws.{ends_at, ends_from, ends_last}
use Rattle.tdb_cbc.proofs.padding.padding_of.Goals as goal

pub returns-then-length-eq0 : goal.returns-then-length-eq0
returns-then-length-eq0 c = λ n h.
    let last = ends_last c.args.block.now n h in
    let some = h.some in
    let within = h.within in
    omega arith

pub returns-then-block-i : goal.returns-then-block-i
returns-then-block-i c = λ n h.
    let last = ends_last c.args.block.now n h in
    let low : 16 - n ≤ c.loop-i.i = omega arith in
    c.if-block-i.true (ends_at c.args.block.now n c.loop-i.i h low c.loop-i-test.true ∙ sym last)

pub returns : goal.returns
returns c =
    ends_from c.args.block.now _ c.told-block (omega arith) (omega arith) (λ k low high. c.loop-i.invariant k low (omega arith))
