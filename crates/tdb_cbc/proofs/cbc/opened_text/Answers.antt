use Rattle.std.proofs.Common.{◌≡◌, ap, ◌++◌, ◌∙◌, arith}
use Rattle.tdb_cbc.specs.Blocks.{joined}
use Rattle.tdb_cbc.specs.Cbc.{plain_block}
use Rattle.tdb_cbc.proofs.CbcLaws.{joined_more}
use Rattle.tdb_cbc.proofs.cbc.opened_text.Goals as goal

pub loop-j-init : goal.loop-j-init
unfolding joined
loop-j-init c = c.in_ok-plain.ensures.items

pub loop-j-preserved : goal.loop-j-preserved
loop-j-preserved c =
    c.in_ok-extend_from_slice.ensures.items
    ∙ joined_more (plain_block c.args.schedule.now c.args.iv.now c.args.bytes.now) c.loop-j.j c.loop-j.plain.items c.opened_block.result
    c.loop-j.invariant c.opened_block.ensures

pub returns : goal.returns
returns c =
    let end : c.loop-j.j ≡ c.args.count = omega arith in
    c.in_ok-extend_from_slice-2.ensures.items
    ∙ ap (λ l. l ++ c.args.rest.now) (c.loop-j.invariant ∙ ap (joined (plain_block c.args.schedule.now c.args.iv.now c.args.bytes.now)) end)
