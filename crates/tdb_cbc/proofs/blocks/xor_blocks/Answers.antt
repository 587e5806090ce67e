use Rattle.std.proofs.Common.{◌≡◌, length, rules, arith}
use Rattle.tdb_cbc.proofs.BlockLaws.{xor_bytes-from}
use Rattle.tdb_cbc.proofs.blocks.xor_blocks.Goals as goal

pub returns : goal.returns
returns c =
    let long_a : length c.args.a ≡ 16 = search rules in
    let long_b : length c.args.b.now ≡ 16 = search rules in
    xor_bytes-from c.args.a c.args.b.now c.loop-i.a long_a long_b c.loop-i.invariant.long
    (λ k low. c.loop-i.invariant.done k (omega arith))
