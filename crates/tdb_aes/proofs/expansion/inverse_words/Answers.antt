use Rattle.std.proofs.Common.{◌≡◌, ◌*◌, ◌∙◌, arith, rules}
use Rattle.std.proofs.lemmas.List.{length-set}
use Rattle.tdb_aes.proofs.ScheduleLaws.{inverse_below_all, inverse_below_more, inverse_below_none}
use Rattle.tdb_aes.proofs.expansion.inverse_words.Goals as goal

pub loop-i-init : goal.loop-i-init
loop-i-init c = (search rules, inverse_below_none _)

pub loop-i-preserved : goal.loop-i-preserved
loop-i-preserved c = (
  length-set c.loop-i.inverse c.loop-i.i c.inverse_mixed.result ∙ c.loop-i.invariant.0,
  inverse_below_more c.args.words.now c.loop-i.inverse c.loop-i.i _ c.loop-i.auto.i (omega arith) c.loop-i.invariant.1 c.inverse_mixed.ensures,
)

pub returns : goal.returns
returns c =
    let end : c.loop-i.i ≡ 4 * c.args.rounds = omega (arith, c.loop-i.auto.i-end (omega arith)) in
    inverse_below_all c.args.words.now c.loop-i.inverse c.args.rounds c.loop-i.i end c.requires.some c.loop-i.invariant.1
