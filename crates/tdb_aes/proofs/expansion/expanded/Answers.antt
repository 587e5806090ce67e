use Rattle.std.proofs.Common.{◌≡◌, ◌+◌, ◌-◌, ◌*◌, ◌∙◌, refl, arith}
use Rattle.std.proofs.lemmas.List.{length-set}
use Rattle.tdb_aes.specs.KeyExpansion.{key_words, round_count}
use Rattle.tdb_aes.proofs.ScheduleLaws.{key_word_more, next_word_more}
use Rattle.tdb_aes.proofs.expansion.expanded.Goals as goal

pub load-init : goal.load-init
load-init c = (refl, λ k h. absurd (omega arith))

pub load-preserved : goal.load-preserved
load-preserved c =
    let words : key_words c.args.key.now ≡ c.args.rounds - 6 = omega arith in (
      length-set c.load.words c.load.i c.from_be_bytes.result ∙ c.load.invariant.0,
      key_word_more c.args.key.now c.load.words c.load.i _ (omega arith) (omega arith) c.load.invariant.1 c.from_be_bytes.ensures,
    )

pub expand-init : goal.expand-init
expand-init c =
    let end : c.load.i ≡ c.args.rounds - 6 = omega arith in
    rw end at c.load.invariant

pub expand-preserved : goal.expand-preserved
expand-preserved c =
    let words : key_words c.args.key.now ≡ c.args.rounds - 6 = omega arith in (
      length-set c.expand.words c.expand.i c.next_word.result ∙ c.expand.invariant.0,
      next_word_more c.args.key.now c.expand.words c.expand.i _ (omega arith) (omega arith) (omega arith) c.expand.invariant.1
          (rw words c.next_word.ensures),
    )

pub returns : goal.returns
returns c =
    let end : c.expand.i ≡ 4 * (round_count c.args.key.now + 1) = omega arith in
    rw end at c.expand.invariant.1
