use Rattle.std.proofs.Common.{ℕ, ◌+◌, ◌*◌, ◌≤◌, get_or, sym, ap, ◌∙◌, arith}
use Rattle.std.specs.Prelude.{count_ones}
use Rattle.std.proofs.lemmas.Nat.{ones-le}
use Rattle.tdb_seg.proofs.UsedWords.{ones_more, count_fits, counts-unused}
use Rattle.tdb_seg.proofs.used.count_unused.Goals as goal

pub overflow_add-used : goal.overflow_add-used
overflow_add-used c =
    let ones : count_ones (get_or c.args.table.now.used c.loop-word.word-index 0) ≤ 64 = ones-le 64 (get_or c.args.table.now.used c.loop-word.word-index 0) (c.requires.value.word c.loop-word.word-index) in
    let counted = count_fits c.args.table.now (64 * c.loop-word.word-index) in
    record { fits = omega (arith, ones, counted, c.requires.value.words, c.loop-word.invariant) }

pub loop-word-preserved : goal.loop-word-preserved
loop-word-preserved c =
    ap (λ (n : ℕ). n + count_ones (get_or c.args.table.now.used c.loop-word.word-index 0)) c.loop-word.invariant
    ∙ sym (ones_more c.args.table.now c.requires.value c.loop-word.word-index)

pub overflow_sub-result : goal.overflow_sub-result
overflow_sub-result c = (counts-unused c.args.table.now c.requires.value c.requires.table c.loop-word.used c.loop-word.word-index (omega (arith, c.requires.value.words)) (omega (arith, c.requires.value.words)) c.loop-word.invariant).within

pub returns : goal.returns
returns c = (counts-unused c.args.table.now c.requires.value c.requires.table c.loop-word.used c.loop-word.word-index (omega (arith, c.requires.value.words)) (omega (arith, c.requires.value.words)) c.loop-word.invariant).rest
