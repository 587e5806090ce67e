use Rattle.std.proofs.Common.{ℕ, ◌+◌, ◌*◌, ◌^◌, ◌<◌, ◌≤◌, nat_lt, List, get_or, sym, ap, ◌∙◌, arith}
use Rattle.std.specs.Prelude.{slice_get}
use Rattle.std.specs.Bool.{then_some}
use Rattle.std.specs.Int.{w64, trailing_ones}
use Rattle.tdb_seg.proofs.UsedWords.{all_used_more, least_zero, least-unused, unused-none}
use Rattle.tdb_seg.proofs.used.least_unused.Goals as goal

pub returns-then-word : goal.returns-then-word
returns-then-word c =
    let word : ℕ = get_or c.args.table.now.used c.loop-index.index 0 in
    let some : word + 1 < 2 ^ 64 = omega (arith, c.requires.value.word c.loop-index.index, c.if-word.true) in
    c.then_some.ensures
    ∙ ap (λ (i : ℕ). then_some (nat_lt (64 * c.loop-index.index + i) c.args.table.now.segments) (64 * c.loop-index.index + i)) c.trailing_ones.ensures
    ∙ least-unused c.args.table.now (64 * c.loop-index.index + trailing_ones w64 word) (least_zero c.args.table.now c.requires.value c.loop-index.index c.loop-index.invariant some)

pub loop-index-preserved : goal.loop-index-preserved
loop-index-preserved c = all_used_more c.args.table.now c.requires.value c.loop-index.index c.loop-index.invariant c.if-word.false

pub returns : goal.returns
returns c =
    let all : c.args.table.now.segments ≤ 64 * c.loop-index.index = omega (arith, c.requires.table.most) in
    sym (ap (λ (ks : List ℕ). slice_get ks 0) (unused-none c.args.table.now (64 * c.loop-index.index) c.loop-index.invariant all))
