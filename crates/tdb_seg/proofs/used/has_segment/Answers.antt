use Rattle.std.proofs.Common.{ℕ, ◌/◌, ◌%◌, nat_eq, get_or, sym, ap, ◌∙◌}
use Rattle.std.proofs.lemmas.Nat.Bits.{shr_and_one}
use Rattle.tdb_seg.specs.InsideLaws.{contains-used_in}
use Rattle.tdb_seg.proofs.UsedWords.{unused_beyond}
use Rattle.tdb_seg.proofs.used.has_segment.Goals as goal

pub returns-then-segment-table : goal.returns-then-segment-table
returns-then-segment-table c = sym (unused_beyond c.args.table.now c.requires.value c.requires.table c.args.segment c.if-segment-table.true)

pub returns : goal.returns
returns c =
    ap (λ (b : ℕ). nat_eq b 1) (shr_and_one (get_or c.args.table.now.used (c.args.segment / 64) 0) (c.args.segment % 64))
    ∙ sym (contains-used_in c.args.table.now c.requires.value c.args.segment)
