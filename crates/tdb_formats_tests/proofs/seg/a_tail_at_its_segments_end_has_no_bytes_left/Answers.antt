use Rattle.std.proofs.Common.{ℕ, ap, arith}
use Rattle.std.specs.Int.{bit_at}
use Rattle.tdb_formats_tests.proofs.seg.a_tail_at_its_segments_end_has_no_bytes_left.Goals as goal

pub at-segments-requires-clause-tail : goal.at-segments-requires-clause-tail
at-segments-requires-clause-tail g c = (1, ap (λ (word : ℕ). bit_at word 1) c.sixteen-table.ensures, record { after_start = omega arith; within = omega arith })
