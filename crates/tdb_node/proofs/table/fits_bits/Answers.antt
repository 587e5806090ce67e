use Rattle.std.proofs.Common.{◌/◌, ◌^◌}
use Rattle.std.proofs.lemmas.Bool.{eqb-true, eq-eqb}
use Rattle.tdb_node.proofs.Words.{shift_is_zero, shift_below}
use Rattle.tdb_node.proofs.table.fits_bits.Goals as goal

pub returns-else-bits-ge64 : goal.returns-else-bits-ge64
returns-else-bits-ge64 c = (
  λ zero small. shift_is_zero c.args.word c.args.bits (eqb-true (c.args.word / 2 ^ c.args.bits) 0 zero),
  λ below. eq-eqb (c.args.word / 2 ^ c.args.bits) 0 (shift_below c.args.word c.args.bits (below c.if-bits-ge64.false)),
)
