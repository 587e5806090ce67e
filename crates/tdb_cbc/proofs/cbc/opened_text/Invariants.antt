use Rattle.std.proofs.Common.{◌≡◌}
use Rattle.tdb_cbc.specs.Blocks.{joined}
use Rattle.tdb_cbc.specs.Cbc.{plain_block}
use Rattle.tdb_cbc.proofs.cbc.opened_text.Given as goal

abbrev pub invariant-loop-j : goal.invariant-loop-j
invariant-loop-j l = l.plain.items ≡ joined (plain_block l.schedule l.iv l.bytes) l.j
