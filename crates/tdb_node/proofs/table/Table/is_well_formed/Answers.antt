use Rattle.std.proofs.Common.{arith}
use Rattle.tdb_node.specs.SegmentTable.{IsTableValue}
use Rattle.tdb_node.proofs.Words.{table_fits, fits_table}
use Rattle.tdb_node.proofs.table.Table.is_well_formed.Goals as goal

pub returns : goal.returns
returns c =
    let value : IsTableValue c.args.self.now = record { words = omega arith; word = c.names_only_segments.ensures.words } in
    let named = c.names_only_segments.ensures.named in
    (λ yes. table_fits c.args.self.now value (omega arith) (omega arith) (named.0 yes), λ table. named.1 (fits_table c.args.self.now value table))
