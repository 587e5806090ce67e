use Rattle.tdb_aes.proofs.WordBytes.{to_be_bytes-columns}
use Rattle.tdb_aes.proofs.columns.inverse_mixed_word.Goals as goal

pub returns : goal.returns
returns c =
    to_be_bytes-columns 0x0e 0x09 0x0d 0x0b _ _ _ _ _ _ _ _
    c.inverse_column_0.ensures c.inverse_column_1.ensures c.inverse_column_2.ensures c.inverse_column_3.ensures
