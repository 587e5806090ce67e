use Rattle.tdb_aes.proofs.WordBytes.{to_be_bytes-columns}
use Rattle.tdb_aes.proofs.columns.mixed_word.Goals as goal

pub returns : goal.returns
returns c =
    to_be_bytes-columns 0x02 0x01 0x01 0x03 _ _ _ _ _ _ _ _ c.column_0.ensures c.column_1.ensures c.column_2.ensures c.column_3.ensures
