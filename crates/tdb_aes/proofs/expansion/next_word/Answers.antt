use Rattle.std.proofs.Common.{◌-◌, bit_xor, slice_index, ap}
use Rattle.tdb_aes.specs.KeyExpansion.{next_word}
use Rattle.tdb_aes.proofs.expansion.next_word.Goals as goal

pub returns : goal.returns
unfolding next_word
returns c = ap (bit_xor (slice_index c.args.words.now (c.args.i - c.args.key_words))) c.temp.ensures
