use Rattle.tdb_aes.specs.State.{add_round_key, bytes_of_words}
use Rattle.tdb_aes.proofs.WordBytes.{bytes_of_words-from, to_be_bytes-xor}
use Rattle.tdb_aes.proofs.state.State.add_round_key.Goals as goal

pub returns : goal.returns
unfolding add_round_key bytes_of_words
returns c = bytes_of_words-from _ _ _ _ _ _ _ _ (to_be_bytes-xor _ _) (to_be_bytes-xor _ _) (to_be_bytes-xor _ _) (to_be_bytes-xor _ _)
