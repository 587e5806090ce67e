use Rattle.std.proofs.Common.{[], ◌∷◌, ap, ◌∙◌}
use Rattle.tdb_aes.specs.KeyExpansion.{round_key}
use Rattle.tdb_aes.specs.ShiftRows.{inverse_shift_rows}
use Rattle.tdb_aes.specs.State.{add_round_key, bytes_of_words}
use Rattle.tdb_aes.specs.SubBytes.{inverse_sub_byte, inverse_sub_bytes}
use Rattle.tdb_aes.proofs.WordBytes.{bytes_of_words-shifted_back}
use Rattle.tdb_aes.proofs.state.State.last_inverse_round.Goals as goal

pub returns : goal.returns
unfolding inverse_shift_rows inverse_sub_bytes bytes_of_words
returns c =
    c.add_round_key.ensures
    ∙ ap (λ s. add_round_key s (round_key c.args.words.now c.args.n))
    (bytes_of_words-shifted_back (λ x y z w. inverse_sub_byte x ∷ inverse_sub_byte y ∷ inverse_sub_byte z ∷ inverse_sub_byte w ∷ [])
    _ _ _ _ _ _ _ _ _ _ _ _
    c.to_be_bytes.ensures c.to_be_bytes-2.ensures c.to_be_bytes-3.ensures c.to_be_bytes-4.ensures
    c.inverse_substituted_word.ensures c.inverse_substituted_word-2.ensures c.inverse_substituted_word-3.ensures c.inverse_substituted_word-4.ensures)
