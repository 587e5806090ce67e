use Rattle.std.proofs.Common.{[], ◌∷◌, ap, ◌∙◌}
use Rattle.tdb_aes.specs.KeyExpansion.{round_key}
use Rattle.tdb_aes.specs.ShiftRows.{shift_rows}
use Rattle.tdb_aes.specs.State.{add_round_key, bytes_of_words}
use Rattle.tdb_aes.specs.SubBytes.{sub_byte, sub_bytes}
use Rattle.tdb_aes.proofs.WordBytes.{bytes_of_words-shifted}
use Rattle.tdb_aes.proofs.state.State.last_round.Goals as goal

pub returns : goal.returns
unfolding shift_rows sub_bytes bytes_of_words
returns c =
    c.add_round_key.ensures
    ∙ ap (λ s. add_round_key s (round_key c.args.words.now c.args.n))
    (bytes_of_words-shifted (λ x y z w. sub_byte x ∷ sub_byte y ∷ sub_byte z ∷ sub_byte w ∷ [])
    _ _ _ _ _ _ _ _ _ _ _ _
    c.to_be_bytes.ensures c.to_be_bytes-2.ensures c.to_be_bytes-3.ensures c.to_be_bytes-4.ensures
    c.substituted_word.ensures.bytes c.substituted_word-2.ensures.bytes c.substituted_word-3.ensures.bytes c.substituted_word-4.ensures.bytes)
