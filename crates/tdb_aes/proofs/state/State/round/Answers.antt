use Rattle.std.proofs.Common.{[], ◌∷◌, ap, ◌∙◌}
use Rattle.tdb_aes.specs.KeyExpansion.{round_key}
use Rattle.tdb_aes.specs.MixColumns.{mix_polynomial, mix_columns, polynomial_product}
use Rattle.tdb_aes.specs.ShiftRows.{shift_rows}
use Rattle.tdb_aes.specs.State.{add_round_key, bytes_of_words}
use Rattle.tdb_aes.specs.SubBytes.{sub_byte, sub_bytes}
use Rattle.tdb_aes.proofs.WordBytes.{bytes_of_words-shifted}
use Rattle.tdb_aes.proofs.state.State.round.Goals as goal

pub returns : goal.returns
unfolding mix_columns shift_rows sub_bytes bytes_of_words
returns c =
    c.add_round_key.ensures
    ∙ ap (λ s. add_round_key s (round_key c.args.words.now c.args.n))
    (bytes_of_words-shifted (λ x y z w. polynomial_product mix_polynomial (sub_byte x ∷ sub_byte y ∷ sub_byte z ∷ sub_byte w ∷ []))
    _ _ _ _ _ _ _ _ _ _ _ _
    c.to_be_bytes.ensures c.to_be_bytes-2.ensures c.to_be_bytes-3.ensures c.to_be_bytes-4.ensures
    c.mixed_word.ensures c.mixed_word-2.ensures c.mixed_word-3.ensures c.mixed_word-4.ensures)
