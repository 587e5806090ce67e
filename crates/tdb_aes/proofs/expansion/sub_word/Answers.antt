use Rattle.std.proofs.Common.{[], ◌∷◌, get_or, ◌∙◌}
use Rattle.std.specs.Int.{w32, from_be_bytes}
use Rattle.tdb_aes.specs.KeyExpansion.{sub_word}
use Rattle.tdb_aes.specs.SubBytes.{sub_byte}
use Rattle.tdb_aes.proofs.expansion.sub_word.Goals as goal

pub returns : goal.returns
unfolding sub_word
returns c =
    let e = c.to_be_bytes.ensures in
    c.substituted_word.ensures.word
    ∙ (λ i. from_be_bytes w32
    (sub_byte (get_or (e i) 0 0) ∷ sub_byte (get_or (e i) 1 0) ∷ sub_byte (get_or (e i) 2 0) ∷ sub_byte (get_or (e i) 3 0) ∷ []))
