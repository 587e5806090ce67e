use Rattle.std.proofs.Common.{[], ◌∷◌, get_or, ap, ◌∙◌}
use Rattle.std.specs.Int.{byte_at}
use Rattle.tdb_aes.specs.MixColumns.{inverse_mix_polynomial, polynomial_product}
use Rattle.tdb_aes.specs.SubBytes.{inverse_sub_byte, sub_byte}
use Rattle.tdb_aes.proofs.SBox.{inverse_sub_byte-sub_byte}
use Rattle.tdb_aes.proofs.StateLaws.{byte_at-lt}
use Rattle.tdb_aes.proofs.expansion.inverse_mixed.Goals as goal

pub returns : goal.returns
returns c =
    let e = c.to_be_bytes.ensures in
    let a = ap inverse_sub_byte (c.substituted.ensures ∙ ap (λ l. sub_byte (get_or l 0 0)) e) ∙ inverse_sub_byte-sub_byte (byte_at 3 c.args.word) (byte_at-lt 3 c.args.word) in
    let b = ap inverse_sub_byte (c.substituted-2.ensures ∙ ap (λ l. sub_byte (get_or l 1 0)) e) ∙ inverse_sub_byte-sub_byte (byte_at 2 c.args.word) (byte_at-lt 2 c.args.word) in
    let d = ap inverse_sub_byte (c.substituted-3.ensures ∙ ap (λ l. sub_byte (get_or l 2 0)) e) ∙ inverse_sub_byte-sub_byte (byte_at 1 c.args.word) (byte_at-lt 1 c.args.word) in
    let f = ap inverse_sub_byte (c.substituted-4.ensures ∙ ap (λ l. sub_byte (get_or l 3 0)) e) ∙ inverse_sub_byte-sub_byte (byte_at 0 c.args.word) (byte_at-lt 0 c.args.word) in
    c.inverse_mixed_word.ensures ∙ (λ i. polynomial_product inverse_mix_polynomial (a i ∷ b i ∷ d i ∷ f i ∷ []))
