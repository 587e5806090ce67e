use Rattle.std.proofs.Common.{◌≡◌, ℕ, ◌<◌, length, slice_index, ap, ◌∙◌, rules}
use Rattle.tdb_aes.specs.Cipher.{cipher, inverse_cipher}
use Rattle.tdb_aes.proofs.CipherLaws.{inverse_cipher-cipher}
use Rattle.tdb_aes.proofs.PreparedKeys.{cipher-key_of}
use Rattle.tdb_aes.proofs.StateLaws.{IsState-from_bytes}
use Rattle.tdb_aes.proofs.schedule.Schedule.encrypt_block.Goals as goal

pub returns-clause-value : goal.returns-clause-value
returns-clause-value c =
    c.encrypted.ensures ∙ cipher-key_of c.self.inside c.args.block c.self.invariant ∙ ap (λ key. cipher key c.args.block) c.self.view_is

pub returns-clause-undone : goal.returns-clause-undone
returns-clause-undone c =
    let long : length c.args.block ≡ 16 = search rules in
    let small : (k : ℕ) → slice_index c.args.block k < 256 = search rules in
    let value : c.encrypted.result ≡ cipher c.args.self.now c.args.block =
    c.encrypted.ensures ∙ cipher-key_of c.self.inside c.args.block c.self.invariant ∙ ap (λ key. cipher key c.args.block) c.self.view_is in
    ap (inverse_cipher c.args.self.now) value
    ∙ inverse_cipher-cipher c.args.self.now c.args.block (IsState-from_bytes c.args.block long small)
