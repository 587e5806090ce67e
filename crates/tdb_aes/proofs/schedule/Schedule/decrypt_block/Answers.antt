use Rattle.std.proofs.Common.{◌≡◌, ℕ, ◌<◌, length, slice_index, ap, ◌∙◌, rules}
use Rattle.tdb_aes.specs.Cipher.{cipher, inverse_cipher}
use Rattle.tdb_aes.proofs.CipherLaws.{cipher-inverse_cipher}
use Rattle.tdb_aes.proofs.PreparedKeys.{inverse_cipher-key_of}
use Rattle.tdb_aes.proofs.StateLaws.{IsState-from_bytes}
use Rattle.tdb_aes.proofs.schedule.Schedule.decrypt_block.Goals as goal

pub returns-clause-value : goal.returns-clause-value
returns-clause-value c =
    c.decrypted.ensures c.self.inside.encryption c.self.invariant.backward
    ∙ inverse_cipher-key_of c.self.inside c.args.block c.self.invariant ∙ ap (λ key. inverse_cipher key c.args.block) c.self.view_is

pub returns-clause-undone : goal.returns-clause-undone
returns-clause-undone c =
    let long : length c.args.block ≡ 16 = search rules in
    let small : (k : ℕ) → slice_index c.args.block k < 256 = search rules in
    let value : c.decrypted.result ≡ inverse_cipher c.args.self.now c.args.block =
    c.decrypted.ensures c.self.inside.encryption c.self.invariant.backward
    ∙ inverse_cipher-key_of c.self.inside c.args.block c.self.invariant ∙ ap (λ key. inverse_cipher key c.args.block) c.self.view_is in
    ap (cipher c.args.self.now) value
    ∙ cipher-inverse_cipher c.args.self.now c.args.block (IsState-from_bytes c.args.block long small)
