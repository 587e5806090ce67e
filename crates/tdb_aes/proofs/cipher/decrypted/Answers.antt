use Rattle.std.proofs.Common.{◌≡◌, ℕ, ◌-◌, ◌<◌, length, slice_index, ap, ◌∙◌, rules, arith}
use Rattle.tdb_aes.specs.Cipher.{after_inverse_rounds, inverse_cipher_with}
use Rattle.tdb_aes.specs.KeyExpansion.{round_key}
use Rattle.tdb_aes.specs.ShiftRows.{inverse_shift_rows}
use Rattle.tdb_aes.specs.State.{add_round_key}
use Rattle.tdb_aes.specs.SubBytes.{inverse_sub_bytes}
use Rattle.tdb_aes.proofs.CipherLaws.{after_inverse_rounds_more}
use Rattle.tdb_aes.proofs.StateLaws.{IsState-from_bytes}
use Rattle.tdb_aes.proofs.cipher.decrypted.Goals as goal

pub loop-n-init : goal.loop-n-init
unfolding after_inverse_rounds
loop-n-init c = λ w held.
    c.add_round_key-state.ensures
    ∙ ap (λ s. add_round_key s (round_key c.args.words.now c.args.rounds)) c.from_block.ensures
    ∙ ap (add_round_key c.args.block) held.last

pub loop-n-preserved : goal.loop-n-preserved
loop-n-preserved c = λ w held.
    let long : length c.args.block ≡ 16 = search rules in
    let small : (k : ℕ) → slice_index c.args.block k < 256 = search rules in
    after_inverse_rounds_more w c.args.words.now c.args.rounds c.args.block c.loop-n.n _ _ held
    (IsState-from_bytes c.args.block long small) c.loop-n.auto.n c.loop-n-test.true (c.loop-n.invariant w held) c.inverse_round-state.ensures

pub returns : goal.returns
unfolding inverse_cipher_with
returns c = λ w held.
    let end : c.loop-n.n ≡ c.args.rounds = omega (arith, c.loop-n.auto.n-end c.requires.some) in
    c.to_block.ensures ∙ c.last_inverse_round.ensures
    ∙ ap (λ s. add_round_key (inverse_sub_bytes (inverse_shift_rows s)) (round_key c.args.words.now 0))
    (c.loop-n.invariant w held ∙ ap (λ (n : ℕ). after_inverse_rounds w c.args.rounds c.args.block (n - 1)) end)
    ∙ ap (add_round_key (inverse_sub_bytes (inverse_shift_rows (after_inverse_rounds w c.args.rounds c.args.block (c.args.rounds - 1))))) held.first
