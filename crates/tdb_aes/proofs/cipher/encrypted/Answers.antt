use Rattle.std.proofs.Common.{◌≡◌, ℕ, ◌-◌, ap, ◌∙◌, arith}
use Rattle.tdb_aes.specs.Cipher.{after_rounds, cipher_with}
use Rattle.tdb_aes.specs.KeyExpansion.{round_key}
use Rattle.tdb_aes.specs.ShiftRows.{shift_rows}
use Rattle.tdb_aes.specs.State.{add_round_key}
use Rattle.tdb_aes.specs.SubBytes.{sub_bytes}
use Rattle.tdb_aes.proofs.CipherLaws.{after_rounds_more}
use Rattle.tdb_aes.proofs.cipher.encrypted.Goals as goal

pub loop-n-init : goal.loop-n-init
unfolding after_rounds
loop-n-init c = c.add_round_key-state.ensures ∙ ap (λ s. add_round_key s (round_key c.args.words.now 0)) c.from_block.ensures

pub loop-n-preserved : goal.loop-n-preserved
loop-n-preserved c =
    after_rounds_more c.args.words.now c.args.block c.loop-n.n _ _ c.loop-n.auto.n c.loop-n.invariant c.round-state.ensures

pub returns : goal.returns
unfolding cipher_with
returns c =
    let end : c.loop-n.n ≡ c.args.rounds = omega (arith, c.loop-n.auto.n-end c.requires.some) in
    c.to_block.ensures ∙ c.last_round.ensures
    ∙ ap (λ s. add_round_key (shift_rows (sub_bytes s)) (round_key c.args.words.now c.args.rounds))
    (c.loop-n.invariant ∙ ap (λ (n : ℕ). after_rounds c.args.words.now c.args.block (n - 1)) end)
