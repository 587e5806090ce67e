use Rattle.std.proofs.Common.{◌≡◌, ℕ, ◌*◌, ◌/◌, ◌-◌, ◌++◌, List, length, replicate, refl, ap, sym, ◌∙◌, append_assoc, append-nil, arith}
use Rattle.std.proofs.lemmas.Slice.{between_to_end}
use Rattle.tdb_aes.specs.Cipher.{cipher}
use Rattle.tdb_cbc.specs.Blocks.{block, joined}
use Rattle.tdb_cbc.specs.Cbc.{cipher_block}
use Rattle.tdb_cbc.specs.Padding.{padded}
use Rattle.tdb_cbc.proofs.CbcLaws.{block-padded_last, block-padded_whole, chained, chained_all, chained_more}
use Rattle.tdb_cbc.proofs.cbc.push_sealed.Goals as goal

pub loop-j-init : goal.loop-j-init
unfolding joined cipher_block
loop-j-init c = record { made = c.in_ok-reserve.ensures.items ∙ sym (append-nil _); chain = refl; long = omega (arith, c.in_ok-reserve.ensures.len); room = omega (arith, c.in_ok-reserve.ensures.len, c.in_ok-reserve.ensures.ok) }

pub loop-j-preserved : goal.loop-j-preserved
loop-j-preserved c =
    let before : List ℕ = chained c.args.schedule.now c.args.iv.now (padded c.args.plain.now) c.loop-j.j in
    let more = chained_more c.args.schedule.now c.args.iv.now (padded c.args.plain.now) c.loop-j.j before c.loop-j.previous
    c.block_at.result c.encrypt_block-next.result refl c.loop-j.invariant.chain
    (c.block_at.ensures ∙ sym (block-padded_whole c.args.plain.now c.loop-j.j (omega arith)))
    (c.encrypt_block-next.ensures.value ∙ ap (cipher c.args.schedule.now) c.xor_blocks.ensures) in
    record {
      made =
          c.in_ok-extend_from_slice.ensures.items
          ∙ ap (λ (s : List ℕ). s ++ c.encrypt_block-next.result) c.loop-j.invariant.made
          ∙ append_assoc c.args.text.now.items before c.encrypt_block-next.result
          ∙ ap (λ (s : List ℕ). c.args.text.now.items ++ s) more.0;
      chain = more.1;
      long = omega (arith, c.in_ok-extend_from_slice.ensures.len);
      room = omega (arith, c.in_ok-extend_from_slice.ensures.capacity);
    }

pub returns-clause-items : goal.returns-clause-items
returns-clause-items c =
    let end : c.loop-j.j ≡ length c.args.plain.now / 16 = omega arith in
    let rest = between_to_end c.args.plain.now (16 * (length c.args.plain.now / 16)) (length c.args.plain.now) (omega arith) in
    let before : List ℕ = chained c.args.schedule.now c.args.iv.now (padded c.args.plain.now) c.loop-j.j in
    let more = chained_more c.args.schedule.now c.args.iv.now (padded c.args.plain.now) c.loop-j.j before c.loop-j.previous
    c.padded_block.result c.encrypt_block-last.result refl c.loop-j.invariant.chain
    (c.padded_block.ensures
    ∙ ap (λ r. r ++ replicate (16 - length r) (16 - length r)) rest
    ∙ sym (block-padded_last c.args.plain.now (length c.args.plain.now / 16) refl)
    ∙ ap (block (padded c.args.plain.now)) (sym end))
    (c.encrypt_block-last.ensures.value ∙ ap (cipher c.args.schedule.now) c.xor_blocks-2.ensures) in
    c.in_ok-extend_from_slice-2.ensures.items
    ∙ ap (λ (s : List ℕ). s ++ c.encrypt_block-last.result) c.loop-j.invariant.made
    ∙ append_assoc c.args.text.now.items before c.encrypt_block-last.result
    ∙ ap (λ (s : List ℕ). c.args.text.now.items ++ s) (more.0 ∙ chained_all c.args.schedule.now c.args.iv.now c.args.plain.now c.loop-j.j end)
