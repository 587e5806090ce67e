use Rattle.std.proofs.Common.{◌∙◌, ap, arith}
use Rattle.tdb_aes.specs.Cipher.{inverse_cipher}
use Rattle.tdb_cbc.proofs.CbcLaws.{plain_block-first, plain_block-later}
use Rattle.tdb_cbc.proofs.cbc.opened_block.Goals as goal

pub returns-then-j-eq0 : goal.returns-then-j-eq0
returns-then-j-eq0 c =
    c.xor_blocks.ensures
    ∙ plain_block-first c.args.schedule.now c.args.iv.now c.args.bytes.now c.args.j c.decrypt_block-opened.result c.if-j-eq0.true
    (c.decrypt_block-opened.ensures.value ∙ ap (inverse_cipher c.args.schedule.now) c.block_at.ensures)

pub returns-else-j-eq0 : goal.returns-else-j-eq0
returns-else-j-eq0 c =
    c.xor_blocks-else-j-eq0.ensures
    ∙ plain_block-later c.args.schedule.now c.args.iv.now c.args.bytes.now c.args.j c.decrypt_block-opened.result c.block_at-else-j-eq0.result (omega arith)
    (c.decrypt_block-opened.ensures.value ∙ ap (inverse_cipher c.args.schedule.now) c.block_at.ensures) c.block_at-else-j-eq0.ensures
