use Rattle.std.proofs.Common.{◌++◌, ◌-◌, length, drop, List, ℕ, replicate, Bool, cond, ap, sym, ◌∙◌}
use Rattle.std.proofs.lemmas.Bool.{le-ltb, lt-ltb}
use Rattle.std.proofs.lemmas.List.{drop-replicate}
use Rattle.sha2.specs.Sha256.{sha256}
use Rattle.tdb_mac.specs.Hmac.{key_block}
use Rattle.tdb_mac.proofs.mac.block_of.Goals as goal

pub returns-then-key-gt-BLOCK_LENGTH : goal.returns-then-key-gt-BLOCK_LENGTH
unfolding key_block
returns-then-key-gt-BLOCK_LENGTH c =
    let key = c.args.key.now in
    ap (λ (d : List ℕ). d ++ replicate 32 0) (c.copy_from_slice.ensures.after ∙ c.digest-hashed.ensures)
    ∙ sym (ap (λ (t : Bool). cond t (sha256 key ++ replicate 32 0) (key ++ replicate (64 - length key) 0)) (lt-ltb _ _ c.if-key-gt-BLOCK_LENGTH.true))

pub returns-else-key-gt-BLOCK_LENGTH : goal.returns-else-key-gt-BLOCK_LENGTH
unfolding key_block
returns-else-key-gt-BLOCK_LENGTH c =
    let key = c.args.key.now in
    ap (λ (d : List ℕ). d ++ drop (length key) (replicate 64 0)) c.copy_from_slice-else-key-gt-BLOCK_LENGTH.ensures.after
    ∙ ap (λ (d : List ℕ). key ++ d) (drop-replicate (length key) 64 0)
    ∙ sym (ap (λ (t : Bool). cond t (sha256 key ++ replicate 32 0) (key ++ replicate (64 - length key) 0)) (le-ltb _ _ c.if-key-gt-BLOCK_LENGTH.false))
