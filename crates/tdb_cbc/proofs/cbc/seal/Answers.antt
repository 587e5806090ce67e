use Rattle.std.proofs.Common.{◌≡◌, ℕ, ◌<◌, ◌++◌, List, length, slice_index, ap, ◌∙◌, arith}
use Rattle.tdb_aes.proofs.StateLaws.{IsState-from_bytes}
use Rattle.tdb_cbc.specs.Sealed.{sealed}
use Rattle.tdb_cbc.proofs.CbcLaws.{length-sealed, opens-sealed}
use Rattle.tdb_cbc.proofs.cbc.seal.Goals as goal

pub returns-clause-value : goal.returns-clause-value
returns-clause-value c =
    c.in_ok-push_sealed.ensures.items ∙ ap (λ (s : List ℕ). s ++ sealed c.args.schedule.now c.args.iv.now c.args.plain.now) c.in_ok-text.ensures.items

pub returns-clause-opens : goal.returns-clause-opens
returns-clause-opens c = λ text.
    let long : length c.args.iv.now ≡ 16 = c.told-iv in
    let small : (k : ℕ) → slice_index c.args.iv.now k < 256 = c.fits-iv in
    let bytes : (k : ℕ) → slice_index c.args.plain.now k < 256 = λ k. omega (arith, c.type_inv.plain k) in
    rw (returns-clause-value c)
    (opens-sealed c.args.schedule.now c.args.iv.now c.args.plain.now text (IsState-from_bytes c.args.iv.now long small) bytes)

pub returns-clause-length : goal.returns-clause-length
returns-clause-length c =
    ap length (returns-clause-value c)
    ∙ length-sealed c.args.schedule.now c.args.iv.now c.args.plain.now (IsState-from_bytes c.args.iv.now c.told-iv c.fits-iv)
    (λ k. omega (arith, c.type_inv.plain k))
