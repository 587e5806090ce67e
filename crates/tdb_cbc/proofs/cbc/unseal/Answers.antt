use Rattle.std.proofs.Common.{ℕ, ◌/◌, ◌-◌, ◌<◌, length, slice_index, refl, inl, inr, sym, ◌∙◌, rules, arith}
use Rattle.std.proofs.lemmas.Bool.{both_ways, eq-eqb}
use Rattle.tdb_aes.proofs.StateLaws.{IsState-from_bytes}
use Rattle.tdb_cbc.specs.Padding.{padding_length}
use Rattle.tdb_cbc.specs.Sealed.{HasNoWholeBlocks}
use Rattle.tdb_cbc.proofs.CbcLaws.{length-opens, opens-cut, opens-ends, sealed-opens}
use Rattle.tdb_cbc.proofs.cbc.unseal.Goals as goal

pub returns-in_default-clause-padding : goal.returns-in_default-clause-padding
returns-in_default-clause-padding c =
    let whole : HasNoWholeBlocks c.args.bytes.now → ⊥ = λ broken.
    elim broken [
      | inl none ↦ both_ways _ (sym c.is_empty.ensures ∙ c.if-is_empty.false) (eq-eqb _ _ none)
      | inr odd ↦ odd (omega arith)
    ] in
    let bytes : (k : ℕ) → slice_index c.args.bytes.now k < 256 = λ k. omega (arith, c.type_inv.bytes k) in (
      λ same. (
        whole,
        λ text opens. c.in_default.ensures (padding_length text)
            (opens-ends c.args.schedule.now c.args.iv.now c.args.bytes.now c.opened_block-end.result text (length c.args.bytes.now / 16 - 1) refl
            (IsState-from_bytes c.args.iv.now c.told-iv c.fits-iv) bytes c.opened_block-end.ensures opens),
      ),
      λ held. refl,
    )

pub returns-in_err-plain-clause-padding : goal.returns-in_err-plain-clause-padding
returns-in_err-plain-clause-padding c =
    let whole : HasNoWholeBlocks c.args.bytes.now → ⊥ = λ broken.
    elim broken [
      | inl none ↦ both_ways _ (sym c.is_empty.ensures ∙ c.if-is_empty.false) (eq-eqb _ _ none)
      | inr odd ↦ odd (omega arith)
    ] in
    let bytes : (k : ℕ) → slice_index c.args.bytes.now k < 256 = λ k. omega (arith, c.type_inv.bytes k) in (
      λ same. search rules,
      λ held. absurd (held.1 _
          (opens-cut c.args.schedule.now c.args.iv.now c.args.bytes.now c.opened_block-end.result (length c.args.bytes.now / 16 - 1) c.in-Some.padding
          whole refl (IsState-from_bytes c.args.iv.now c.told-iv c.fits-iv) bytes c.opened_block-end.ensures c.in-Some.ensures)),
    )

pub returns-clause-value : goal.returns-clause-value
returns-clause-value c =
    let whole : HasNoWholeBlocks c.args.bytes.now → ⊥ = λ broken.
    elim broken [
      | inl none ↦ both_ways _ (sym c.is_empty.ensures ∙ c.if-is_empty.false) (eq-eqb _ _ none)
      | inr odd ↦ odd (omega arith)
    ] in
    let bytes : (k : ℕ) → slice_index c.args.bytes.now k < 256 = λ k. omega (arith, c.type_inv.bytes k) in
    let end = c.opened_block-end.result in
    let last : ℕ = length c.args.bytes.now / 16 - 1 in
    rw c.in_ok-plain.ensures
    (opens-cut c.args.schedule.now c.args.iv.now c.args.bytes.now end last c.in-Some.padding
    whole refl (IsState-from_bytes c.args.iv.now c.told-iv c.fits-iv) bytes c.opened_block-end.ensures c.in-Some.ensures)

pub returns-clause-padding : goal.returns-clause-padding
returns-clause-padding c = (λ same. absurd (cc), λ held. absurd (held.1 _ (returns-clause-value c)))

pub returns-clause-shorter : goal.returns-clause-shorter
returns-clause-shorter c =
    length-opens c.args.schedule.now c.args.iv.now c.args.bytes.now c.in_ok-plain.plain.items
    (IsState-from_bytes c.args.iv.now c.told-iv c.fits-iv) (λ k. omega (arith, c.type_inv.bytes k)) (returns-clause-value c)

pub returns-clause-again : goal.returns-clause-again
returns-clause-again c =
    sealed-opens c.args.schedule.now c.args.iv.now c.args.bytes.now c.in_ok-plain.plain.items
    (IsState-from_bytes c.args.iv.now c.told-iv c.fits-iv) (λ k. omega (arith, c.type_inv.bytes k)) (returns-clause-value c)
