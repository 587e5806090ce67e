-- The order of claims is total, and only equal claims tie.
use Rattle.std.proofs.Common.{◌≡◌, ℕ, refl, sym}
use Rattle.std.specs.Cmp.{IsTotalOrder, nat_cmp_total, then_total, on_total, ranked}
use Rattle.std.specs.FinMap.{IsAntisymmetric}
use Rattle.std.specs.Ordering.{nat_cmp, ordering_then}
use Rattle.std.specs.declared.cmp.Ordering.{Ordering}
use Rattle.std.specs.declared.cmp.Ordering.TheVariants.{Less, Equal, Greater}
use Rattle.tdb_base.specs.declared.names.Id.{Id}
use Rattle.tdb_base.specs.declared.names.TxId.{TxId}
use Rattle.tdb_lock.specs.HeldLocks.{id_cmp, claim_cmp}

pub id_total : IsTotalOrder id_cmp
id_total = then_total (on_total (λ (i : Id). i.part.0) nat_cmp_total) (on_total (λ (i : Id). i.rank.0) nat_cmp_total)

pub claim_total : IsTotalOrder claim_cmp
claim_total = then_total (on_total (λ (c : Id × TxId). c.0) id_total) (on_total (λ (c : Id × TxId). c.1.0) nat_cmp_total)

both_equal : (a b : Ordering) → ordering_then a b ≡ Equal → (a ≡ Equal) × (b ≡ Equal)
both_equal Less b e = absurd (cc e)
both_equal Equal b e = (refl, e)
both_equal Greater b e = absurd (cc e)

same_number : (x y : ℕ) → nat_cmp x y ≡ Equal → x ≡ y
same_number x y e = ranked x y Equal (sym e)

pub same_id : (a b : Id) → id_cmp a b ≡ Equal → a ≡ b
same_id a b e =
    let parts = both_equal (nat_cmp a.part.0 b.part.0) (nat_cmp a.rank.0 b.rank.0) e in
    let part = same_number a.part.0 b.part.0 parts.0 in
    let rank = same_number a.rank.0 b.rank.0 parts.1 in
    λ i. record { part = record { 0 = part i }; rank = record { 0 = rank i } }

pub same_claim : IsAntisymmetric claim_cmp
same_claim a b e =
    let parts = both_equal (id_cmp a.0 b.0) (nat_cmp a.1.0 b.1.0) e in
    let id = same_id a.0 b.0 parts.0 in
    let tx = same_number a.1.0 b.1.0 parts.1 in
    λ i. (id i, record { 0 = tx i })
