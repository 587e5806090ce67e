-- The records that a store seals.
use Rattle.std.proofs.Common.{◌≡◌, ◌≤◌, ℕ, List, arith, subst}
use Rattle.tdb_base.specs.declared.suite.Suite.{Suite}
use Rattle.tdb_base.specs.declared.suite.Suite.TheVariants.{Plain, Aes128, Aes256}
use Rattle.tdb_seal.specs.declared.record.Name.{Name}
use Rattle.tdb_seal.specs.SealedRecord.{IsSealedRecord}
use Rattle.tdb_overlay.specs.StoreState.{record_length}

-- a record of equal bytes
pub sealed_as : (key : List ℕ) (name : Name) (plain given bytes : List ℕ) → given ≡ plain → IsSealedRecord key name given bytes → IsSealedRecord key name plain bytes
sealed_as key name plain given bytes same sealed = subst (λ (p : List ℕ). IsSealedRecord key name p bytes) same sealed

-- how many bytes the record of few bytes has, at least and at most
pub record_fits : (suite : Suite) (n : ℕ) → n ≤ 131072 → (1 ≤ record_length suite n) × (record_length suite n ≤ 262144)
record_fits Plain n few = (omega arith, omega (arith, few))
record_fits Aes128 n few = (omega arith, omega (arith, few))
record_fits Aes256 n few = (omega arith, omega (arith, few))
