-- The numbers of partitions that lines give, and those that are told of.
use Rattle.std.proofs.Common.{◌≡◌, ℕ, List, [], ◌∷◌, Bool, true, false, map, refl, sym, ◌∙◌, ap}
use Rattle.std.specs.Prelude.{◌↔◌, IsTrue}
use Rattle.tdb_base.specs.declared.names.PartId.{PartId}
use Rattle.tdb_model.specs.Lookup.{info_of}
use Rattle.tdb_model.specs.State.{Partition}
use Rattle.tdb_model.specs.declared.change.PartInfo.{PartInfo}
use Rattle.tdb_notes.specs.Script.{part_of}

-- by a test that failed
pub refuses : (b : Bool) (fits : Type 0) → b ≡ false → IsTrue b ↔ fits → fits → ⊥
refuses b fits is both fitting = absurd (cc (is, both.1 fitting))

-- by one that held
pub admits : (b : Bool) (fits : Type 0) → b ≡ true → IsTrue b ↔ fits → fits
admits b fits is both = both.0 is

-- the numbers that are told of are those that are there
pub told_numbers : (found : List (ℕ × Partition)) → map (λ (info : PartInfo). info.part) (map (λ e. info_of (part_of e.0) e.1) found)
    ≡ map (λ e. part_of e.0) found
told_numbers [] = refl
told_numbers (e ∷ found) = ap (λ (more : List PartId). part_of e.0 ∷ more) (told_numbers found)
