-- How the prover tells two spaces apart: a space is stored as the tuple of its fields.
use Rattle.std.specs.Prelude.{ℕ, Option, refl}
use Rattle.std.specs.Ordering.{nat_cmp}
use Rattle.std.specs.FinSet as set
use Rattle.std.specs.FinSet.{FinSet}
use Rattle.std.specs.Coded.{Coded, code_by, coded×, coded_ℕ, coded_option}
use Rattle.tdb_base.specs.declared.piece.Place.{Place}
use Rattle.tdb_seg.specs.SegmentSpace.{SegmentSpace}

abbrev place_code : Coded Place
place_code = code_by ℕ coded_ℕ (λ place. place.0) (λ n. record { 0 = n }) (λ _. refl)

abbrev pub space_code : Coded SegmentSpace
space_code =
    code_by (ℕ × (FinSet nat_cmp × Option Place)) (coded× coded_ℕ (coded× (set.code coded_ℕ) (coded_option place_code)))
    (λ s. (s.segments, (s.used, s.tail))) (λ p. record { segments = p.0; used = p.1.0; tail = p.1.1 }) (λ _. refl)
