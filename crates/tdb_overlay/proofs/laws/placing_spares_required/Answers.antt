use Rattle.std.proofs.Common.{ℕ, ◌+◌, ◌≤◌, subst}
use Rattle.tdb_append.specs.Put.{slot_place}
use Rattle.tdb_overlay.specs.RequiredPlaces.{IsClearOf}
use Rattle.tdb_overlay.proofs.ImageLaws.{places_are_clear, slot_is_clear}
use Rattle.tdb_overlay.proofs.Listed.{all_listed}
use Rattle.tdb_overlay.proofs.OneLog.{log_at}
use Rattle.tdb_overlay.proofs.RequiredLaws.{required_is_placed, required_space}
use Rattle.tdb_overlay.proofs.laws.placing_spares_required.Goals as goal

pub returns-clause-stands : goal.returns-clause-stands
returns-clause-stands c written store anchor history last piece is required = required_is_placed written store anchor history last is piece required

pub returns-clause-slot : goal.returns-clause-slot
returns-clause-slot c written store anchor history last piece is required =
    subst (λ (n : ℕ). IsClearOf piece (slot_place (n + 1)) 256) (log_at written store anchor history last is)
    (slot_is_clear last piece (required_is_placed written store anchor history last is piece required))

pub returns-clause-places : goal.returns-clause-places
returns-clause-places c written store anchor history last piece lengths keep places after is required sizes placed =
    places_are_clear piece last.space last.count (required_is_placed written store anchor history last is piece required)
    (required_space written store anchor history last is piece required)
    lengths (all_listed (λ n. (1 ≤ n) × (n ≤ 262144)) lengths sizes) keep places after placed
