-- Which calls of a platform in memory are meant to fail.
use Rattle.std.specs.Prelude.{◌⊎◌, ℕ, ◌≤◌, List, Option, Contains, MatchOption}

-- The call's number stands in the list, or the stop is reached.
abbrev pub IsPlanned : List ℕ → Option ℕ → ℕ → Type 0
IsPlanned fail stop number = Contains fail number ⊎ MatchOption stop ⊥ (λ from. from ≤ number)
