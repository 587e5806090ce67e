-- Counts that are kept in a u64. They stand still at its end.
use Rattle.std.specs.Prelude.{◌⊎◌, ◌+◌, ◌<◌, ◌≤◌, ℕ, max, min}

-- The count went up. One that stands at the greatest u64 counts as one that did.
abbrev pub Rose : ℕ → ℕ → Type 0
Rose before now = (before < now) ⊎ (18446744073709551615 ≤ now)

-- one more, where there is one more
abbrev pub risen : ℕ → ℕ
risen count = max count (min (count + 1) 18446744073709551615)
