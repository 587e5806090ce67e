-- What a source tells.
use Rattle.std.specs.Prelude.{◌≡◌, ◌-◌, ◌++◌, ℕ, Bool, List, length, take}

pub record SourceContent : Type 0 where
  -- whether the rest is told
  pub tells : Bool
  -- the bytes that it has yet to give
  pub rest : List ℕ
  pub faults : ℕ

-- These bytes were taken between two moments: the old rest has them in front of the new one.
abbrev pub Takes : SourceContent → SourceContent → List ℕ → Type 0
Takes old new bytes = old.rest ≡ bytes ++ new.rest

-- the bytes taken between two moments
abbrev pub taken : SourceContent → SourceContent → List ℕ
taken old new = take (length old.rest - length new.rest) old.rest
