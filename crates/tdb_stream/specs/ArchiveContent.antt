-- What an archive tells.
use Rattle.std.specs.Prelude.{ℕ, Bool, List}

pub record ArchiveContent : Type 0 where
  pub number : ℕ
  -- whether what it holds is told
  pub tells : Bool
  -- all bytes that were put
  pub held : List ℕ
  pub faults : ℕ
