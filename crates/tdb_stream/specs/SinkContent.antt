-- What a sink tells.
use Rattle.std.specs.Prelude.{ℕ, Bool, List}

pub record SinkContent : Type 0 where
  -- whether what it holds is told
  pub tells : Bool
  -- all bytes that were put
  pub held : List ℕ
  pub faults : ℕ
