-- What a platform tells of itself, and what every call of one keeps.
use Rattle.std.specs.Prelude.{◌≡◌, ◌⊎◌, ℕ, Bool, ◌<◌, ◌≤◌, List, Result, IsErr}
use Rattle.tdb_base.specs.Trace.{Trace}
pub use Rattle.tdb_base.specs.Rose.{Rose}

-- a count and a mark
abbrev pub Anchor : Type 0
Anchor = ℕ × List ℕ

pub record Outside : Type 0 where
  -- whether the trace and the anchor are told
  pub tells : Bool
  -- whether the device is honest, so that its image is told
  pub honest : Bool
  pub trace : Trace
  -- the device's bytes as reads give them
  pub image : List ℕ
  -- what the call `anchor` gives
  pub anchor : Anchor
  -- how many calls failed
  pub faults : ℕ
  -- how many calls there were: the moment that is now
  pub clock : ℕ

-- Every call raises the clock and keeps what is told; it fails only where the faults rose.
pub record Told {T E : Type 0} (old new : Outside) (result : Result T E) : Type 0 where
  pub tells : new.tells ≡ old.tells
  pub honest : new.honest ≡ old.honest
  pub ticks : Rose old.clock new.clock
  pub no_fewer_faults : old.faults ≤ new.faults
  pub cause : IsErr result → Rose old.faults new.faults
