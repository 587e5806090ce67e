-- What calls leave that commit nothing, and how faults are told.
use Rattle.std.specs.Prelude.{◌≡◌, ◌≢◌, ℕ, [], Result, Err}
use Rattle.tdb_base.specs.Rose.{Rose}
use Rattle.tdb_model.specs.Meanings.{Meanings}
use Rattle.tdb_model.specs.State.{State}

-- No commit was begun. The state is as before, and a stop leaves none that it could not leave then.
pub record Stays {C : Type 0} (m : Meanings C) (old new : C) : Type 0 where
  pub runs : m.ran old [] [] new
  pub state : m.told new → (s : State) → m.state old s → m.state new s
  pub leaves : m.told new → (s : State) → m.left new (m.clock old) s → m.left old (m.clock old) s

-- A call answers a fault only where their count rose. With any other answer there was none, so that none is hidden.
pub record TellsFaults {T E : Type 0} (fault : E) (before now : ℕ) (result : Result T E) : Type 0 where
  pub rose : result ≡ Err fault → Rose before now
  pub none : result ≢ Err fault → now ≡ before
