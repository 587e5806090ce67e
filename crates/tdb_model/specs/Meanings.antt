-- What a store of chunks tells of itself. C has the values that the store takes.
use Rattle.std.specs.Prelude.{ℕ, Bool, List}
use Rattle.tdb_base.specs.declared.names.PartId.{PartId}
use Rattle.tdb_base.specs.declared.names.Rank.{Rank}
use Rattle.tdb_base.specs.declared.piece.Damage.{Damage}
use Rattle.tdb_base.specs.declared.piece.NoRoom.{NoRoom}
use Rattle.tdb_base.specs.declared.piece.Place.{Place}
use Rattle.tdb_model.specs.Apply.{History}
use Rattle.tdb_model.specs.State.{State}
use Rattle.tdb_model.specs.declared.change.Change.{Change}
use Rattle.tdb_model.specs.declared.error.CommitError.{CommitError}

-- on the way to what a damaged piece was shown
pub data Target : Type 0 where
  -- a chunk
  OfChunk : PartId → Rank → Target
  -- the ranks of a partition
  OfPartition : PartId → Target
  -- a new checkpoint
  OfCheckpoint : Target
  -- all that the last checkpoint has
  OfBase : Target

pub record Meanings (C : Type 0) : Type 1 where
  -- The state is told, and so far nothing that was shown is forged. This falls, and never rises.
  pub told : C → Type 0
  -- It is told which reads were verified. This too falls, and never rises.
  pub verifies : C → Type 0
  -- It is in this state.
  pub state : C → State → Type 0
  -- the count of the last commit or checkpoint
  pub count : C → ℕ
  -- the count of the last checkpoint
  pub base : C → ℕ
  -- how many faults of the outside there were
  pub faults : C → ℕ
  -- the moment that is now
  pub clock : C → ℕ
  pub is_stopped : C → Bool
  -- A stop since that moment may leave this state.
  pub left : C → ℕ → State → Type 0
  -- From one value to a later one these commits were answered Ok, in order, and behind them at most these were begun.
  pub ran : C → History → History → C → Type 0
  -- A commit of these changes now meets a full ring, the end of the count or want of room, with this answer.
  pub refuses : C → List Change → CommitError → Type 0
  -- A checkpoint now finds no room for so many bytes in so many that are free.
  pub checkpoint_lacks_room : C → NoRoom → Type 0
  -- From one value to a later one this damage was shown, on the way to that.
  pub damage_seen : C → C → Damage → Target → Type 0
  -- From one value to a later one the record of this chunk was shown with the digest that was required.
  pub verified_reads : C → C → PartId → Rank → Type 0
  -- From one value to a later one a piece at this place was shown with its digest, and is outside every format.
  pub malformed_seen : C → C → Place → Type 0
