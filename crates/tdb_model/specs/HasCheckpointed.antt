-- What a checkpoint says.
use Rattle.std.specs.Prelude.{◌≡◌, ◌≢◌, ◌≤◌, ◌⊎◌, true, false, Result, Err, IfErr, OnOk}
use Rattle.tdb_model.specs.Limits.{count_limit}
use Rattle.tdb_model.specs.Meanings.{Meanings}
use Rattle.tdb_model.specs.Meanings.Target.{OfCheckpoint}
use Rattle.tdb_model.specs.Stays.{Stays, TellsFaults}
use Rattle.tdb_model.specs.declared.error.SaveError.{SaveError}
use Rattle.tdb_model.specs.declared.error.SaveError.TheVariants.{Stopped, CounterEnd, Tampered, Form, NoRoom, Memory, Fault}

-- Why there is no new checkpoint. Want of memory is free, and of faults TellsFaults says the cause.
abbrev pub CheckpointCause : {C : Type 0} → Meanings C → C → C → SaveError → Type 0
CheckpointCause m old new Stopped = m.is_stopped old ≡ true
CheckpointCause m old new CounterEnd = count_limit ≤ m.count new
CheckpointCause m old new (Tampered damage) = m.told new → m.damage_seen old new damage OfCheckpoint
CheckpointCause m old new (Form place) = m.told new → m.malformed_seen old new place
CheckpointCause m old new (NoRoom room) = m.checkpoint_lacks_room new room
CheckpointCause m old new Memory = Unit {0}
CheckpointCause m old new Fault = Unit {0}

pub record HasCheckpointed {C : Type 0} (m : Meanings C) (old new : C) {T : Type 0} (result : Result T SaveError) : Type 0 where
  pub stays : Stays m old new
  pub base : OnOk result (m.base new ≡ m.count new)
  pub faults : TellsFaults Fault (m.faults old) (m.faults new) result
  -- A fault stops the store, and nothing else does.
  pub stops : result ≡ Err Fault → m.is_stopped new ≡ true
  pub goes_on : result ≢ Err Fault → m.is_stopped new ≡ m.is_stopped old
  pub cause : IfErr result (CheckpointCause m old new)
  -- A stopped store makes no checkpoint.
  pub first : m.is_stopped old ≡ true → result ≡ Err Stopped
  -- Behind the greatest count there is none.
  pub counted : m.is_stopped old ≡ false → count_limit ≤ m.count old
      → (result ≡ Err CounterEnd) ⊎ ((result ≡ Err Memory) ⊎ (result ≡ Err Fault))
