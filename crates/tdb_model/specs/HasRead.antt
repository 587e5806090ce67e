-- What a call that reads a chunk says.
use Rattle.std.specs.Prelude.{◌≡◌, ◌⊎◌, ℕ, true, false, Result, Err, Some, None, IfOk, IfErr, OnOk}
use Rattle.std.specs.FinMap.{get}
use Rattle.std.specs.Global.{Vec}
use Rattle.tdb_base.specs.declared.names.PartId.{PartId}
use Rattle.tdb_base.specs.declared.names.Rank.{Rank}
use Rattle.tdb_base.specs.declared.piece.Damage.{Damage}
use Rattle.tdb_model.specs.Check.{is_there}
use Rattle.tdb_model.specs.Lookup.{chunk_at}
use Rattle.tdb_model.specs.Meanings.{Meanings}
use Rattle.tdb_model.specs.Meanings.Target.{OfChunk}
use Rattle.tdb_model.specs.State.{State}
use Rattle.tdb_model.specs.Stays.{Stays, TellsFaults}
use Rattle.tdb_model.specs.declared.error.ReadError.{ReadError}
use Rattle.tdb_model.specs.declared.error.ReadError.TheVariants.{Stopped, NoPartition, NoChunk, Tampered, Form, Fault, Memory}

-- Why nothing was read. Want of memory is free, and of faults TellsFaults says the cause.
abbrev pub ReadCause : {C : Type 0} → Meanings C → PartId → Rank → C → C → ReadError → Type 0
ReadCause m part rank old new Stopped = m.is_stopped old ≡ true
ReadCause m part rank old new NoPartition = m.told new → (s : State) → m.state old s → get s part.0 ≡ None
ReadCause m part rank old new NoChunk = m.told new → (s : State) → m.state old s
    → (is_there s part ≡ true) × (chunk_at s part.0 rank.0 ≡ None)
ReadCause m part rank old new (Tampered damage) = m.told new → m.damage_seen old new damage (OfChunk part rank)
ReadCause m part rank old new (Form place) = m.told new → m.malformed_seen old new place
ReadCause m part rank old new Fault = Unit {0}
ReadCause m part rank old new Memory = Unit {0}

pub record HasRead {C : Type 0} (m : Meanings C) (part : PartId) (rank : Rank) (old new : C)
    (result : Result (Vec ℕ) ReadError) : Type 0 where
  pub stays : Stays m old new
  pub faults : TellsFaults Fault (m.faults old) (m.faults new) result
  -- A fault that a reading call meets doesn't stop the store.
  pub stopped : m.is_stopped new ≡ m.is_stopped old
  pub bytes : m.told new → (s : State) → m.state old s → IfOk result (λ bytes. chunk_at s part.0 rank.0 ≡ Some bytes.items)
  pub verified : m.verifies new → OnOk result (m.verified_reads old new part rank)
  pub undamaged : m.told new → (s : State) → m.state old s
      → OnOk result ((damage : Damage) → m.damage_seen old new damage (OfChunk part rank) → ⊥)
  pub cause : IfErr result (ReadCause m part rank old new)
  -- A stopped store reads nothing.
  pub first : m.is_stopped old ≡ true → result ≡ Err Stopped
  -- Nor is there anything to read where the partition isn't there.
  pub no_partition : m.told new → (s : State) → m.state old s → m.is_stopped old ≡ false → get s part.0 ≡ None
      → (result ≡ Err NoPartition) ⊎ ((result ≡ Err Memory) ⊎ (result ≡ Err Fault))
