-- The machine in memory, over a store of chunks of any kind.
use Rattle.std.specs.Prelude.{◌≡◌, ℕ, List}
use Rattle.tdb_base.specs.Rose.{Rose}
use Rattle.tdb_base.specs.declared.names.PartId.{PartId}
use Rattle.tdb_base.specs.declared.names.Rank.{Rank}
use Rattle.tdb_model.specs.Apply.{History}
use Rattle.tdb_model.specs.Meanings.{Meanings}
use Rattle.tdb_script.specs.LineSpelling.{LineValue, IsLine}
use Rattle.tdb_script.specs.declared.reply.Reply.{Reply}
use Rattle.tdb_script.specs.declared.reply.Reply.TheVariants.{Tampered}
use Rattle.tdb_serve.specs.Running.{AnswersBy, FailsBy}
use Rattle.tdb_serve.specs.declared.script_end.ScriptEnd.{ScriptEnd}
use Rattle.tdb_serve.specs.declared.script_end.ScriptEnd.TheVariants as ends
use Rattle.tdb_serve.specs.declared.script_end.Stop.{Stop}
use Rattle.tdb_serve.specs.declared.script_end.Stop.TheVariants.{PlatformFault, Memory}
use Rattle.tdb_notes.specs.Script.{IsAnswer, IsAnswerTo, IsBegunBy, IsHurt, ScriptState}
use Rattle.tdb_notes.specs.SessionState.{IsSessionAt}
use Rattle.tdb_notes.specs.declared.notes.Notes.{Notes}

-- the store's state is told
abbrev pub IsTold : {C : Type 0} → Meanings C → Notes C → Type 0
IsTold m notes = m.told notes.store

-- the machine stands for a state
pub record IsAt {C : Type 0} (m : Meanings C) (notes : Notes C) (state : ScriptState) : Type 0 where
  pub store : m.state notes.store state.chunks
  pub session : IsSessionAt notes.session state

-- what the store ran from one value of the machine to a later one
abbrev pub Runs : {C : Type 0} → Meanings C → Notes C → History → History → Notes C → Type 0
Runs m old added maybe new = m.ran old.store added maybe new.store

-- a line of the grammar is answered so between two values of the machine
abbrev pub StepBy : {C : Type 0} → Meanings C → Notes C → Notes C → ScriptState → LineValue → Reply → History → ScriptState → Type 0
StepBy m old new state line reply added next =
    IsAnswer m old.store new.store state line (record { reply = reply; next = next; added = added })

-- a line's bytes are
abbrev pub Step : {C : Type 0} → Meanings C → Notes C → Notes C → ScriptState → List ℕ → Reply → History → ScriptState → Type 0
Step m old new state bytes reply added next =
    IsAnswerTo m old.store new.store state bytes (record { reply = reply; next = next; added = added })

abbrev pub BeginsBy : {C : Type 0} → Meanings C → Notes C → Notes C → ScriptState → LineValue → History → Type 0
BeginsBy m old new state line maybe = IsBegunBy m old.store state line maybe

-- what bytes of a line may add that isn't answered
abbrev pub Begins : {C : Type 0} → Meanings C → Notes C → Notes C → ScriptState → List ℕ → History → Type 0
Begins m old new state bytes maybe = (line : LineValue) × IsLine bytes line × IsBegunBy m old.store state line maybe

-- Why a line has no answer: by a fault where the store's count of faults rose. It stays with any other.
abbrev pub StopCause : {C : Type 0} → Meanings C → C → C → Stop → Type 0
StopCause m old new PlatformFault = Rose (m.faults old) (m.faults new)
StopCause m old new Memory = m.faults new ≡ m.faults old

-- the same of a whole script
abbrev pub EndCause : {C : Type 0} → Meanings C → C → C → ScriptEnd → Type 0
EndCause m old new ends.PlatformFault = Rose (m.faults old) (m.faults new)
EndCause m old new end = m.faults new ≡ m.faults old

module _ {C : Type 0} (m : Meanings C) where
  -- a line of the grammar was answered, without a fault
  abbrev pub LineAnswered : Notes C → LineValue → Reply → Notes C → Type 0
  LineAnswered old line reply new =
      AnswersBy (IsTold m) (IsAt m) (StepBy m) (Runs m) old line reply new × (m.faults new.store ≡ m.faults old.store)

  -- it wasn't
  abbrev pub LineUnanswered : Notes C → LineValue → Stop → Notes C → Type 0
  LineUnanswered old line stop new = FailsBy (IsTold m) (IsAt m) (BeginsBy m) (Runs m) old line new × StopCause m old.store new.store stop

  -- the same of a line's bytes
  abbrev pub Answered : Notes C → List ℕ → Reply → Notes C → Type 0
  Answered old bytes reply new = AnswersBy (IsTold m) (IsAt m) (Step m) (Runs m) old bytes reply new
      × (m.faults new.store ≡ m.faults old.store)

  abbrev pub Unanswered : Notes C → List ℕ → Stop → Notes C → Type 0
  Unanswered old bytes stop new = FailsBy (IsTold m) (IsAt m) (Begins m) (Runs m) old bytes new × StopCause m old.store new.store stop

-- a reply that tells no damage
abbrev pub IsNotTampered : Reply → Type 0
IsNotTampered reply = (part : PartId) (rank : Rank) → reply ≡ Tampered part rank → ⊥

-- between two values of the store no chunk was hurt
abbrev pub IsUnhurt : {C : Type 0} → Meanings C → C → C → Type 0
IsUnhurt m old new = (part : PartId) (id : ℕ) → IsHurt m old new part id → ⊥
