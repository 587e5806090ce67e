-- What one turn over the lines of a script comes to.
use Rattle.std.specs.Prelude.{◌≡◌, ℕ, List, ◌++◌, IsTrue}
use Rattle.tdb_stream.specs.SinkContent.{SinkContent}
use Rattle.tdb_stream.specs.SourceContent.{SourceContent}
use Rattle.tdb_script.specs.ReplySpelling.{reply_spelling}
use Rattle.tdb_script.specs.declared.reply.Reply.{Reply}
use Rattle.tdb_serve.specs.PutReply.{IsPutFor}
use Rattle.tdb_serve.specs.Stopping.{IsNextLine, LeavesUnanswered, StopsFor}
use Rattle.tdb_serve.specs.declared.script_end.Halt.{Halt}
use Rattle.tdb_serve.specs.declared.script_end.Halt.TheVariants.{Out, Stopped, Cut}
use Rattle.tdb_serve.specs.declared.script_end.NoLine.{NoLine}
use Rattle.tdb_serve.specs.declared.script_end.NotPut.{NotPut}
use Rattle.tdb_serve.specs.declared.script_end.Stop.{Stop}
use Rattle.tdb_serve.specs.declared.script_lines.ScriptLines.{ScriptLines}

-- what a turn begins with
pub record Turn (A : Type 0) : Type 0 where
  pub lines : ScriptLines
  pub answers : A

-- the next line was read and answered
pub record HasAnsweredLine {A : Type 0} (gives : A → List ℕ → Reply → A → Type 0) (came gone : SourceContent) (old new : Turn A)
    (reply : Reply) : Type 0 where
  pub line : List ℕ
  pub next : IsNextLine came gone old.lines new.lines line
  pub answers : gives old.answers line reply new.answers

-- the next line was read, and not answered
pub record HasStoppedLine {A : Type 0} (fails : A → List ℕ → Stop → A → Type 0) (came gone : SourceContent) (old new : Turn A)
    (stop : Stop) : Type 0 where
  pub line : List ℕ
  pub next : IsNextLine came gone old.lines new.lines line
  pub answers : fails old.answers line stop new.answers

-- there is no further line, and the machine is as it was
pub record HasNoLine {A : Type 0} (came gone : SourceContent) (old new : Turn A) (why : NoLine) : Type 0 where
  pub left : LeavesUnanswered came gone old.lines new.lines
  pub stops : StopsFor left why
  pub answers : new.answers ≡ old.answers

-- the line was answered and its reply put
pub record HasReplied {A : Type 0} (gives : A → List ℕ → Reply → A → Type 0) (came gone : SourceContent) (before after : SinkContent)
    (old new : Turn A) (reply : Reply) : Type 0 where
  pub answered : HasAnsweredLine gives came gone old new reply
  pub put : IsTrue before.tells → after.held ≡ before.held ++ reply_spelling reply
  pub quiet : after.faults ≡ before.faults

-- the line was answered, and its reply wasn't put whole
pub record HasCutReply {A : Type 0} (gives : A → List ℕ → Reply → A → Type 0) (came gone : SourceContent) (before after : SinkContent)
    (old new : Turn A) (why : NotPut) : Type 0 where
  pub reply : Reply
  pub answered : HasAnsweredLine gives came gone old new reply
  pub cut : IsPutFor (reply_spelling reply) before after why

-- the script ends without a further reply
abbrev pub Interrupted : {A : Type 0} → (A → List ℕ → Reply → A → Type 0) → (A → List ℕ → Stop → A → Type 0) → SourceContent
    → SourceContent → SinkContent → SinkContent → Turn A → Turn A → Halt → Type 0
Interrupted gives fails came gone before after old new (Out why) = (after ≡ before) × HasNoLine came gone old new why
Interrupted gives fails came gone before after old new (Stopped stop) = (after ≡ before) × HasStoppedLine fails came gone old new stop
Interrupted gives fails came gone before after old new (Cut why) = HasCutReply gives came gone before after old new why
