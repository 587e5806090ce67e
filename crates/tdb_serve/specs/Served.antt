-- What the lines of a script have come to.
use Rattle.std.specs.Prelude.{◌≡◌, ◌⊎◌, ◌≤◌, ℕ, List, [], ◌∷◌, ◌++◌, length, IsTrue, Some, None}
use Rattle.tdb_script.specs.ReplySpelling.{reply_spelling}
use Rattle.tdb_script.specs.declared.reply.Reply.{Reply}
use Rattle.tdb_stream.specs.AddsPrefix.{AddsPrefix}
use Rattle.tdb_stream.specs.SinkContent.{SinkContent}
use Rattle.tdb_stream.specs.SourceContent.{SourceContent}
use Rattle.tdb_serve.specs.Answering.{AnsweredAll}
use Rattle.tdb_serve.specs.Gave.{HasNoLineFeed}
use Rattle.tdb_serve.specs.Replies.{Conversation, HasAnswered, replies_text}
use Rattle.tdb_serve.specs.declared.script_end.ScriptEnd.{ScriptEnd}
use Rattle.tdb_serve.specs.declared.script_end.ScriptEnd.TheVariants.{Bye, End, SourceFault, SinkFault, PlatformFault, Memory}
use Rattle.tdb_serve.specs.declared.script_end.Stop.{Stop}
use Rattle.tdb_serve.specs.declared.script_lines.TheConstants.{MAX_TAKE}
use Rattle.tdb_serve.specs.declared.script_end.Stop.TheVariants as stops

-- The next line was taken, and behind it at most as many bytes as one take asks for. This holds of it.
pub record IsAtNext (unanswered : List ℕ) (P : List ℕ → Type 0) : Type 0 where
  pub line : List ℕ
  pub later : List ℕ
  pub split : unanswered ≡ line ++ 10 ∷ later
  pub no_line_feed : HasNoLineFeed line
  pub few : length later ≤ MAX_TAKE
  pub holds : P line

-- the sink holds its old bytes and the replies, and at its fault a prefix of the one that couldn't be put whole
abbrev pub HasHeld : {came gone : SourceContent} → Conversation came gone → List ℕ → List ℕ → ScriptEnd → Type 0
HasHeld c held now SinkFault = (reply : Reply) × (c.next ≡ Some reply)
    × AddsPrefix (reply_spelling reply) (held ++ replies_text c.replies) now
HasHeld c held now end = now ≡ held ++ replies_text c.replies

module _ {A : Type 0} (gives : A → List ℕ → Reply → A → Type 0) (fails : A → List ℕ → Stop → A → Type 0) where
  -- behind the last reply that was put the machine was asked nothing
  abbrev pub WasAskedNothing : {came gone : SourceContent} → Conversation came gone → A → A → Type 0
  WasAskedNothing c mid new = (c.next ≡ None) × (new ≡ mid)

  -- it gave no answer to the next line
  abbrev pub HasStopped : {came gone : SourceContent} → Conversation came gone → A → A → Stop → Type 0
  HasStopped c mid new stop = (c.next ≡ None) × IsAtNext c.unanswered (λ line. fails mid line stop new)

  -- it answered the next line, and the reply wasn't put whole
  abbrev pub WasCut : {came gone : SourceContent} → Conversation came gone → A → A → Type 0
  WasCut c mid new = (reply : Reply) × (c.next ≡ Some reply) × IsAtNext c.unanswered (λ line. gives mid line reply new)

  -- What became of the machine behind the last reply that was put. For want of memory a script may end before it takes anything.
  abbrev pub IsOfNext : {came gone : SourceContent} → Conversation came gone → A → A → ScriptEnd → Type 0
  IsOfNext c mid new Bye = WasAskedNothing c mid new
  IsOfNext c mid new End = WasAskedNothing c mid new
  IsOfNext c mid new SourceFault = WasAskedNothing c mid new
  IsOfNext c mid new SinkFault = WasCut c mid new
  IsOfNext c mid new PlatformFault = HasStopped c mid new stops.PlatformFault
  IsOfNext c mid new Memory = (WasAskedNothing c mid new × (c.taken ≡ [])) ⊎ (HasStopped c mid new stops.Memory ⊎ WasCut c mid new)

  -- The lines were answered one after another, each by the machine as the one before left it, and the replies put in their order.
  pub record Served (came gone : SourceContent) (before after : SinkContent) (old new : A) (end : ScriptEnd) : Type 0 where
    pub conversation : Conversation came gone
    pub ended : HasAnswered conversation end
    -- the machine behind the last reply that was put
    pub mid : A
    pub answers : AnsweredAll gives old conversation.lines conversation.replies mid
    pub of_next : IsOfNext conversation mid new end
    pub held : IsTrue before.tells → HasHeld conversation before.held after.held end
