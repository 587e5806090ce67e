-- What a script has taken from its source, and what was answered.
use Rattle.std.specs.Prelude.{◌≡◌, ◌≢◌, ◌⊎◌, ◌≤◌, ℕ, List, [], ◌∷◌, ◌++◌, length, IsTrue, flat_map, Option}
use Rattle.std.specs.List.{All}
use Rattle.tdb_stream.specs.SourceContent.{SourceContent}
use Rattle.tdb_script.specs.ReplySpelling.{reply_spelling}
use Rattle.tdb_script.specs.declared.reply.Reply.{Reply}
use Rattle.tdb_script.specs.declared.reply.Reply.TheVariants as replies
use Rattle.tdb_serve.specs.Gave.{Gave, HasNoLineFeed}
use Rattle.tdb_serve.specs.declared.script_end.ScriptEnd.{ScriptEnd}
use Rattle.tdb_serve.specs.declared.script_lines.TheConstants.{MAX_SCRIPT_LENGTH, MAX_TAKE}
use Rattle.tdb_serve.specs.declared.script_end.ScriptEnd.TheVariants.{Bye, End, SourceFault, SinkFault, PlatformFault, Memory}

-- the bytes of lines, each with its line feed
abbrev pub lines_text : List (List ℕ) → List ℕ
lines_text lines = flat_map (λ line. line ++ 10 ∷ []) lines

-- the bytes of the replies, each with its line feed
abbrev pub replies_text : List Reply → List ℕ
replies_text replies = flat_map (λ reply. reply_spelling reply) replies

-- no line was answered `bye`
abbrev pub NoBye : List Reply → Type 0
NoBye rs = All (λ reply. reply ≢ replies.Bye) rs

-- the last line was answered `bye`, and no other
pub record EndsInBye (rs : List Reply) : Type 0 where
  pub before : List Reply
  pub all : rs ≡ before ++ replies.Bye ∷ []
  pub not_before : NoBye before

-- A source told nothing more, or as much was taken as a script takes.
abbrev pub IsTakenOut : SourceContent → List ℕ → Type 0
IsTakenOut source taken = (length taken ≡ MAX_SCRIPT_LENGTH) ⊎ (IsTrue source.tells → source.rest ≡ [])

-- What was done with the lines of the bytes that were taken.
pub record Conversation (came gone : SourceContent) : Type 0 where
  -- the bytes that were taken
  pub taken : List ℕ
  -- the first of their lines, whose replies were put, and what stands behind those
  pub lines : List (List ℕ)
  pub unanswered : List ℕ
  pub replies : List Reply
  -- the reply to the next line, where it wasn't put whole
  pub next : Option Reply
  pub gave : Gave came gone taken
  -- no more than a script takes
  pub limit : length taken ≤ MAX_SCRIPT_LENGTH
  pub split : taken ≡ lines_text lines ++ unanswered
  pub each : All HasNoLineFeed lines
  pub one_each : length replies ≡ length lines

-- Which lines a script that ends so has had answered. Behind `bye` stand at most as many bytes as one take asks
-- for. Where the
-- source failed every whole line had been answered.
abbrev pub HasAnswered : {came gone : SourceContent} → Conversation came gone → ScriptEnd → Type 0
HasAnswered c Bye = EndsInBye c.replies × (length c.unanswered ≤ MAX_TAKE)
HasAnswered {came} {gone} c End = NoBye c.replies × HasNoLineFeed c.unanswered × IsTakenOut gone c.taken
HasAnswered c SourceFault = NoBye c.replies × HasNoLineFeed c.unanswered
HasAnswered c SinkFault = NoBye c.replies
HasAnswered c PlatformFault = NoBye c.replies
HasAnswered c Memory = NoBye c.replies
