-- What is shown of a chunk, as a reply.
use Rattle.std.specs.Prelude.{ℕ, List}
use Rattle.tdb_script.specs.declared.reply.Reply.{Reply}
use Rattle.tdb_notes.specs.declared.answering.Found.{Found}
use Rattle.tdb_notes.specs.declared.answering.Found.TheVariants.{Note, Refused}

-- a note is shown as the line shows one
abbrev pub reply_of : (List ℕ → Reply) → Found → Reply
reply_of shown (Note text) = shown text
reply_of shown (Refused reply) = reply
