-- The replies to lines, as they are written.
use Rattle.std.specs.Prelude.{ℕ, List, [], ◌∷◌, ◌++◌, codes, decimal, length}
use Rattle.tdb_base.specs.declared.names.PartId.{PartId}
use Rattle.tdb_script.specs.declared.reply.Reply.{Reply}
use Rattle.tdb_script.specs.declared.reply.Reply.TheVariants.{Begun, Made, Got, Aborted, Committed, Snapshot, Dropped, Peeked, Parts, Bye}
use Rattle.tdb_script.specs.declared.reply.Reply.TheVariants.{RefusedUnbuilt, RefusedNoTransaction, RefusedOpen, RefusedNoObject}
use Rattle.tdb_script.specs.declared.reply.Reply.TheVariants.{RefusedPickle, RefusedIds, RefusedChanges, RefusedFull}
use Rattle.tdb_script.specs.declared.reply.Reply.TheVariants.{RefusedRing, RefusedCounter, RefusedPartition, Tampered}

-- numbers, each with a space before it
abbrev pub spaced : List PartId → List ℕ
spaced [] = []
spaced (part ∷ more) = codes " " ++ decimal part.0 ++ spaced more

-- a reply without its line feed
abbrev pub reply_text : Reply → List ℕ
reply_text (Begun transaction) = codes "begun " ++ decimal transaction.0
reply_text (Made transaction object) = codes "made " ++ decimal transaction.0 ++ codes " " ++ decimal object.0
reply_text (Got transaction object note) = codes "got " ++ decimal transaction.0 ++ codes " " ++ decimal object.0 ++ codes " note " ++ note
reply_text (Aborted transaction) = codes "aborted " ++ decimal transaction.0
reply_text (Committed transaction) = codes "committed " ++ decimal transaction.0
reply_text (Snapshot part) = codes "snapshot " ++ decimal part.0
reply_text (Dropped part) = codes "dropped " ++ decimal part.0
reply_text (Peeked part object note) = codes "peeked " ++ decimal part.0 ++ codes " " ++ decimal object.0 ++ codes " note " ++ note
reply_text (Parts numbers) = codes "parts " ++ decimal (length numbers.items) ++ spaced numbers.items
reply_text Bye = codes "bye"
reply_text RefusedUnbuilt = codes "refused unbuilt"
reply_text (RefusedNoTransaction transaction) = codes "refused no transaction " ++ decimal transaction.0
reply_text (RefusedOpen transaction) = codes "refused open " ++ decimal transaction.0
reply_text (RefusedNoObject part object) = codes "refused no object " ++ decimal part.0 ++ codes " " ++ decimal object.0
reply_text (RefusedPickle part object) = codes "refused pickle " ++ decimal part.0 ++ codes " " ++ decimal object.0
reply_text (RefusedIds part) = codes "refused ids " ++ decimal part.0
reply_text (RefusedChanges number) = codes "refused changes " ++ decimal number
reply_text (RefusedFull room) = codes "refused full " ++ decimal room.need ++ codes " " ++ decimal room.free
reply_text RefusedRing = codes "refused ring"
reply_text RefusedCounter = codes "refused counter"
reply_text (RefusedPartition part) = codes "refused partition " ++ decimal part.0
reply_text (Tampered part rank) = codes "tampered " ++ decimal part.0 ++ codes " " ++ decimal rank.0

-- a reply as it is put, with its line feed
abbrev pub reply_spelling : Reply → List ℕ
reply_spelling reply = reply_text reply ++ 10 ∷ []
