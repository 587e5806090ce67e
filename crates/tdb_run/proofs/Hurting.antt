-- A reply tells damage only where a chunk was hurt.
use Rattle.std.proofs.Common.{◌≡◌, ⊎_elim, ◌==◌, ℕ, Bool, true, false, List, [], ◌∷◌, Option, Some, None, sym, subst, if◌then◌else◌}
use Rattle.std.specs.Prelude.{nat_le}
use Rattle.tdb_base.specs.declared.names.PartId.{PartId}
use Rattle.tdb_base.specs.declared.names.Rank.{Rank}
use Rattle.tdb_model.specs.Limits.{rank_limit}
use Rattle.tdb_model.specs.Lookup.{chunk_at}
use Rattle.tdb_model.specs.Meanings.{Meanings}
use Rattle.tdb_model.specs.declared.change.Change.{Change}
use Rattle.tdb_model.specs.declared.error.CommitError.{CommitError}
use Rattle.tdb_model.specs.declared.error.CommitError.TheVariants as refusals
use Rattle.tdb_script.specs.LineSpelling.{LineValue, abort, begin, commit as commit_line, drop_part, get as get_line, new_note, parts, peek, quit, snapshot}
use Rattle.tdb_script.specs.declared.reply.Reply.{Reply}
use Rattle.tdb_script.specs.declared.reply.Reply.TheVariants.{Tampered}
use Rattle.tdb_notes.specs.Script.{Answer, IsAnswer, IsAnswerIn, IsAnswerTo, IsAnswerToCommit, IsChunkReply, IsCommitAnswer, IsHurt}
use Rattle.tdb_notes.specs.Script.{IsNoteReply, IsPartAnswer, IsReadReply, ScriptState, Transaction, abort_answer, begin_answer}
use Rattle.tdb_notes.specs.Script.{changes_of, closed, drop_changes, in_transaction, new_answer, notes_part, own_note, part_of}
use Rattle.tdb_notes.specs.Script.{refusal_reply, shown_got, shown_peeked, snapshot_changes}

module _ {C : Type 0} (m : Meanings C) (old new : C) where
  -- a chunk was hurt
  abbrev pub Hurt : Type 0
  Hurt = (part : PartId) × ((id : ℕ) × IsHurt m old new part id)

  -- so it was, where the reply tells damage
  abbrev pub ByHurt : Reply → Type 0
  ByHurt reply = (part : PartId) (rank : Rank) → reply ≡ Tampered part rank → Hurt

  abbrev AnswerByHurt : Answer → Type 0
  AnswerByHurt given = ByHurt given.reply

  either : (b : Bool) (one two : Answer) → AnswerByHurt one → AnswerByHurt two → AnswerByHurt (if b then one else two)
  either true one two is_one is_two = is_one
  either false one two is_one is_two = is_two

  by_begin : (state : ScriptState) (number : ℕ) (t : Option Transaction) → AnswerByHurt (begin_answer state number t)
  by_begin state number None = λ part rank is. absurd (cc is)
  by_begin state number (Some t) = either (t.number == number) _ _ (λ part rank is. absurd (cc is)) (λ part rank is. absurd (cc is))

  inside : (state : ScriptState) (number : ℕ) (answer : Transaction → Answer) (t : Option Transaction)
      → ((t : Transaction) → AnswerByHurt (answer t)) → AnswerByHurt (in_transaction state number answer t)
  inside state number answer None each = λ part rank is. absurd (cc is)
  inside state number answer (Some t) each = either (t.number == number) _ _ (each t) (λ part rank is. absurd (cc is))

  by_new : (state : ScriptState) (text : List ℕ) (t : Transaction) → AnswerByHurt (new_answer state text t)
  by_new state text t = either (nat_le rank_limit state.next_id) _ _ (λ part rank is. absurd (cc is)) (λ part rank is. absurd (cc is))

  -- an answer of several to a line of the open transaction
  one_of : (state : ScriptState) (number : ℕ) (answers : Transaction → Answer → Type 0) (t : Option Transaction) (given : Answer)
      → ((t : Transaction) → answers t given → AnswerByHurt given) → IsAnswerIn state number answers t given → AnswerByHurt given
  one_of state number answers None given each is = subst AnswerByHurt (sym is) (λ part rank told. absurd (cc told))
  one_of state number answers (Some t) given each is = ⊎_elim (λ one. each t one.1)
      (λ other. subst AnswerByHurt (sym other.1) (λ part rank told. absurd (cc told))) is

  by_chunk : (part : PartId) (id : ℕ) (shown : List ℕ → Reply) → ((text : List ℕ) → ByHurt (shown text)) → (chunk : Option (List ℕ))
      (reply : Reply) → IsChunkReply part id shown chunk reply → ByHurt reply
  by_chunk part id shown not None reply is = subst ByHurt (sym is) (λ part rank told. absurd (cc told))
  by_chunk part id shown not (Some chunk) reply is = ⊎_elim
      (λ got. subst ByHurt (sym got.2) (not got.0))
      (λ other. subst ByHurt (sym other.1) (λ part rank told. absurd (cc told))) is

  by_read : (state : ScriptState) (part : PartId) (id : ℕ) (shown : List ℕ → Reply) → ((text : List ℕ) → ByHurt (shown text))
      → (reply : Reply) → IsReadReply m old new state.chunks part id shown reply → ByHurt reply
  by_read state part id shown not reply is =
      ⊎_elim (λ chunk. by_chunk part id shown not (chunk_at state.chunks part.0 id) reply chunk)
      (λ hurt. λ told_part rank told. (part, (id, hurt.0))) is

  by_note : (state : ScriptState) (number id : ℕ) (own : Option (List ℕ)) (reply : Reply)
      → IsNoteReply m old new state.chunks number id own reply → ByHurt reply
  by_note state number id (Some text) reply is = subst ByHurt (sym is) (λ part rank told. absurd (cc told))
  by_note state number id None reply is =
      by_read state notes_part id (shown_got number id) (λ text part rank told. absurd (cc told)) reply is

  by_refusal : (e : CommitError) → ByHurt (refusal_reply e)
  by_refusal refusals.Stopped part rank is = absurd (cc is)
  by_refusal (refusals.TooManyChanges number) part rank is = absurd (cc is)
  by_refusal refusals.PartitionNumber part rank is = absurd (cc is)
  by_refusal (refusals.NoPartition number) part rank is = absurd (cc is)
  by_refusal (refusals.PartitionExists number) part rank is = absurd (cc is)
  by_refusal (refusals.PartitionTwice number) part rank is = absurd (cc is)
  by_refusal (refusals.Frozen number) part rank is = absurd (cc is)
  by_refusal refusals.RankTooLarge part rank is = absurd (cc is)
  by_refusal refusals.ChunkTooLong part rank is = absurd (cc is)
  by_refusal refusals.RingFull part rank is = absurd (cc is)
  by_refusal refusals.CounterEnd part rank is = absurd (cc is)
  by_refusal (refusals.NoRoom room) part rank is = absurd (cc is)
  by_refusal refusals.Memory part rank is = absurd (cc is)
  by_refusal refusals.Fault part rank is = absurd (cc is)

  by_added : (state : ScriptState) (changes : List Change) (said : Reply) (next : ScriptState) (given : Answer) → ByHurt said
      → IsAnswerToCommit m old new state changes said next given → AnswerByHurt given
  by_added state changes said next given not is =
      ⊎_elim (λ done. subst AnswerByHurt (sym done.2) not)
      (λ refused. subst AnswerByHurt (sym refused.2) (by_refusal refused.0)) is

  by_commit : (state : ScriptState) (t : Transaction) (changes : List Change) (given : Answer)
      → IsCommitAnswer m old new state t changes given → AnswerByHurt given
  by_commit state t [] given is = subst AnswerByHurt (sym is) (λ part rank told. absurd (cc told))
  by_commit state t (change ∷ changes) given is =
      by_added state (change ∷ changes) _ (closed state) given (λ part rank told. absurd (cc told)) is

  by_part : (state : ScriptState) (number : ℕ) (fits answers : Type 0) (given : Answer) → (answers → AnswerByHurt given)
      → IsPartAnswer state number fits answers given → AnswerByHurt given
  by_part state number fits answers given each is = ⊎_elim (λ fitting. each fitting.1)
      (λ other. subst AnswerByHurt (sym other.1) (λ part rank told. absurd (cc told))) is

  by_line : (state : ScriptState) (line : LineValue) (given : Answer) → IsAnswer m old new state line given → AnswerByHurt given
  by_line state quit given is = subst AnswerByHurt (sym is) (λ part rank told. absurd (cc told))
  by_line state (begin number) given is = subst AnswerByHurt (sym is) (by_begin state number state.transaction)
  by_line state (new_note number text) given is =
      subst AnswerByHurt (sym is) (inside state number (new_answer state text) state.transaction (by_new state text))
  by_line state (get_line number id) given is =
      one_of state number _ state.transaction given
      (λ t one. subst AnswerByHurt (sym one.2) (by_note state number id (own_note t.notes id) one.0 one.1)) is
  by_line state (abort number) given is =
      subst AnswerByHurt (sym is) (inside state number (abort_answer state) state.transaction (λ t part rank told. absurd (cc told)))
  by_line state (commit_line number) given is =
      one_of state number _ state.transaction given (λ t one. by_commit state t (changes_of t.notes) given one) is
  by_line state (snapshot number) given is =
      by_part state number _ _ given
      (λ one. by_added state (snapshot_changes number) _ state given (λ part rank told. absurd (cc told)) one) is
  by_line state (drop_part number) given is =
      by_part state number _ _ given
      (λ one. by_added state (drop_changes number) _ state given (λ part rank told. absurd (cc told)) one) is
  by_line state (peek number id) given is =
      by_part state number _ _ given
      (λ one. subst AnswerByHurt (sym one.2)
      (by_read state (part_of number) id (shown_peeked number id) (λ text part rank told. absurd (cc told)) one.0 one.1)) is
  by_line state parts given is = subst AnswerByHurt (sym is.2) (λ part rank told. absurd (cc told))

  -- what a line's bytes are answered
  pub by_bytes : (state : ScriptState) (bytes : List ℕ) (given : Answer) → IsAnswerTo m old new state bytes given → ByHurt given.reply
  by_bytes state bytes given is = ⊎_elim (λ some. by_line state some.0 given some.2)
      (λ none. subst AnswerByHurt (sym none.1) (λ part rank told. absurd (cc told))) is
