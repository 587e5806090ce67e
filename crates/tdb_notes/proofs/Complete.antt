-- Where nothing was hurt, no line is answered `tampered`.
use Rattle.std.proofs.Common.{◌≡◌, ◌∷◌, ⊎_elim, inl, inr, ℕ, Bool, true, false, List, [], Option, Some, None, sym, ◌∙◌, ap, subst}
use Rattle.std.specs.List.{AllByRecursion}
use Rattle.std.specs.Prelude.{◌==◌, nat_le, if◌then◌else◌}
use Rattle.tdb_base.specs.declared.names.PartId.{PartId}
use Rattle.tdb_model.specs.Apply.{History}
use Rattle.tdb_model.specs.IsLawful.{IsLawful}
use Rattle.tdb_model.specs.Limits.{rank_limit}
use Rattle.tdb_model.specs.Lookup.{chunk_at}
use Rattle.tdb_model.specs.Meanings.{Meanings}
use Rattle.tdb_model.specs.declared.change.Change.{Change}
use Rattle.tdb_model.specs.declared.error.CommitError.{CommitError}
use Rattle.tdb_model.specs.declared.error.CommitError.TheVariants as errors
use Rattle.tdb_stream.specs.SourceContent.{SourceContent}
use Rattle.tdb_script.specs.LineSpelling.{LineValue, begin, new_note, get, abort, commit, drop_part, parts, peek, quit, snapshot}
use Rattle.tdb_script.specs.declared.reply.Reply.{Reply}
use Rattle.tdb_serve.specs.Answering.{Session}
use Rattle.tdb_serve.specs.Replies.{Conversation}
use Rattle.tdb_serve.specs.Running.{NextRan, ScriptRan}
use Rattle.tdb_serve.specs.declared.script_end.ScriptEnd.{ScriptEnd}
use Rattle.tdb_serve.specs.declared.script_end.ScriptEnd.TheVariants.{Bye, End, SourceFault, SinkFault, PlatformFault, Memory}
use Rattle.tdb_notes.specs.NotesMachine.{Begins, IsAt, IsNotTampered, IsTold, IsUnhurt, Runs, Step}
use Rattle.tdb_notes.specs.Script.{Answer, IsAnswer, IsAnswerIn, IsAnswerTo, IsChunkReply, IsCommitAnswer, IsHurt, IsNoteReply}
use Rattle.tdb_notes.specs.Script.{ScriptState, Transaction, abort_answer, begin_answer, changes_of, in_transaction, new_answer}
use Rattle.tdb_notes.specs.Script.{IsAnswerToCommit, IsPartAnswer, IsReadReply, closed, drop_changes, notes_part, own_note, part_of}
use Rattle.tdb_notes.specs.Script.{refusal_reply, shown_got, shown_peeked, snapshot_changes}
use Rattle.tdb_notes.specs.declared.notes.Notes.{Notes}

-- a reply that is another one
other : (reply said : Reply) → reply ≡ said → IsNotTampered said → IsNotTampered reply
other reply said is not part rank tampered = not part rank (sym is ∙ tampered)

given_other : (given said : Answer) → given ≡ said → IsNotTampered said.reply → IsNotTampered given.reply
given_other given said is not = other given.reply said.reply (ap (λ (g : Answer). g.reply) is) not

of_either : (b : Bool) (x y : Answer) → IsNotTampered x.reply → IsNotTampered y.reply → IsNotTampered (if b then x else y).reply
of_either true x y one two = one
of_either false x y one two = two

begin_whole : (s : ScriptState) (number : ℕ) (t : Option Transaction) → IsNotTampered (begin_answer s number t).reply
begin_whole s number None = λ part rank e. absurd (cc e)
begin_whole s number (Some t) = of_either (t.number == number) _ _ (λ part rank e. absurd (cc e)) (λ part rank e. absurd (cc e))

transaction_whole : (s : ScriptState) (number : ℕ) (answer : Transaction → Answer) (t : Option Transaction)
    → ((t : Transaction) → IsNotTampered (answer t).reply) → IsNotTampered (in_transaction s number answer t).reply
transaction_whole s number answer None each = λ part rank e. absurd (cc e)
transaction_whole s number answer (Some t) each = of_either (t.number == number) _ _ (each t) (λ part rank e. absurd (cc e))

new_whole : (s : ScriptState) (text : List ℕ) (t : Transaction) → IsNotTampered (new_answer s text t).reply
new_whole s text t = of_either (nat_le rank_limit s.next_id) _ _ (λ part rank e. absurd (cc e)) (λ part rank e. absurd (cc e))

in_whole : (s : ScriptState) (number : ℕ) (answers : Transaction → Answer → Type 0) (t : Option Transaction) (given : Answer)
    → IsAnswerIn s number answers t given
    → ((t : Transaction) → answers t given → IsNotTampered given.reply) → IsNotTampered given.reply
in_whole s number answers None given is each = given_other given _ is (λ part rank e. absurd (cc e))
in_whole s number answers (Some t) given is each = ⊎_elim (λ own. each t own.1)
    (λ none. given_other given _ none.1 (λ part rank e. absurd (cc e))) is

chunk_whole : (part : PartId) (id : ℕ) (shown : List ℕ → Reply) → ((text : List ℕ) → IsNotTampered (shown text))
    → (chunk : Option (List ℕ)) (reply : Reply) → IsChunkReply part id shown chunk reply → IsNotTampered reply
chunk_whole part id shown not None reply is = other reply _ is (λ part rank e. absurd (cc e))
chunk_whole part id shown not (Some chunk) reply is = ⊎_elim (λ note. other reply _ note.2 (not note.0))
    (λ odd. other reply _ odd.1 (λ part rank e. absurd (cc e))) is

part_whole : (s : ScriptState) (number : ℕ) (fits answers : Type 0) (given : Answer) → (answers → IsNotTampered given.reply)
    → IsPartAnswer s number fits answers given → IsNotTampered given.reply
part_whole s number fits answers given each is = ⊎_elim (λ fitting. each fitting.1)
    (λ other. given_other given _ other.1 (λ part rank e. absurd (cc e))) is

refusal_whole : (e : CommitError) → IsNotTampered (refusal_reply e)
refusal_whole errors.Stopped = λ part rank e. absurd (cc e)
refusal_whole (errors.TooManyChanges number) = λ part rank e. absurd (cc e)
refusal_whole errors.PartitionNumber = λ part rank e. absurd (cc e)
refusal_whole (errors.NoPartition part) = λ part rank e. absurd (cc e)
refusal_whole (errors.PartitionExists part) = λ part rank e. absurd (cc e)
refusal_whole (errors.PartitionTwice part) = λ part rank e. absurd (cc e)
refusal_whole (errors.Frozen part) = λ part rank e. absurd (cc e)
refusal_whole errors.RankTooLarge = λ part rank e. absurd (cc e)
refusal_whole errors.ChunkTooLong = λ part rank e. absurd (cc e)
refusal_whole errors.RingFull = λ part rank e. absurd (cc e)
refusal_whole errors.CounterEnd = λ part rank e. absurd (cc e)
refusal_whole (errors.NoRoom room) = λ part rank e. absurd (cc e)
refusal_whole errors.Memory = λ part rank e. absurd (cc e)
refusal_whole errors.Fault = λ part rank e. absurd (cc e)

module _ {C : Type 0} (m : Meanings C) where
  read_whole : (a b : C) (s : ScriptState) (part : PartId) (id : ℕ) (shown : List ℕ → Reply)
      → ((text : List ℕ) → IsNotTampered (shown text)) → (reply : Reply) → IsUnhurt m a b
      → IsReadReply m a b s.chunks part id shown reply → IsNotTampered reply
  read_whole a b s part id shown not reply none is =
      ⊎_elim (λ chunk. chunk_whole part id shown not (chunk_at s.chunks part.0 id) reply chunk)
      (λ hurt. absurd (none part id hurt.0)) is

  note_whole : (a b : C) (s : ScriptState) (number id : ℕ) (own : Option (List ℕ)) (reply : Reply) → IsUnhurt m a b
      → IsNoteReply m a b s.chunks number id own reply → IsNotTampered reply
  note_whole a b s number id None reply none is =
      read_whole a b s notes_part id (shown_got number id) (λ text part rank e. absurd (cc e)) reply none is
  note_whole a b s number id (Some text) reply none is = other reply _ is (λ part rank e. absurd (cc e))

  added_whole : (a b : C) (s : ScriptState) (changes : List Change) (said : Reply) (next : ScriptState) (given : Answer)
      → IsNotTampered said → IsAnswerToCommit m a b s changes said next given → IsNotTampered given.reply
  added_whole a b s changes said next given not is = ⊎_elim (λ made. given_other given _ made.2 not)
      (λ refused. given_other given _ refused.2 (refusal_whole refused.0)) is

  commit_whole : (a b : C) (s : ScriptState) (t : Transaction) (changes : List Change) (given : Answer)
      → IsCommitAnswer m a b s t changes given → IsNotTampered given.reply
  commit_whole a b s t [] given is = given_other given _ is (λ part rank e. absurd (cc e))
  commit_whole a b s t (c ∷ changes) given is =
      added_whole a b s (c ∷ changes) _ (closed s) given (λ part rank e. absurd (cc e)) is

  line_whole : (a b : C) (s : ScriptState) (line : LineValue) (given : Answer) → IsUnhurt m a b → IsAnswer m a b s line given
      → IsNotTampered given.reply
  line_whole a b s quit given none is = given_other given _ is (λ part rank e. absurd (cc e))
  line_whole a b s (begin number) given none is = given_other given _ is (begin_whole s number s.transaction)
  line_whole a b s (new_note number text) given none is = given_other given _ is
      (transaction_whole s number (new_answer s text) s.transaction (new_whole s text))
  line_whole a b s (abort number) given none is = given_other given _ is
      (transaction_whole s number (abort_answer s) s.transaction (λ t part rank e. absurd (cc e)))
  line_whole a b s (get number id) given none is =
      in_whole s number _ s.transaction given is (λ t by. given_other given _ by.2
      (note_whole a b s number id (own_note t.notes id) by.0 none by.1))
  line_whole a b s (commit number) given none is = in_whole s number _ s.transaction given is
      (λ t by. commit_whole a b s t (changes_of t.notes) given by)
  line_whole a b s (snapshot number) given none is =
      part_whole s number _ _ given
      (λ by. added_whole a b s (snapshot_changes number) _ s given (λ part rank e. absurd (cc e)) by) is
  line_whole a b s (drop_part number) given none is =
      part_whole s number _ _ given
      (λ by. added_whole a b s (drop_changes number) _ s given (λ part rank e. absurd (cc e)) by) is
  line_whole a b s (peek number id) given none is =
      part_whole s number _ _ given
      (λ by. given_other given _ by.2
      (read_whole a b s (part_of number) id (shown_peeked number id) (λ text part rank e. absurd (cc e)) by.0 none by.1)) is
  line_whole a b s parts given none is = given_other given _ is.2 (λ part rank e. absurd (cc e))

  step_whole : (a b : C) (s : ScriptState) (bytes : List ℕ) (given : Answer) → IsUnhurt m a b → IsAnswerTo m a b s bytes given
      → IsNotTampered given.reply
  step_whole a b s bytes given none is = ⊎_elim (λ by. line_whole a b s by.0 given none by.2)
      (λ no. given_other given _ no.1 (λ part rank e. absurd (cc e))) is

  module _ (laws : IsLawful m) where
    -- what was hurt later, was hurt since before
    hurt_since : (a b c : C) (xs maybe : History) (part : PartId) (id : ℕ)
        → m.ran a xs maybe b → IsHurt m b c part id → IsHurt m a c part id
    hurt_since a b c xs maybe part id runs is =
        ⊎_elim (λ bad. inl (bad.0, laws.damage_before a b c xs maybe bad.0 _ runs bad.1))
        (λ odd. inr (odd.0, laws.malformed_before a b c xs maybe odd.0 runs odd.1)) is

    -- and stays so
    hurt_until : (a b c : C) (xs maybe : History) (part : PartId) (id : ℕ)
        → IsHurt m a b part id → m.ran b xs maybe c → IsHurt m a c part id
    hurt_until a b c xs maybe part id is runs =
        ⊎_elim (λ bad. inl (bad.0, laws.damage_stays a b c xs maybe bad.0 _ bad.1 runs))
        (λ odd. inr (odd.0, laws.malformed_stays a b c xs maybe odd.0 odd.1 runs)) is

    module _ (start : Notes C) where
      -- what wasn't hurt up to the end of a session, wasn't up to its beginning
      whole_before : (begun now : Notes C) (first last : ScriptState) (lines : List (List ℕ)) (rs : List Reply) (added : History)
          → Session (Step m) (Runs m) begun first lines rs added now last
          → IsUnhurt m start.store now.store → IsUnhurt m start.store begun.store
      whole_before begun now first last [] [] added session none part id is = none part id
          (subst (λ (a : Notes C). IsHurt m start.store a.store part id) (sym session.0) is)
      whole_before begun now first last (line ∷ lines) (r ∷ rs) added session none part id is =
          whole_before session.0 now session.1 last lines rs session.3 session.6 none part id
          (hurt_until start.store begun.store session.0.store session.2 [] part id is session.5)
      whole_before begun now first last [] (r ∷ rs) added session none part id is = absurd session
      whole_before begun now first last (line ∷ lines) [] added session none part id is = absurd session

      session_whole : (begun now : Notes C) (first last : ScriptState) (lines : List (List ℕ)) (rs : List Reply) (added : History)
          → ((q : Notes C) (part : PartId) (id : ℕ) → IsHurt m begun.store q.store part id → IsHurt m start.store q.store part id)
          → Session (Step m) (Runs m) begun first lines rs added now last → IsUnhurt m start.store now.store
          → AllByRecursion IsNotTampered rs
      session_whole begun now first last [] [] added front session none = tt
      session_whole begun now first last (line ∷ lines) (r ∷ rs) added front session none =
          let before = whole_before session.0 now session.1 last lines rs session.3 session.6 none in (
            step_whole begun.store session.0.store first line (record { reply = r; next = session.1; added = session.2 })
                (λ part id is. before part id (front session.0 part id is)) session.4,
            session_whole session.0 now session.1 last lines rs session.3
                (λ q part id is. front q part id
                (hurt_since begun.store session.0.store q.store session.2 [] part id session.5 is)) session.6 none,
          )
      session_whole begun now first last [] (r ∷ rs) added front session none = absurd session
      session_whole begun now first last (line ∷ lines) [] added front session none = absurd session

      module _ (came gone : SourceContent) (c : Conversation came gone) (new : Notes C) where
        -- up to the last reply that was put
        whole_mid : (mid : Notes C) (last : ScriptState) (own maybe : History) (end : ScriptEnd)
            → NextRan (IsTold m) (IsAt m) (Step m) (Begins m) (Runs m) c mid new last own maybe end
            → IsUnhurt m start.store new.store → IsUnhurt m start.store mid.store
        whole_mid mid last own maybe Bye next none part id is = none part id
            (subst (λ (a : Notes C). IsHurt m start.store a.store part id) (sym next.0) is)
        whole_mid mid last own maybe End next none part id is = none part id
            (subst (λ (a : Notes C). IsHurt m start.store a.store part id) (sym next.0) is)
        whole_mid mid last own maybe SourceFault next none part id is = none part id
            (subst (λ (a : Notes C). IsHurt m start.store a.store part id) (sym next.0) is)
        whole_mid mid last own maybe SinkFault next none part id is = none part id (hurt_until start.store mid.store new.store own [] part id is next.1)
        whole_mid mid last own maybe PlatformFault next none part id is = none part id
            (hurt_until start.store mid.store new.store [] maybe part id is next.1)
        whole_mid mid last own maybe Memory next none part id is =
            ⊎_elim (λ same. none part id (subst (λ (a : Notes C). IsHurt m start.store a.store part id) (sym same.0) is))
            (λ more. ⊎_elim (λ may. none part id (hurt_until start.store mid.store new.store [] maybe part id is may.1))
            (λ cut. none part id (hurt_until start.store mid.store new.store own [] part id is cut.1)) more) next

        pub none_tampered : (end : ScriptEnd) → ScriptRan (IsTold m) (IsAt m) (Step m) (Begins m) (Runs m) c start new end
            → m.told new.store → (state : ScriptState) → IsAt m start state
            → IsUnhurt m start.store new.store → AllByRecursion IsNotTampered c.replies
        none_tampered end r known state is none =
            let s = r.session known state is in
            session_whole start r.mid state s.0 c.lines c.replies r.added (λ q part id h. h) s.1 (whole_mid r.mid s.0 r.own r.maybe end s.2 none)
