-- Lines that commit: the notes of a transaction, or one change of a partition.
use Rattle.std.proofs.Common.{◌≡◌, ◌≢◌, ◌⊎◌, ◌<◌, ◌≤◌, inl, inr, ⊎_elim, ℕ, List, [], ◌∷◌, Option, Some, None, length, false, refl, sym}
use Rattle.std.proofs.Common.{◌∙◌, ap, subst, arith}
use Rattle.std.proofs.lemmas.Bool.{false≢true, lt-ltb}
use Rattle.std.specs.Prelude.{Err, IfErr, IfOk, Ok, OnOk, Result, if◌then◌else◌}
use Rattle.tdb_base.specs.declared.names.TxId.{TxId}
use Rattle.tdb_base.specs.declared.piece.NoRoom.{NoRoom}
use Rattle.tdb_base.specs.declared.suite.Suite.TheVariants.{Plain}
use Rattle.tdb_model.specs.Apply.{History, apply_all}
use Rattle.tdb_model.specs.Check.{check, check_commit}
use Rattle.tdb_model.specs.HasCommitted.{HasCommitted}
use Rattle.tdb_model.specs.IsLawful.{IsLawful}
use Rattle.tdb_model.specs.Meanings.{Meanings}
use Rattle.tdb_model.specs.State.{State}
use Rattle.tdb_model.specs.declared.change.Change.{Change}
use Rattle.tdb_model.specs.declared.error.CommitError.{CommitError}
use Rattle.tdb_model.specs.declared.error.CommitError.TheVariants as errors
use Rattle.tdb_model.specs.InMemory.{InMemory}
use Rattle.tdb_model.specs.Limits.{change_limit}
use Rattle.tdb_model.proofs.RefusalLemmas.{refused_in_memory}
use Rattle.tdb_script.specs.LineSpelling.{LineValue, commit}
use Rattle.tdb_script.specs.declared.reply.Reply.{Reply}
use Rattle.tdb_script.specs.declared.reply.Reply.TheVariants.{Committed}
use Rattle.tdb_serve.specs.declared.script_end.Stop.{Stop}
use Rattle.tdb_serve.specs.declared.script_end.Stop.TheVariants as stops
use Rattle.tdb_notes.specs.NotesMachine.{IsAt, LineAnswered, LineUnanswered}
use Rattle.tdb_notes.specs.Script.{Answer, IsAnswer, IsAnswerToCommit, IsBegunBy, IsCommitAnswer, IsOneCommit, IsRefusedBy, ScriptState}
use Rattle.tdb_notes.specs.Script.{changes_of, closed, refusal_reply, replied, tx}
use Rattle.tdb_notes.specs.Script as script
use Rattle.tdb_notes.specs.SessionState.{IsSessionAt, notes_of, numbered, transaction_in, transaction_of}
use Rattle.tdb_notes.specs.declared.notes.Notes.{Notes}
use Rattle.tdb_notes.specs.declared.transaction.Transaction.{Transaction}
use Rattle.tdb_notes.specs.declared.transaction.NewNote.{NewNote}
use Rattle.tdb_notes.proofs.Lines.{pure_line, still_line, still_stop}
use Rattle.tdb_notes.proofs.Transactions.{answered_in, numbered_some, state_transaction}

-- What the check of changes never answers, as a store in memory shows that has this state.
module _ (changes : List Change) (s : State) where
  in_memory : InMemory
  in_memory = record { suite = Plain; count = 0; state = s }

  no_ring : check_commit s changes ≡ Some errors.RingFull → ⊥
  unfolding in_memory
  no_ring is = absurd (cc (refused_in_memory changes in_memory errors.RingFull {T = Unit {0}} (sym is)).cause.0)

  no_end : check_commit s changes ≡ Some errors.CounterEnd → ⊥
  unfolding in_memory
  no_end is =
      let limit = (refused_in_memory changes in_memory errors.CounterEnd {T = Unit {0}} (sym is)).cause.1 in
      absurd (omega (arith, limit))

  no_want_of_room : (room : NoRoom) → check_commit s changes ≡ Some (errors.NoRoom room) → ⊥
  unfolding in_memory
  no_want_of_room room is = absurd (cc (refused_in_memory changes in_memory (errors.NoRoom room) {T = Unit {0}} (sym is)).cause.0)

  too_many : (number : ℕ) → number ≡ length changes → change_limit < length changes
      → check_commit s changes ≡ Some (errors.TooManyChanges number)
  too_many number is many =
      ap (λ (b : _). if b then Some (errors.TooManyChanges (length changes)) else check s changes) (lt-ltb change_limit (length changes) many)
      ∙ ap (λ (n : ℕ). Some (errors.TooManyChanges n)) (sym is)

module _ {C T : Type 0} (m : Meanings C) (changes : List Change) (old new : C) (going : m.is_stopped old ≡ false) where
  -- a refusal for room comes where the state allows the changes
  allowed_by : (e : CommitError) → HasCommitted m changes old new {T = T} (Err e) → ((s : State) → check_commit s changes ≡ Some e → ⊥)
      → e ≢ errors.Memory → e ≢ errors.Fault
      → m.told new → (s : State) → m.state old s → (o : Option CommitError) → check_commit s changes ≡ o → o ≡ None
  allowed_by e h not_checked memory fault told s at None is = refl
  allowed_by e h not_checked memory fault told s at (Some x) is =
      ⊎_elim (λ same. absurd (not_checked s (is ∙ cc same)))
      (λ more. ⊎_elim (λ wants. absurd (memory (cc wants))) (λ fails. absurd (fault (cc fails))) more)
      (h.checked told s at going x is)

  -- the cause of a refusal
  pub refused_by : (e : CommitError) → HasCommitted m changes old new {T = T} (Err e) → e ≢ errors.Memory → e ≢ errors.Fault → m.told new
      → (s : State) → m.state old s → IsRefusedBy m new s changes e
  refused_by errors.Stopped h memory fault told s at = absurd (false≢true (sym going ∙ h.cause))
  refused_by (errors.TooManyChanges number) h memory fault told s at = inl (too_many changes s number h.cause.0 h.cause.1)
  refused_by errors.PartitionNumber h memory fault told s at = inl (h.cause told s at)
  refused_by (errors.NoPartition part) h memory fault told s at = inl (h.cause told s at)
  refused_by (errors.PartitionExists part) h memory fault told s at = inl (h.cause told s at)
  refused_by (errors.PartitionTwice part) h memory fault told s at = inl (h.cause told s at)
  refused_by (errors.Frozen part) h memory fault told s at = inl (h.cause told s at)
  refused_by errors.RankTooLarge h memory fault told s at = inl (h.cause told s at)
  refused_by errors.ChunkTooLong h memory fault told s at = inl (h.cause told s at)
  refused_by errors.RingFull h memory fault told s at = inr (
    allowed_by errors.RingFull h (λ s is. no_ring changes s is)
        memory fault told s at (check_commit s changes) refl,
    h.cause,
  )
  refused_by errors.CounterEnd h memory fault told s at = inr (
    allowed_by errors.CounterEnd h (λ s is. no_end changes s is) memory fault told s at (check_commit s changes)
        refl,
    h.cause.0,
  )
  refused_by (errors.NoRoom room) h memory fault told s at = inr (
    allowed_by (errors.NoRoom room) h (λ s is. no_want_of_room changes s room is) memory fault told s at
        (check_commit s changes) refl,
    h.cause,
  )
  refused_by errors.Memory h memory fault told s at = absurd (memory refl)
  refused_by errors.Fault h memory fault told s at = absurd (fault refl)

  -- what is committed the state allows
  pub allowed_ok : (x : T) → HasCommitted m changes old new {T = T} (Ok x) → m.told new → (s : State) → m.state old s
      → (o : Option CommitError) → check_commit s changes ≡ o → o ≡ None
  allowed_ok x h told s at None is = refl
  allowed_ok x h told s at (Some e) is = ⊎_elim (λ same. absurd (cc same))
      (λ more. ⊎_elim (λ wants. absurd (cc wants)) (λ fails. absurd (cc fails)) more) (h.checked told s at going e is)

-- a line that commits some changes, and what it says of them
module _ {C T : Type 0} (m : Meanings C) (laws : IsLawful m) (old new : Notes C) (line : LineValue) (reply : Reply)
    (next : ScriptState → ScriptState)
    (going : m.is_stopped old.store ≡ false) (changes : List Change)
    (answers : m.told old.store → (s : ScriptState) → IsAt m old s → (given : Answer)
    → IsAnswerToCommit m old.store new.store s changes reply (next s) given → IsAnswer m old.store new.store s line given) where
  -- they were committed
  pub made_line : (x : T) → HasCommitted m changes old.store new.store {T = T} (Ok x)
      → ((s : ScriptState) → IsSessionAt old.session s → IsSessionAt new.session (next s)) → LineAnswered m old line reply new
  made_line x h stands = (
    record {
      added = (m.count new.store, changes) ∷ [];
      runs = h.ok.runs;
      steps = λ known s at.
          let later : ScriptState = record (next s) { chunks = apply_all (m.count new.store) s.chunks changes } in
          let given : Answer = record { reply = reply; next = later; added = (m.count new.store, changes) ∷ [] } in
          let allowed = allowed_ok m changes old.store new.store going x h known s.chunks at.store (check_commit s.chunks changes) refl in
          let session = stands s at.session in (
            later,
            answers (laws.told_before old.store new.store _ _ h.ok.runs known) s at given (inl (allowed, h.ok.count, refl)),
            record {
              store = h.ok.state known s.chunks at.store;
              session = record { next_id = session.next_id; transaction = session.transaction };
            },
          );
    },
    h.faults.none (λ is. absurd (cc is)),
  )

  -- they were refused
  pub refused_line : (e : CommitError) → HasCommitted m changes old.store new.store {T = T} (Err e) → new.session ≡ old.session
      → (said : Reply) → e ≢ errors.Memory → e ≢ errors.Fault → said ≡ refusal_reply e
      → LineAnswered m old line said new
  refused_line e h session said memory fault is =
      still_line m old new line said (h.refused fault) session (h.faults.none (λ bad. fault (cc bad)))
      (λ known s at. answers (laws.told_before old.store new.store _ _ (h.refused fault).runs known) s at (replied said s)
      (inr (
        e,
        refused_by m changes old.store new.store going e h memory fault known s.chunks at.store,
        ap (λ (r : Reply). replied r s) is,
      )))

  pub tried_ok : (result : Result Reply Stop) (e : CommitError) → HasCommitted m changes old.store new.store {T = T} (Err e)
      → new.session ≡ old.session
      → IfOk result (λ said. (e ≢ errors.Memory) × (e ≢ errors.Fault) × (said ≡ refusal_reply e))
      → IfOk result (λ said. LineAnswered m old line said new)
  tried_ok (Ok said) e h session is = refused_line e h session said is.0 is.1 is.2
  tried_ok (Err stop) e h session is = tt

-- a commit that has no answer
module _ {C T : Type 0} (m : Meanings C) (laws : IsLawful m) (old new : Notes C) (line : LineValue)
    (going : m.is_stopped old.store ≡ false) (changes : List Change)
    (begins : m.told old.store → (s : ScriptState) → IsAt m old s → (maybe : History) → IsOneCommit m old.store changes maybe
    → IsBegunBy m old.store s line maybe) where
  -- it was begun and met a fault, or there was no memory for it
  pub stopped_line : (e : CommitError) → HasCommitted m changes old.store new.store {T = T} (Err e) → (stop : Stop)
      → ((e ≡ errors.Memory) × (stop ≡ stops.Memory)) ⊎ ((e ≡ errors.Fault) × (stop ≡ stops.PlatformFault))
      → LineUnanswered m old line stop new
  stopped_line e h stop (inl is) =
      let fine : e ≢ errors.Fault = λ bad. absurd (cc (bad, is.0)) in
      subst (λ (k : Stop). LineUnanswered m old line k new) (sym is.1)
      (still_stop m old new line stops.Memory (h.refused fine).runs (h.faults.none (λ bad. fine (cc bad))))
  stopped_line e h stop (inr is) =
      let begun = h.begun (ap Err is.0) in
      subst (λ (k : Stop). LineUnanswered m old line k new) (sym is.1) (
        record {
          maybe = (begun.count, changes) ∷ [];
          runs = begun.runs;
          begun = λ known s at. inr (begins (laws.told_before old.store new.store _ _ begun.runs known) s at _ (begun.count, begun.greater, refl));
        },
        h.faults.rose (ap Err is.0),
      )

  pub tried_err : (result : Result Reply Stop) (e : CommitError) → HasCommitted m changes old.store new.store {T = T} (Err e)
      → IfErr result (λ stop. ((e ≡ errors.Memory) × (stop ≡ stops.Memory)) ⊎ ((e ≡ errors.Fault) × (stop ≡ stops.PlatformFault)))
      → IfErr result (λ stop. LineUnanswered m old line stop new)
  tried_err (Ok reply) e h is = tt
  tried_err (Err stop) e h is = stopped_line e h stop is

  -- the store goes on behind a refusal
  pub tried_goes_on : (result : Result Reply Stop) (e : CommitError) → HasCommitted m changes old.store new.store {T = T} (Err e)
      → IfOk result (λ reply. (e ≢ errors.Memory) × (e ≢ errors.Fault) × (reply ≡ refusal_reply e))
      → OnOk result (m.is_stopped new.store ≡ false)
  tried_goes_on (Ok reply) e h is = h.goes_on (λ bad. is.1 (cc bad)) ∙ going
  tried_goes_on (Err stop) e h is = tt

-- The answer to a commit of some changes is that to a commit of a transaction with some notes.
commit_answer : {C : Type 0} (m : Meanings C) (old new : C) (s : ScriptState) (t : script.Transaction) (cs : List Change)
    (given : Answer) → 1 ≤ length cs → IsAnswerToCommit m old new s cs (Committed (tx t.number)) (closed s) given
    → IsCommitAnswer m old new s t cs given
commit_answer m old new s t [] given some is = absurd (omega (arith, some))
commit_answer m old new s t (c ∷ cs) given some is = is

-- the transaction of a machine, with the notes that it made
module _ {C : Type 0} (m : Meanings C) (old : Notes C) (new : C) (number : TxId) (open' : Transaction)
    (found : numbered old.session.transaction number ≡ Some open') (changes : List Change)
    (are : changes ≡ changes_of (notes_of open'.notes.items)) where
  -- a commit of it is answered by its changes
  pub commit_answers : 1 ≤ length changes → m.told old.store → (s : ScriptState) → IsAt m old s → (given : Answer)
      → IsAnswerToCommit m old.store new s changes (Committed number) (closed s) given
      → IsAnswer m old.store new s (commit number.0) given
  commit_answers some known s at given is =
      let same = (numbered_some old.session.transaction number open' found).same in
      answered_in old.session number open' found s at.session
      (λ t given. IsCommitAnswer m old.store new s t (changes_of t.notes) given) given
      (subst (λ (cs : List Change). IsCommitAnswer m old.store new s (transaction_of open') cs given) are
      (commit_answer m old.store new s (transaction_of open') changes given some
      (subst (λ (n : ℕ). IsAnswerToCommit m old.store new s changes (Committed (tx n)) (closed s) given) (sym same) is)))

  -- and begins them
  pub commit_begins : m.told old.store → (s : ScriptState) → IsAt m old s → (maybe : History)
      → IsOneCommit m old.store changes maybe → IsBegunBy m old.store s (commit number.0) maybe
  commit_begins known s at maybe is = (
    transaction_of open',
    state_transaction old.session number open' found s at.session,
    (numbered_some old.session.transaction number open' found).same,
    subst (λ (cs : List Change). IsOneCommit m old.store cs maybe) are is,
  )

-- A transaction that made nothing commits nothing.
empty_answer : {C : Type 0} (m : Meanings C) (old new : C) (s : ScriptState) (t : script.Transaction) (cs : List Change) (given : Answer)
    → cs ≡ [] → given ≡ replied (Committed (tx t.number)) (closed s) → IsCommitAnswer m old new s t cs given
empty_answer m old new s t [] given none is = is
empty_answer m old new s t (c ∷ cs) given none is = absurd (cc none)

-- a transaction that made nothing
pub empty_line : {C : Type 0} (m : Meanings C) → IsLawful m → (old new : Notes C) (number : TxId) (open' : Transaction)
    → numbered old.session.transaction number ≡ Some open' → length open'.notes.items ≡ 0
    → new.store ≡ old.store → transaction_in new.session.transaction ≡ None → new.session.next_id ≡ old.session.next_id
    → LineAnswered m old (commit number.0) (Committed number) new
empty_line m laws old new number open' found empty store none drawn =
    let same = (numbered_some old.session.transaction number open' found).same in
    pure_line m laws old new (commit number.0) (Committed number) store (λ s. replied (Committed number) (closed s))
    (λ s at. record { reply_is = refl; at = record { next_id = drawn ∙ at.next_id; transaction = none }; chunks = refl; none = refl })
    (λ s at.
    answered_in old.session number open' found s at (λ t given. IsCommitAnswer m old.store new.store s t (changes_of t.notes) given)
    (replied (Committed number) (closed s))
    (empty_answer m old.store new.store s (transaction_of open') (changes_of (notes_of open'.notes.items))
    (replied (Committed number) (closed s))
    (no_writes_of open'.notes.items empty) (ap (λ (n : ℕ). replied (Committed (tx n)) (closed s)) (sym same))))
  where
    no_writes_of : (notes : List NewNote) → length notes ≡ 0 → changes_of (notes_of notes) ≡ []
    no_writes_of [] none = refl
    no_writes_of (n ∷ notes) none = absurd (omega (arith, none))
