-- Each commit of a run leaves partitions 1 and 2 as a run makes them.
use Rattle.std.proofs.Common.{◌≡◌, ◌⊎◌, inl, inr, ⊎_elim, ◌==◌, ℕ, ◌≤◌, Bool, cond, true, false, List, [], ◌∷◌, ◌++◌, Option, Some, None, refl, sym, ◌∙◌, ap, subst, append-nil, append_assoc, arith, if◌then◌else◌}
use Rattle.std.proofs.lemmas.Bool.{eqb-true}
use Rattle.std.specs.FinMap.{get, insert, remove}
use Rattle.std.specs.Option.{option_map}
use Rattle.std.specs.Prelude.{nat_le}
use Rattle.tdb_base.specs.Trace.{WrittenPiece}
use Rattle.tdb_base.specs.declared.suite.Suite.{Suite}
use Rattle.tdb_model.specs.Apply.{History, apply, apply_all, copied, made, replay, state_of, with_chunk, with_partition}
use Rattle.tdb_model.specs.Limits.{rank_limit}
use Rattle.tdb_model.specs.Meanings.{Meanings}
use Rattle.tdb_model.specs.Opening.{opening_changes}
use Rattle.tdb_model.specs.State.{Partition, State, no_partitions}
use Rattle.tdb_model.specs.declared.change.Change.{Change}
use Rattle.tdb_model.proofs.MapLemmas.{get_inserted, get_removed}
use Rattle.tdb_platform.specs.CrashStates.{CrashStates}
use Rattle.tdb_platform.specs.Outside.{Anchor, Outside}
use Rattle.tdb_script.specs.LineSpelling.{LineValue, abort, begin, commit as commit_line, drop_part, get as get_line, new_note, parts, peek, quit, snapshot}
use Rattle.tdb_script.specs.NoteText.{stored_note_bytes}
use Rattle.tdb_script.specs.declared.reply.Reply.{Reply}
use Rattle.tdb_notes.specs.NotesMachine.{Begins, IsAt, IsTold, Runs, Step}
use Rattle.tdb_notes.specs.Script.{Answer, IsAnswer, IsAnswerIn, IsAnswerTo, IsAnswerToCommit, IsBegunBy, IsCommitAnswer, IsPartAnswer}
use Rattle.tdb_notes.specs.Script.{ScriptState, Transaction, abort_answer, begin_answer, changes_of, drop_changes, in_transaction}
use Rattle.tdb_notes.specs.Script.{new_answer, script_at, snapshot_changes, write_of}
use Rattle.tdb_notes.specs.declared.notes.Notes.{Notes}
use Rattle.tdb_serve.specs.Answering.{Session}
use Rattle.tdb_serve.specs.Replies.{Conversation}
use Rattle.tdb_serve.specs.Running.{NextRan}
use Rattle.tdb_serve.specs.declared.script_end.ScriptEnd.{ScriptEnd}
use Rattle.tdb_serve.specs.declared.script_end.ScriptEnd.TheVariants.{Bye, End, SourceFault, SinkFault, PlatformFault, Memory}
use Rattle.tdb_stream.specs.SourceContent.{SourceContent}
use Rattle.tdb_overlay.specs.Found.{Store, in_trace, store_of_text}
use Rattle.tdb_overlay.specs.Log.{IsLog}
use Rattle.tdb_overlay.specs.StoreState.{StoreState}
use Rattle.tdb_overlay.specs.WellFormedLog.{EachText}
use Rattle.tdb_overlay.proofs.LogLaws.{log_state}
use Rattle.tdb_overlay.proofs.OneLog.{log_is_one}
use Rattle.tdb_recover.specs.Pending.{IsTaken, Takes}
use Rattle.tdb_chunk.specs.StoreMeans.{store_means}
use Rattle.tdb_run.specs.Opens.{HasBoth, HasUserPartitions, IsMade, IsOpened, MayOpen, Opens}
use Rattle.tdb_run.specs.Ran.{RunRan}
use Rattle.tdb_run.specs.declared.status.Status.{Status}

-- Where partitions 1 and 2 were both made and no copies, or neither was there, and each text that was written before led to such a state,
-- it is so in each state that a first part of these commits leads to.
abbrev KeepsPartitions : StoreState → List WrittenPiece → List WrittenPiece → Store → History → History → Type 0
KeepsPartitions from before written store history all = HasUserPartitions from.chunks
    → IsOpened store.secret before → (a : Anchor) (front rest : History) (to : StoreState)
    → front ++ rest ≡ all → IsLog written store a (history ++ front) to → HasUserPartitions to.chunks

-- the change of a line that copies a partition to a number behind 1 and 2, or drops one
abbrev IsOfPart : List Change → Type 0
IsOfPart changes = (part : ℕ) × (3 ≤ part) × ((changes ≡ snapshot_changes part) ⊎ (changes ≡ drop_changes part))

-- the changes of a commit of a run: it makes the partitions, or writes notes, or copies or drops one partition
abbrev IsOfRun : List Change → Type 0
IsOfRun changes = ((suite : Suite) × (changes ≡ opening_changes suite))
    ⊎ ((notes : List (ℕ × List ℕ)) × (changes ≡ changes_of notes)) ⊎ IsOfPart changes

-- commits of a run
abbrev AreOfRun : History → Type 0
AreOfRun [] = Unit {0}
AreOfRun (commit ∷ commits) = IsOfRun commit.1 × AreOfRun commits

are_both : (first later : History) → AreOfRun first → AreOfRun later → AreOfRun (first ++ later)
are_both [] later one two = two
are_both (commit ∷ first) later one two = (one.0, are_both first later one.1 two)

are_first : (first later : History) → AreOfRun (first ++ later) → AreOfRun first
are_first [] later are = tt
are_first (commit ∷ first) later are = (are.0, are_first first later are.1)

none_of_run : (commits : History) → commits ≡ [] → AreOfRun commits
none_of_run commits is = subst AreOfRun (sym is) tt

-- what opens a store
opens_of_run : (suite : Suite) (before after : State) (opening : History) → Opens suite before opening after → AreOfRun opening
opens_of_run suite before after opening is = ⊎_elim (λ both. none_of_run opening both.1)
    (λ none. subst AreOfRun (sym none.1.1) (inl (suite, refl), tt)) is

may_open_of_run : (suite : Suite) (before : State) (maybe : History) → MayOpen suite before maybe → AreOfRun maybe
may_open_of_run suite before maybe is = ⊎_elim (λ none. none_of_run maybe none) (λ some. opens_of_run suite before some.0 maybe some.1) is

-- Making the partitions leaves them so, whatever was there.
makes_both : (suite : Suite) (count : ℕ) (state : State) → HasBoth (apply_all count state (opening_changes suite))
makes_both suite count state =
    let one : State = insert state 1 (made count 1 suite) in (
      subst IsMade (sym (get_inserted one 2 (made count 2 suite) 1 ∙ get_inserted state 1 (made count 1 suite) 1)) refl,
      subst IsMade (sym (get_inserted one 2 (made count 2 suite) 2)) refl,
    )

-- a note that is written
write_keeps : (state : State) (rank : ℕ) (bytes : List ℕ) (p : Option Partition) → get state 1 ≡ p → HasUserPartitions state
    → HasUserPartitions (with_partition state 1 (option_map (with_chunk rank bytes) p))
write_keeps state rank bytes None is has = has
write_keeps state rank bytes (Some p) is has =
    ⊎_elim
    (λ both. inl (
      subst IsMade (sym (get_inserted state 1 (with_chunk rank bytes p) 1)) (subst IsMade is both.0),
      subst IsMade (sym (get_inserted state 1 (with_chunk rank bytes p) 2)) both.1,
    ))
    (λ none. absurd (cc (none.0, is)))
    has

notes_keep : (count : ℕ) (notes : List (ℕ × List ℕ)) (state : State) → HasUserPartitions state
    → HasUserPartitions (apply_all count state (changes_of notes))
notes_keep count [] state has = has
notes_keep count (note ∷ notes) state has =
    notes_keep count notes (apply count state (write_of note)) (write_keeps state note.0 (stored_note_bytes note.1) (get state 1) refl has)

-- what another partition is
inserted_elsewhere : (state : State) (part : ℕ) (p : Partition) (q : ℕ) → (q ≡ part → ⊥) → get (insert state part p) q ≡ get state q
inserted_elsewhere state part p q apart = get_inserted state part p q ∙
    elim (q == part) as (λ (b : Bool). (q == part) ≡ b → cond b (Some p) (get state q) ≡ get state q) [
      | true ↦ λ at. absurd (apart (eqb-true q part at))
      | false ↦ λ at. refl
    ] refl

removed_elsewhere : (state : State) (part q : ℕ) → (q ≡ part → ⊥) → get (remove state part) q ≡ get state q
removed_elsewhere state part q apart = get_removed state part q ∙
    elim (q == part) as (λ (b : Bool). (q == part) ≡ b → cond b None (get state q) ≡ get state q) [
      | true ↦ λ at. absurd (apart (eqb-true q part at))
      | false ↦ λ at. refl
    ] refl

-- what holds of partitions 1 and 2 alone
same_keep : (state later : State) → get later 1 ≡ get state 1 → get later 2 ≡ get state 2 → HasUserPartitions state
    → HasUserPartitions later
same_keep state later one two has =
    ⊎_elim (λ both. inl (subst IsMade (sym one) both.0, subst IsMade (sym two) both.1))
    (λ none. inr (one ∙ none.0, two ∙ none.1)) has

-- a copy, where there is something to copy
copy_keeps : (count part : ℕ) → 3 ≤ part → (state : State) (p : Option Partition) → HasUserPartitions state
    → HasUserPartitions (with_partition state part (option_map (copied count 1) p))
copy_keeps count part behind state None has = has
copy_keeps count part behind state (Some p) has =
    same_keep state (insert state part (copied count 1 p))
    (inserted_elsewhere state part (copied count 1 p) 1 (λ same. absurd (omega (arith, behind, same))))
    (inserted_elsewhere state part (copied count 1 p) 2 (λ same. absurd (omega (arith, behind, same)))) has

part_keeps : (count : ℕ) (changes : List Change) → IsOfPart changes → (state : State) → HasUserPartitions state
    → HasUserPartitions (apply_all count state changes)
part_keeps count changes (part, behind, inl is) state has =
    subst (λ (cs : List Change). HasUserPartitions (apply_all count state cs)) (sym is)
    (copy_keeps count part behind state (get state 1) has)
part_keeps count changes (part, behind, inr is) state has =
    subst (λ (cs : List Change). HasUserPartitions (apply_all count state cs)) (sym is)
    (same_keep state (remove state part) (removed_elsewhere state part 1 (λ same. absurd (omega (arith, behind, same))))
    (removed_elsewhere state part 2 (λ same. absurd (omega (arith, behind, same)))) has)

replay_keeps : (commits : History) (state : State) → AreOfRun commits → HasUserPartitions state → HasUserPartitions (replay state commits)
replay_keeps [] state are has = has
replay_keeps (c ∷ commits) state are has =
    replay_keeps commits (apply_all c.0 state c.1) are.1
    (⊎_elim
    (λ opening. subst (λ (changes : List Change). HasUserPartitions (apply_all c.0 state changes)) (sym opening.1)
    (inl (makes_both opening.0 c.0 state)))
    (λ other. ⊎_elim
    (λ notes. subst (λ (changes : List Change). HasUserPartitions (apply_all c.0 state changes)) (sym notes.1)
    (notes_keep c.0 notes.0 state has))
    (λ part. part_keeps c.0 c.1 part state has) other)
    are.0)

replay_both : (state : State) (first later : History) → replay state (first ++ later) ≡ replay (replay state first) later
replay_both state [] later = refl
replay_both state (c ∷ first) later = replay_both (apply_all c.0 state c.1) first later

-- the state of a log is that of its history
state_is : (written : List WrittenPiece) (store : Store) (a : Anchor) (history : History) (last : StoreState)
    → IsLog written store a history last → last.chunks ≡ state_of history
state_is written store a history last is = log_state (in_trace written) store is.chain history last is.tells

-- What a run commits behind a log: the one commit that was begun there, where it is taken, and then commits of its own.
pub record CommitsOf (before : List WrittenPiece) (store : Store) (a : Anchor) (history : History) (from : StoreState)
    (all : History) : Type 0 where
  pub taken : History
  pub mid : StoreState
  pub takes : Takes before store a history from taken mid
  pub more : History
  pub of_run : AreOfRun more
  pub parts : all ≡ taken ++ more

-- commits of a run behind a history keep its partitions
behind : (history front rest more : History) → AreOfRun more → front ++ rest ≡ more → HasUserPartitions (state_of history)
    → HasUserPartitions (state_of (history ++ front))
behind history front rest more are cut has = subst HasUserPartitions (sym (replay_both no_partitions history front))
    (replay_keeps front (state_of history) (are_first front rest (subst AreOfRun (sym cut) are)) has)

-- A commit that is taken leaves such a state, where each text that was written did.
taken_keeps : (before : List WrittenPiece) (store : Store) (a : Anchor) (history taken : History) (from mid : StoreState)
    → IsTaken before store a history from taken mid → EachText before store.secret (λ last. HasUserPartitions last.chunks)
    → HasUserPartitions (state_of (history ++ taken))
taken_keeps before store a history taken from mid is each =
    let text = each is.text is.commit is.pending.was_written is.pending.accepted in
    let one = log_is_one before (store_of_text store.secret is.commit) store refl _ text.history (history ++ taken) text.last mid
    text.log is.log in
    subst HasUserPartitions (ap (λ (s : StoreState). s.chunks) one.1 ∙ state_is before store _ (history ++ taken) mid is.log) text.holds

-- A first part of commits is empty, or has the first of them.
fronts : (one : ℕ × List Change) (more front rest : History) → front ++ rest ≡ one ∷ more
    → (front ≡ []) ⊎ ((later : History) × (front ≡ one ∷ later) × (later ++ rest ≡ more))
fronts one more [] rest cut = inl refl
fronts one more (x ∷ front) rest cut =
    let first : x ≡ one = cc cut in
    let later : front ++ rest ≡ more = cc cut in
    inr (front, ap (λ (y : ℕ × List Change). y ∷ front) first, later)

-- Commits of a run behind a log keep its partitions, also behind the commit that is taken there.
pub keeps_partitions : (before after : List WrittenPiece) (store : Store) (a : Anchor) (history all : History) (from : StoreState)
    → IsLog before store a history from → CommitsOf before store a history from all → KeepsPartitions from before after store history all
keeps_partitions before after store a history all from is are has each b front rest to cut log =
    subst HasUserPartitions (sym (state_is after store b (history ++ front) to log)) (by_taken are.takes) where
      at_first : HasUserPartitions (state_of history)
      at_first = subst HasUserPartitions (state_is before store a history from is) has

      by_taken : Takes before store a history from are.taken are.mid → HasUserPartitions (state_of (history ++ front))
      by_taken (inr none) = behind history front rest are.more are.of_run
          (cut ∙ are.parts ∙ ap (λ (h : History). h ++ are.more) none.0) at_first
      by_taken (inl taken) =
          ⊎_elim
          (λ nothing. subst (λ (h : History). HasUserPartitions (state_of (history ++ h))) (sym nothing)
          (subst (λ (h : History). HasUserPartitions (state_of h)) (sym (append-nil history)) at_first))
          (λ some. subst (λ (h : History). HasUserPartitions (state_of (history ++ h))) (sym some.1)
          (subst (λ (h : History). HasUserPartitions (state_of h))
          (append_assoc history ((taken.commit.count, taken.changes) ∷ []) some.0)
          (behind (history ++ ((taken.commit.count, taken.changes) ∷ [])) some.0 rest are.more are.of_run some.2
          (subst (λ (h : History). HasUserPartitions (state_of (history ++ h))) taken.one
          (taken_keeps before store a history are.taken from are.mid taken each)))))
          (fronts (taken.commit.count, taken.changes) are.more front rest
          (cut ∙ are.parts ∙ ap (λ (h : History). h ++ are.more) taken.one))

-- the commits of an answer
abbrev AddsOfRun : Answer → Type 0
AddsOfRun given = AreOfRun given.added

either_of_run : (b : Bool) (one two : Answer) → AddsOfRun one → AddsOfRun two → AddsOfRun (if b then one else two)
either_of_run true one two is_one is_two = is_one
either_of_run false one two is_one is_two = is_two

begin_of_run : (state : ScriptState) (number : ℕ) (t : Option Transaction) → AddsOfRun (begin_answer state number t)
begin_of_run state number None = tt
begin_of_run state number (Some t) = either_of_run (t.number == number) _ _ tt tt

inside_of_run : (state : ScriptState) (number : ℕ) (answer : Transaction → Answer) (t : Option Transaction)
    → ((t : Transaction) → AddsOfRun (answer t)) → AddsOfRun (in_transaction state number answer t)
inside_of_run state number answer None each = tt
inside_of_run state number answer (Some t) each = either_of_run (t.number == number) _ _ (each t) tt

-- an answer of several to a line of the open transaction
one_of_run : (state : ScriptState) (number : ℕ) (answers : Transaction → Answer → Type 0) (t : Option Transaction) (given : Answer)
    → ((t : Transaction) → answers t given → AddsOfRun given) → IsAnswerIn state number answers t given → AddsOfRun given
one_of_run state number answers None given each is = subst AddsOfRun (sym is) tt
one_of_run state number answers (Some t) given each is = ⊎_elim (λ one. each t one.1) (λ other. subst AddsOfRun (sym other.1) tt) is

module _ {C : Type 0} (m : Meanings C) where
  commit_of_run : (old new : C) (state : ScriptState) (t : Transaction) (notes : List (ℕ × List ℕ)) (given : Answer)
      → IsCommitAnswer m old new state t (changes_of notes) given → AddsOfRun given
  commit_of_run old new state t [] given is = subst AddsOfRun (sym is) tt
  commit_of_run old new state t (note ∷ notes) given is =
      ⊎_elim (λ done. subst AddsOfRun (sym done.2) (inr (inl (note ∷ notes, refl)), tt)) (λ refused. subst AddsOfRun (sym refused.2) tt) is

  added_of_run : (old new : C) (state : ScriptState) (changes : List Change) (said : Reply) (next : ScriptState) (given : Answer)
      → IsOfRun changes → IsAnswerToCommit m old new state changes said next given → AddsOfRun given
  added_of_run old new state changes said next given of_run is =
      ⊎_elim (λ done. subst AddsOfRun (sym done.2) (of_run, tt)) (λ refused. subst AddsOfRun (sym refused.2) tt) is

  -- a line of a partition
  part_of_run : (state : ScriptState) (number : ℕ) (fits answers : Type 0) (given : Answer) → (fits → answers → AddsOfRun given)
      → IsPartAnswer state number fits answers given → AddsOfRun given
  part_of_run state number fits answers given each is = ⊎_elim (λ fitting. each fitting.0 fitting.1)
      (λ other. subst AddsOfRun (sym other.1) tt) is

  answer_of_run : (old new : C) (state : ScriptState) (line : LineValue) (given : Answer) → IsAnswer m old new state line given
      → AddsOfRun given
  answer_of_run old new state quit given is = subst AddsOfRun (sym is) tt
  answer_of_run old new state (begin number) given is = subst AddsOfRun (sym is) (begin_of_run state number state.transaction)
  answer_of_run old new state (new_note number text) given is =
      subst AddsOfRun (sym is) (inside_of_run state number (new_answer state text) state.transaction
      (λ t. either_of_run (nat_le rank_limit state.next_id) _ _ tt tt))
  answer_of_run old new state (get_line number id) given is =
      one_of_run state number _ state.transaction given (λ t one. subst AddsOfRun (sym one.2) tt) is
  answer_of_run old new state (abort number) given is =
      subst AddsOfRun (sym is) (inside_of_run state number (abort_answer state) state.transaction (λ t. tt))
  answer_of_run old new state (commit_line number) given is =
      one_of_run state number _ state.transaction given (λ t one. commit_of_run old new state t t.notes given one) is
  answer_of_run old new state (snapshot number) given is =
      part_of_run state number _ _ given
      (λ fits one. added_of_run old new state (snapshot_changes number) _ state given
      (inr (inr (number, fits.0.first, inl refl))) one) is
  answer_of_run old new state (drop_part number) given is =
      part_of_run state number _ _ given
      (λ fits one. added_of_run old new state (drop_changes number) _ state given
      (inr (inr (number, fits.0.first, inr refl))) one) is
  answer_of_run old new state (peek number id) given is =
      part_of_run state number _ _ given (λ fits one. subst AddsOfRun (sym one.2) tt) is
  answer_of_run old new state parts given is = subst AddsOfRun (sym is.2) tt

  line_of_run : (old new : C) (state : ScriptState) (bytes : List ℕ) (given : Answer) → IsAnswerTo m old new state bytes given
      → AddsOfRun given
  line_of_run old new state bytes given is =
      ⊎_elim (λ some. answer_of_run old new state some.0 given some.2) (λ none. subst AddsOfRun (sym none.1) tt) is

  begun_of_run : (old : C) (state : ScriptState) (line : LineValue) (maybe : History) → IsBegunBy m old state line maybe → AreOfRun maybe
  begun_of_run old state (commit_line number) maybe is = subst AreOfRun (sym is.3.2) (inr (inl (is.0.notes, refl)), tt)
  begun_of_run old state (snapshot number) maybe is =
      subst AreOfRun (sym is.1.2) (inr (inr (number, is.0.0.first, inl refl)), tt)
  begun_of_run old state (drop_part number) maybe is =
      subst AreOfRun (sym is.1.2) (inr (inr (number, is.0.0.first, inr refl)), tt)
  begun_of_run old state (peek number id) maybe is = absurd is
  begun_of_run old state parts maybe is = absurd is
  begun_of_run old state quit maybe is = absurd is
  begun_of_run old state (begin number) maybe is = absurd is
  begun_of_run old state (new_note number text) maybe is = absurd is
  begun_of_run old state (get_line number id) maybe is = absurd is
  begun_of_run old state (abort number) maybe is = absurd is

  -- the commits of a session
  session_of_run : (begun : Notes C) (first : ScriptState) (lines : List (List ℕ)) (replies : List Reply) (added : History)
      (now : Notes C) (last : ScriptState) → Session (Step m) (Runs m) begun first lines replies added now last → AreOfRun added
  session_of_run begun first [] [] added now last is = none_of_run added is.2
  session_of_run begun first (line ∷ lines) (reply ∷ replies) added now last is =
      subst AreOfRun (sym is.7)
      (are_both is.2 is.3 (line_of_run begun.store is.0.store first line _ is.4)
      (session_of_run is.0 is.1 lines replies is.3 now last is.6))
  session_of_run begun first [] (reply ∷ replies) added now last is = absurd is
  session_of_run begun first (line ∷ lines) [] added now last is = absurd is

  -- and what may stand behind them
  abbrev Next : {came gone : SourceContent} → Conversation came gone → Notes C → Notes C → ScriptState → History → History → ScriptEnd
      → Type 0
  Next c mid new last own maybe end = NextRan (IsTold m) (IsAt m) (Step m) (Begins m) (Runs m) c mid new last own maybe end

  module _ {came gone : SourceContent} (c : Conversation came gone) (mid new : Notes C) (last : ScriptState) (own maybe : History) where
    own_of_run : Next c mid new last own maybe SinkFault → AreOfRun (own ++ maybe)
    own_of_run is = are_both own maybe (line_of_run mid.store new.store last is.2.2.line _ is.2.2.holds.1) (none_of_run maybe is.0)

    maybe_of_run : Next c mid new last own maybe PlatformFault → AreOfRun (own ++ maybe)
    maybe_of_run is = are_both own maybe (none_of_run own is.0)
        (⊎_elim (λ none. none_of_run maybe none) (λ some. begun_of_run mid.store last some.holds.0 maybe some.holds.2) is.2)

    nothing_of_run : Next c mid new last own maybe End → AreOfRun (own ++ maybe)
    nothing_of_run is = are_both own maybe (none_of_run own is.1) (none_of_run maybe is.2)

    next_of_run : (end : ScriptEnd) → Next c mid new last own maybe end → AreOfRun (own ++ maybe)
    next_of_run Bye is = nothing_of_run is
    next_of_run End is = nothing_of_run is
    next_of_run SourceFault is = nothing_of_run is
    next_of_run SinkFault is = own_of_run is
    next_of_run PlatformFault is = maybe_of_run is
    next_of_run Memory is = ⊎_elim nothing_of_run (λ some. ⊎_elim maybe_of_run own_of_run some) is

-- all commits of a run
pub run_of_run : {D : Type 0} → (outside : D → Outside) (crash_states : D → CrashStates) (store : Store) {came gone : SourceContent}
    (c : Conversation came gone) (old new : D) (history : History) (from : StoreState) (status : Status)
    (r : RunRan outside crash_states store c old new history from status)
    → CommitsOf (outside old).trace.written store (outside old).anchor history from (r.opening ++ ((r.added ++ r.own) ++ r.maybe))
run_of_run outside crash_states store c old new history from status r =
    ⊎_elim
    (λ some. record {
      taken = some.1.taken;
      mid = some.1.mid;
      takes = some.1.takes;
      more = some.1.made ++ ((r.added ++ r.own) ++ r.maybe);
      of_run = are_both some.1.made ((r.added ++ r.own) ++ r.maybe)
          (opens_of_run store.suite some.1.mid.chunks some.0 some.1.made some.1.opens)
          (subst AreOfRun (sym (append_assoc r.added r.own r.maybe))
          (⊎_elim
          (λ begun. are_both r.added (r.own ++ r.maybe)
          (session_of_run (store_means outside crash_states) begun.script.first (script_at some.0) c.lines c.replies r.added
          begun.script.mid begun.script.final begun.script.session)
          (next_of_run (store_means outside crash_states) c begun.script.mid begun.script.last begun.script.final r.own r.maybe
          begun.script.end begun.script.next))
          (λ made. are_both r.added (r.own ++ r.maybe) (none_of_run r.added made.1.no_more.0)
          (are_both r.own r.maybe (none_of_run r.own made.1.no_more.1) (none_of_run r.maybe made.1.no_more.2)))
          some.2));
      parts = ap (λ (h : History). h ++ ((r.added ++ r.own) ++ r.maybe)) some.1.parts
          ∙ append_assoc some.1.taken some.1.made ((r.added ++ r.own) ++ r.maybe);
    })
    (λ none. record {
      taken = none.stops.taken;
      mid = none.stops.mid;
      takes = none.stops.takes;
      more = none.stops.made;
      of_run = may_open_of_run store.suite none.stops.mid.chunks none.stops.made none.stops.may_open;
      parts = ap (λ (h : History). r.opening ++ (h ++ r.maybe))
          (ap (λ (h : History). h ++ r.own) none.no_more.0 ∙ none.no_more.1) ∙ none.stops.parts;
    })
    r.course
