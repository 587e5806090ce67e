-- Which refusals the check of changes answers.
use Rattle.std.proofs.Common.{◌≡◌, ◌≢◌, ◌⊎◌, inl, inr, ⊎_elim, ◌<◌, Bool, true, false, List, [], ◌∷◌, ◌++◌, length, Option, Some, None, Err, if◌then◌else◌, nat_lt, refl, sym, ap, ◌∙◌, subst}
use Rattle.std.proofs.lemmas.Bool.{lt-ltb, ltb-true}
use Rattle.std.proofs.lemmas.Option.{same_Some, none-some}
use Rattle.std.specs.List.{AllByRecursion}
use Rattle.std.specs.Option.{option_or}
use Rattle.tdb_model.specs.Apply.{apply}
use Rattle.tdb_model.specs.Check.{check, check_commit, first_refusal, first_that_holds, refusal, tests_of}
use Rattle.tdb_model.specs.HasCommitted.{HasCommitted, CommitCause, IsRefusedBy}
use Rattle.tdb_model.specs.InMemory.{InMemory, memory_means, memory_lawful}
use Rattle.tdb_model.specs.Limits.{change_limit}
use Rattle.tdb_model.specs.State.{State}
use Rattle.tdb_model.specs.declared.change.Change.{Change}
use Rattle.tdb_model.specs.declared.change.Change.TheVariants.{Write, Free, Make, Copy, Drop}
use Rattle.tdb_model.specs.declared.error.CommitError.{CommitError}
use Rattle.tdb_model.specs.declared.error.CommitError.TheVariants.{Stopped, TooManyChanges, PartitionNumber, NoPartition, PartitionExists, PartitionTwice, Frozen, RankTooLarge, ChunkTooLong, RingFull, CounterEnd, NoRoom, Memory, Fault}
use Rattle.tdb_model.proofs.Passing.{stays_itself}

-- a refusal for one change, against those before it and the state
abbrev pub IsOfChange : CommitError → Type 0
IsOfChange Stopped = ⊥
IsOfChange (TooManyChanges number) = ⊥
IsOfChange PartitionNumber = Unit {0}
IsOfChange (NoPartition part) = Unit {0}
IsOfChange (PartitionExists part) = Unit {0}
IsOfChange (PartitionTwice part) = Unit {0}
IsOfChange (Frozen part) = Unit {0}
IsOfChange RankTooLarge = Unit {0}
IsOfChange ChunkTooLong = Unit {0}
IsOfChange RingFull = ⊥
IsOfChange CounterEnd = ⊥
IsOfChange (NoRoom room) = ⊥
IsOfChange Memory = ⊥
IsOfChange Fault = ⊥

of_tests : (tests : List (Bool × CommitError)) → AllByRecursion (λ t. IsOfChange t.1) tests → (e : CommitError)
    → first_that_holds tests ≡ Some e → IsOfChange e
of_tests [] all e is = absurd (none-some e is)
of_tests (t ∷ ts) all e is = elim t.0 as (λ (b : Bool). (if b then Some t.1 else first_that_holds ts) ≡ Some e → IsOfChange e) [
  | true ↦ λ here. subst IsOfChange (same_Some t.1 e here) all.0
  | false ↦ λ later. of_tests ts all.1 e later
] is

tests_are : (earlier : List Change) (state : State) (change : Change)
    → AllByRecursion (λ t. IsOfChange t.1) (tests_of earlier state change)
tests_are earlier state (Write part rank bytes) = (tt, (tt, (tt, (tt, (tt, tt)))))
tests_are earlier state (Free part rank) = (tt, (tt, (tt, (tt, tt))))
tests_are earlier state (Make part suite) = (tt, (tt, (tt, tt)))
tests_are earlier state (Copy from to) = (tt, (tt, (tt, (tt, tt))))
tests_are earlier state (Drop part) = (tt, (tt, (tt, tt)))

of_either : (first rest : Option CommitError) → ((e : CommitError) → first ≡ Some e → IsOfChange e)
    → ((e : CommitError) → rest ≡ Some e → IsOfChange e)
    → (e : CommitError) → option_or first rest ≡ Some e → IsOfChange e
of_either None rest one other e is = other e is
of_either (Some x) rest one other e is = one e is

of_changes : (earlier : List Change) (state : State) (changes : List Change) (e : CommitError)
    → first_refusal earlier state changes ≡ Some e → IsOfChange e
of_changes earlier state [] e is = absurd (none-some e is)
of_changes earlier state (change ∷ later) e is =
    of_either (refusal earlier state change) (first_refusal (earlier ++ change ∷ []) (apply 0 state change) later)
    (of_tests (tests_of earlier state change) (tests_are earlier state change))
    (of_changes (earlier ++ change ∷ []) (apply 0 state change) later) e is

-- a refusal for the number of changes, or for one of them
abbrev pub IsOfCheck : List Change → CommitError → Type 0
IsOfCheck changes e = ((e ≡ TooManyChanges (length changes)) × (change_limit < length changes)) ⊎ IsOfChange e

number_first : (state : State) (changes : List Change) → change_limit < length changes
    → check_commit state changes ≡ Some (TooManyChanges (length changes))
number_first state changes many =
    ap (λ (b : Bool). if b then Some (TooManyChanges (length changes)) else check state changes)
    (lt-ltb change_limit (length changes) many)

of_check : (state : State) (changes : List Change) (e : CommitError) → check_commit state changes ≡ Some e → IsOfCheck changes e
of_check state changes e is =
    elim (nat_lt change_limit (length changes)) as (λ (b : Bool). nat_lt change_limit (length changes) ≡ b
    → (if b then Some (TooManyChanges (length changes)) else check state changes) ≡ Some e → IsOfCheck changes e) [
      | true ↦ λ above many. inl (sym (same_Some (TooManyChanges (length changes)) e many), ltb-true change_limit (length changes) above)
      | false ↦ λ within few. inr (of_changes [] state changes e few)
    ] refl is

module _ (changes : List Change) (c : InMemory) where
  refused_by : (e : CommitError) → check_commit c.state changes ≡ Some e → IsRefusedBy memory_means changes c c e
  refused_by e is = λ told s at. subst (λ (t : State). check_commit t changes ≡ Some e) at is

  cause_of_change : (e : CommitError) → check_commit c.state changes ≡ Some e → IsOfChange e → CommitCause memory_means changes c c e
  cause_of_change Stopped is kind = absurd kind
  cause_of_change (TooManyChanges number) is kind = absurd kind
  cause_of_change PartitionNumber is kind = refused_by PartitionNumber is
  cause_of_change (NoPartition part) is kind = refused_by (NoPartition part) is
  cause_of_change (PartitionExists part) is kind = refused_by (PartitionExists part) is
  cause_of_change (PartitionTwice part) is kind = refused_by (PartitionTwice part) is
  cause_of_change (Frozen part) is kind = refused_by (Frozen part) is
  cause_of_change RankTooLarge is kind = refused_by RankTooLarge is
  cause_of_change ChunkTooLong is kind = refused_by ChunkTooLong is
  cause_of_change RingFull is kind = absurd kind
  cause_of_change CounterEnd is kind = absurd kind
  cause_of_change (NoRoom room) is kind = absurd kind
  cause_of_change Memory is kind = absurd kind
  cause_of_change Fault is kind = absurd kind

  cause_in_memory : (e : CommitError) → check_commit c.state changes ≡ Some e → IsOfCheck changes e
      → CommitCause memory_means changes c c e
  cause_in_memory e is kind = ⊎_elim
      (λ many. subst (λ (x : CommitError). CommitCause memory_means changes c c x) (sym many.0) (refl, many.1))
      (λ one. cause_of_change e is one) kind

  -- what a store in memory says of changes that its check refused
  pub refused_in_memory : (e : CommitError) {T : Type 0} → Some e ≡ check_commit c.state changes
      → HasCommitted memory_means changes c c {T = T} (Err e)
  refused_in_memory e {T} answer =
      let is : check_commit c.state changes ≡ Some e = sym answer in
      let kind : IsOfCheck changes e = of_check c.state changes e is in
      let no_fault : e ≢ Fault = λ fault.
      ⊎_elim (λ many. absurd (cc (sym many.0 ∙ fault))) (λ one. subst IsOfChange fault one) kind in
      record {
        ok = tt;
        begun = λ fault. absurd (no_fault (cc fault));
        refused = λ no. stays_itself memory_means memory_lawful c;
        faults = record { rose = λ fault. absurd (no_fault (cc fault)); none = λ no. refl };
        stops = λ fault. absurd (no_fault (cc fault));
        goes_on = λ no. refl;
        cause = cause_in_memory e is kind;
        first = λ stopped. absurd (cc stopped);
        many = λ goes above. inl (ap Err (same_Some e (TooManyChanges (length changes)) (answer ∙ number_first c.state changes above)));
        checked = λ told s at goes other refused.
            inl (ap Err (same_Some e other (answer ∙ ap (λ (t : State). check_commit t changes) at ∙ refused)));
        counted = λ told s at goes passes end.
            absurd (none-some e (sym passes ∙ sym (ap (λ (t : State). check_commit t changes) at) ∙ is));
      }
