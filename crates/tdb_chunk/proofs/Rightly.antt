-- What refusals say of themselves, whatever the log.
use Rattle.std.proofs.Common.{◌≡◌, ◌++◌, ℕ, Bool, true, false, cond, List, [], ◌∷◌, Option, Some, None, refl, sym, ◌∙◌, subst}
use Rattle.std.proofs.lemmas.Bool.{false≢true}
use Rattle.std.proofs.lemmas.Option.{none-some, same_Some}
use Rattle.std.specs.Option.{option_or}
use Rattle.tdb_model.specs.Apply.{apply}
use Rattle.tdb_model.specs.Check.{check, first_refusal, first_that_holds, refusal, tests_of}
use Rattle.tdb_model.specs.State.{State}
use Rattle.tdb_model.specs.declared.change.Change.{Change}
use Rattle.tdb_model.specs.declared.change.Change.TheVariants.{Write, Free, Make, Copy, Drop}
use Rattle.tdb_model.specs.declared.error.CommitError.{CommitError}
use Rattle.tdb_model.specs.declared.error.CommitError.TheVariants.{Stopped, TooManyChanges, PartitionNumber, NoPartition, PartitionExists, PartitionTwice, Frozen, RankTooLarge, ChunkTooLong, RingFull, CounterEnd, NoRoom, Memory, Fault}
use Rattle.tdb_chunk.specs.Committing.{IsRightOf, is_early}

module _ (number count : ℕ) where
  -- an answer that comes once records are laid
  pub late_right : (e : CommitError) → is_early e ≡ false → IsRightOf number count e
  late_right Stopped late = false≢true (sym late)
  late_right (TooManyChanges many) late = absurd (false≢true (sym late))
  late_right PartitionNumber late = tt
  late_right (NoPartition part) late = tt
  late_right (PartitionExists part) late = tt
  late_right (PartitionTwice part) late = tt
  late_right (Frozen part) late = tt
  late_right RankTooLarge late = tt
  late_right ChunkTooLong late = tt
  late_right RingFull late = tt
  late_right CounterEnd late = absurd (false≢true (sym late))
  late_right (NoRoom room) late = tt
  late_right Memory late = tt
  late_right Fault late = tt

  abbrev AllRight : List (Bool × CommitError) → Type 0
  AllRight [] = Unit {0}
  AllRight (test ∷ tests) = IsRightOf number count test.1 × AllRight tests

  one_right : (tests : List (Bool × CommitError)) (e : CommitError) → AllRight tests → first_that_holds tests ≡ Some e
      → IsRightOf number count e
  one_right [] e all is = absurd (none-some e is)
  one_right (test ∷ tests) e all is = by test.0 (λ later. one_right tests e all.1 later) is
    where
      by : (b : Bool) → (first_that_holds tests ≡ Some e → IsRightOf number count e)
          → cond b (Some test.1) (first_that_holds tests) ≡ Some e → IsRightOf number count e
      by true later is = subst (IsRightOf number count) (same_Some test.1 e is) all.0
      by false later is = later is

  tests_right : (earlier : List Change) (state : State) (change : Change) → AllRight (tests_of earlier state change)
  tests_right earlier state (Write part rank bytes) = (tt, (tt, (tt, (tt, (tt, tt)))))
  tests_right earlier state (Free part rank) = (tt, (tt, (tt, (tt, tt))))
  tests_right earlier state (Make part suite) = (tt, (tt, (tt, tt)))
  tests_right earlier state (Copy from to) = (tt, (tt, (tt, (tt, tt))))
  tests_right earlier state (Drop part) = (tt, (tt, (tt, tt)))

  first_right : (earlier : List Change) (state : State) (changes : List Change) (e : CommitError)
      → first_refusal earlier state changes ≡ Some e → IsRightOf number count e
  first_right earlier state [] e is = absurd (none-some e is)
  first_right earlier state (change ∷ later) e is =
      by (refusal earlier state change) refl (λ then. first_right (earlier ++ change ∷ []) (apply 0 state change) later e then) is
    where
      by : (o : Option CommitError) → refusal earlier state change ≡ o
          → (first_refusal (earlier ++ change ∷ []) (apply 0 state change) later ≡ Some e → IsRightOf number count e)
          → option_or o (first_refusal (earlier ++ change ∷ []) (apply 0 state change) later) ≡ Some e → IsRightOf number count e
      by (Some x) here then is = one_right (tests_of earlier state change) e (tests_right earlier state change) (here ∙ is)
      by None here then is = then is

  -- the answer of a check
  pub check_right : (state : State) (changes : List Change) (e : CommitError) → check state changes ≡ Some e → IsRightOf number count e
  check_right state changes e is = first_right [] state changes e is
