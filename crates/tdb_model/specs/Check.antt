-- Which changes are refused, and with what answer.
use Rattle.std.specs.Prelude.{◌==◌, Bool, false, ◌||◌, not, List, [], ◌∷◌, ◌++◌, length, Option, Some, None, nat_le, nat_lt, if◌then◌else◌}
use Rattle.std.specs.FinMap.{get, contains_key}
use Rattle.std.specs.List.{list_any}
use Rattle.std.specs.Option.{option_or}
use Rattle.tdb_base.specs.declared.names.PartId.{PartId}
use Rattle.tdb_model.specs.declared.change.Change.{Change}
use Rattle.tdb_model.specs.declared.change.Change.TheVariants.{Write, Free, Make, Copy, Drop}
use Rattle.tdb_model.specs.declared.error.CommitError.{CommitError}
use Rattle.tdb_model.specs.declared.error.CommitError.TheVariants.{TooManyChanges, PartitionNumber, NoPartition}
use Rattle.tdb_model.specs.declared.error.CommitError.TheVariants.{PartitionExists, PartitionTwice, Frozen}
use Rattle.tdb_model.specs.declared.error.CommitError.TheVariants.{RankTooLarge, ChunkTooLong}
use Rattle.tdb_model.specs.Apply.{apply}
use Rattle.tdb_model.specs.Limits.{partition_limit, rank_limit, chunk_limit, change_limit}
use Rattle.tdb_model.specs.State.{State, Partition}

-- the number is outside 1 to 4,095
abbrev pub is_no_number : PartId → Bool
is_no_number part = nat_lt part.0 1 || nat_lt partition_limit part.0

abbrev pub is_there : State → PartId → Bool
is_there state part = contains_key state part.0

abbrev pub is_absent : State → PartId → Bool
is_absent state part = not (is_there state part)

-- a partition that has a parent is a copy
abbrev pub has_parent : Option Partition → Bool
has_parent None = false
has_parent (Some p) = not (p.parent == 0)

-- no chunk of a copy is written or freed
abbrev pub is_frozen : State → PartId → Bool
is_frozen state part = has_parent (get state part.0)

-- the change makes or drops this partition, or copies to it
abbrev pub has_target : PartId → Change → Bool
has_target part (Write written rank bytes) = false
has_target part (Free freed rank) = false
has_target part (Make new suite) = new.0 == part.0
has_target part (Copy from to) = to.0 == part.0
has_target part (Drop dropped) = dropped.0 == part.0

-- one of these changes does
abbrev pub is_target : List Change → PartId → Bool
is_target changes part = list_any (has_target part) changes

-- the answer of the first test that holds
abbrev pub first_that_holds : List (Bool × CommitError) → Option CommitError
first_that_holds [] = None
first_that_holds (test ∷ tests) = if test.0 then Some test.1 else first_that_holds tests

-- What is tested of a change, in order, against the earlier changes of its commit and the state after them.
abbrev pub tests_of : List Change → State → Change → List (Bool × CommitError)
tests_of earlier state (Write part rank bytes) =
    (is_no_number part, PartitionNumber)
    ∷ (is_absent state part, NoPartition part)
    ∷ (is_frozen state part, Frozen part)
    ∷ (nat_le rank_limit rank.0, RankTooLarge)
    ∷ (nat_lt chunk_limit (length bytes), ChunkTooLong)
    ∷ []
tests_of earlier state (Free part rank) =
    (is_no_number part, PartitionNumber)
    ∷ (is_absent state part, NoPartition part)
    ∷ (is_frozen state part, Frozen part)
    ∷ (nat_le rank_limit rank.0, RankTooLarge)
    ∷ []
tests_of earlier state (Make part suite) =
    (is_no_number part, PartitionNumber)
    ∷ (is_target earlier part, PartitionTwice part)
    ∷ (is_there state part, PartitionExists part)
    ∷ []
tests_of earlier state (Copy from to) =
    (is_no_number from || is_no_number to, PartitionNumber)
    ∷ (is_target earlier to, PartitionTwice to)
    ∷ (is_absent state from, NoPartition from)
    ∷ (is_there state to, PartitionExists to)
    ∷ []
tests_of earlier state (Drop part) =
    (is_no_number part, PartitionNumber)
    ∷ (is_target earlier part, PartitionTwice part)
    ∷ (is_absent state part, NoPartition part)
    ∷ []

-- why a change is refused
abbrev pub refusal : List Change → State → Change → Option CommitError
refusal earlier state change = first_that_holds (tests_of earlier state change)

-- The answer to the first of the later changes that is refused, each against the state after those before it. No test
-- reads a count, so that of the commit doesn't matter, and 0 stands for it.
abbrev pub first_refusal : List Change → State → List Change → Option CommitError
first_refusal earlier state [] = None
first_refusal earlier state (change ∷ later) = option_or (refusal earlier state change)
    (first_refusal (earlier ++ change ∷ []) (apply 0 state change) later)

-- why the changes of a commit are refused, but for their number
abbrev pub check : State → List Change → Option CommitError
check state changes = first_refusal [] state changes

-- The same with their number, which is tested first.
abbrev pub check_commit : State → List Change → Option CommitError
check_commit state changes = if nat_lt change_limit (length changes) then Some (TooManyChanges (length changes)) else check state changes
