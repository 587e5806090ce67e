-- What changes that pass the check keep.
use Rattle.std.proofs.Common.{◌≡◌, ℕ, ◌+◌, ◌<◌, ◌≤◌, max, Bool, true, false, cond, ◌||◌, List, [], ◌∷◌, ◌++◌, length, Option, Some, None, nat_lt, refl, sym, ◌∙◌, arith}
use Rattle.std.proofs.lemmas.Bool.{not-false, ltb-false, leb-false, both_ways}
use Rattle.std.proofs.lemmas.Option.{none-some}
use Rattle.std.specs.FinMap.{get, insert, get-empty}
use Rattle.std.specs.Option.{option_map, option_or}
use Rattle.std.specs.Ordering.{nat_cmp}
use Rattle.tdb_base.specs.declared.names.PartId.{PartId}
use Rattle.tdb_base.specs.declared.names.Rank.{Rank}
use Rattle.tdb_base.specs.declared.suite.Suite.{Suite}
use Rattle.tdb_model.specs.Apply.{with_chunk, without_chunk, made, copied, with_partition, apply, apply_all}
use Rattle.tdb_model.specs.Check.{is_no_number, is_there, is_frozen, first_that_holds, tests_of, refusal, first_refusal}
use Rattle.tdb_model.specs.InRange.{IsChunkInRange, IsPartitionInRange, IsEntryInRange, IsInRange}
use Rattle.tdb_model.specs.State.{State, Partition, no_partitions}
use Rattle.tdb_model.specs.declared.change.Change.{Change}
use Rattle.tdb_model.specs.declared.change.Change.TheVariants.{Write, Free, Make, Copy, Drop}
use Rattle.tdb_model.specs.declared.error.CommitError.{CommitError}
use Rattle.tdb_model.proofs.MapLemmas.{found_inserted, found_removed}
use Rattle.tdb_model.proofs.ParentLemmas.{first_refusal_at}

-- none of the tests holds
abbrev pub NoneHolds : List (Bool × CommitError) → Type 0
NoneHolds [] = Unit {0}
NoneHolds (test ∷ tests) = (test.0 ≡ false) × NoneHolds tests

failed : (test : Bool) (answer : CommitError) (later : Option CommitError) → cond test (Some answer) later ≡ None → (test ≡ false) × (later ≡ None)
failed true answer later is = absurd (none-some answer (sym is))
failed false answer later is = (refl, is)

pub passed : (tests : List (Bool × CommitError)) → first_that_holds tests ≡ None → NoneHolds tests
passed [] is = tt
passed (test ∷ tests) is = let both = failed test.0 test.1 (first_that_holds tests) is in (both.0, passed tests both.1)

pub option_or_none : {X : Type 0} (one other : Option X) → option_or one other ≡ None → (one ≡ None) × (other ≡ None)
option_or_none None other is = (refl, is)
option_or_none (Some x) other is = absurd (none-some x (sym is))

pub or_false : (one other : Bool) → (one || other) ≡ false → (one ≡ false) × (other ≡ false)
or_false true other is = absurd (both_ways true is refl)
or_false false other is = (refl, is)

number_in_range : (part : PartId) → is_no_number part ≡ false → (1 ≤ part.0) × (part.0 ≤ 4095)
number_in_range part is = let both = or_false (nat_lt part.0 1) (nat_lt 4095 part.0) is in (ltb-false part.0 1 both.0, ltb-false 4095 part.0 both.1)

-- what a change that passes has
pub write_in_range : (earlier : List Change) (state : State) (part : PartId) (rank : Rank) (bytes : List ℕ) → refusal earlier state (Write part rank bytes) ≡ None
    → (is_frozen state part ≡ false) × (rank.0 < 262144) × (length bytes ≤ 65536)
write_in_range earlier state part rank bytes is =
    let fails = passed (tests_of earlier state (Write part rank bytes)) is in
    (fails.1.1.0, leb-false 262144 rank.0 fails.1.1.1.0, ltb-false 65536 (length bytes) fails.1.1.1.1.0)

pub free_in_range : (earlier : List Change) (state : State) (part : PartId) (rank : Rank) → refusal earlier state (Free part rank) ≡ None → is_frozen state part ≡ false
free_in_range earlier state part rank is = let fails = passed (tests_of earlier state (Free part rank)) is in fails.1.1.0

pub make_in_range : (earlier : List Change) (state : State) (part : PartId) (suite : Suite) → refusal earlier state (Make part suite) ≡ None
    → (1 ≤ part.0) × (part.0 ≤ 4095) × (is_there state part ≡ false)
make_in_range earlier state part suite is =
    let fails = passed (tests_of earlier state (Make part suite)) is in
    let range = number_in_range part fails.0 in
    (range.0, range.1, fails.1.1.0)

pub copy_in_range : (earlier : List Change) (state : State) (from to : PartId) → refusal earlier state (Copy from to) ≡ None
    → (from.0 ≤ 4095) × (1 ≤ to.0) × (to.0 ≤ 4095) × (is_there state from ≡ true) × (is_there state to ≡ false)
copy_in_range earlier state from to is =
    let fails = passed (tests_of earlier state (Copy from to)) is in
    let both = or_false (is_no_number from) (is_no_number to) fails.0 in
    let source = number_in_range from both.0 in
    let range = number_in_range to both.1 in
    (source.1, range.0, range.1, not-false (is_there state from) fails.1.1.0, fails.1.1.1.0)

wider : (next more rank : ℕ) (bytes : List ℕ) → next ≤ more → IsChunkInRange next rank bytes → IsChunkInRange more rank bytes
wider next more rank bytes least is = record { below_next = let below : rank < next = is.below_next in omega arith; short = is.short }

with_chunk_in_range : (rank : ℕ) (bytes : List ℕ) (p : Partition) → rank < 262144 → length bytes ≤ 65536 → IsPartitionInRange p → IsPartitionInRange (with_chunk rank bytes p)
with_chunk_in_range rank bytes p below short is = record {
  some_home = is.some_home;
  home = is.home;
  birth = is.birth;
  next = let before : p.next ≤ 262144 = is.next in omega arith;
  parent = is.parent;
  born = is.born;
  chunks = λ q found there. found_inserted p.chunks rank bytes (λ n x. IsChunkInRange (max p.next (rank + 1)) n x) (record { below_next = omega arith; short = short }) q found
      (λ was. wider p.next (max p.next (rank + 1)) q found (omega arith) (is.chunks q found was)) there;
}

without_chunk_in_range : (rank : ℕ) (p : Partition) → IsPartitionInRange p → IsPartitionInRange (without_chunk rank p)
without_chunk_in_range rank p is = record {
  some_home = is.some_home;
  home = is.home;
  birth = is.birth;
  next = is.next;
  parent = is.parent;
  born = is.born;
  chunks = λ q found there. is.chunks q found (found_removed p.chunks rank q found there);
}

made_in_range : (count part : ℕ) (suite : Suite) → 1 ≤ count → 1 ≤ part → part ≤ 4095 → IsPartitionInRange (made count part suite)
made_in_range count part suite counted some number = record {
  some_home = some;
  home = number;
  birth = counted;
  next = omega arith;
  parent = omega arith;
  born = counted;
  chunks = λ q found there. absurd (none-some found (sym (get-empty nat_cmp q) ∙ there));
}

copied_in_range : (count from : ℕ) (p : Partition) → 1 ≤ count → from ≤ 4095 → IsPartitionInRange p → IsPartitionInRange (copied count from p)
copied_in_range count from p counted source is = record {
  some_home = is.some_home;
  home = is.home;
  birth = is.birth;
  next = is.next;
  parent = source;
  born = counted;
  chunks = is.chunks;
}

with_entry : (state : State) (part : ℕ) (p : Partition) → IsInRange state → IsEntryInRange part p → IsInRange (insert state part p)
with_entry state part p is entry q found there = found_inserted state part p IsEntryInRange entry q found (is q found) there

changed_in_range : (state : State) (part : ℕ) (change : Partition → Partition) (found : Option Partition) → get state part ≡ found → IsInRange state
    → ((p : Partition) → IsPartitionInRange p → IsPartitionInRange (change p)) → IsInRange (with_partition state part (option_map change found))
changed_in_range state part change None there is keeps = is
changed_in_range state part change (Some p) there is keeps =
    let entry = is part p there in
    with_entry state part (change p) is (record { some = entry.some; number = entry.number; partition = keeps p entry.partition })

copy_changed_in_range : (count : ℕ) (state : State) (from to : ℕ) (found : Option Partition) → get state from ≡ found → IsInRange state
    → 1 ≤ count → from ≤ 4095 → 1 ≤ to → to ≤ 4095 → IsInRange (with_partition state to (option_map (copied count from) found))
copy_changed_in_range count state from to None there is counted source some number = is
copy_changed_in_range count state from to (Some p) there is counted source some number =
    with_entry state to (copied count from p) is (record { some = some; number = number; partition = copied_in_range count from p counted source (is from p there).partition })

pub apply_in_range : (count : ℕ) (earlier : List Change) (state : State) (change : Change) → 1 ≤ count → IsInRange state → refusal earlier state change ≡ None → IsInRange (apply count state change)
apply_in_range count earlier state (Write part rank bytes) counted is passes =
    let range = write_in_range earlier state part rank bytes passes in
    changed_in_range state part.0 (with_chunk rank.0 bytes) (get state part.0) refl is (λ p. with_chunk_in_range rank.0 bytes p range.1 range.2)
apply_in_range count earlier state (Free part rank) counted is passes =
    changed_in_range state part.0 (without_chunk rank.0) (get state part.0) refl is (λ p. without_chunk_in_range rank.0 p)
apply_in_range count earlier state (Make part suite) counted is passes =
    let range = make_in_range earlier state part suite passes in
    with_entry state part.0 (made count part.0 suite) is (record { some = range.0; number = range.1; partition = made_in_range count part.0 suite counted range.0 range.1 })
apply_in_range count earlier state (Copy from to) counted is passes =
    let range = copy_in_range earlier state from to passes in
    copy_changed_in_range count state from.0 to.0 (get state from.0) refl is counted range.0 range.1 range.2
apply_in_range count earlier state (Drop part) counted is passes = λ q found there. is q found (found_removed state part.0 q found there)

pub apply_all_in_range : (count : ℕ) (earlier : List Change) (state : State) (changes : List Change) → 1 ≤ count → IsInRange state → first_refusal earlier state changes ≡ None → IsInRange (apply_all count state changes)
apply_all_in_range count earlier state [] counted is passes = is
apply_all_in_range count earlier state (change ∷ later) counted is passes =
    let both = option_or_none (refusal earlier state change) _ (sym (first_refusal_at count earlier state change later) ∙ passes) in
    apply_all_in_range count (earlier ++ change ∷ []) (apply count state change) later counted (apply_in_range count earlier state change counted is both.0) both.1

pub empty_in_range : IsInRange no_partitions
empty_in_range q found there = absurd (none-some found (sym (get-empty nat_cmp q) ∙ there))
