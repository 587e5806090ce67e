-- What a partition in memory is changed to, and the state that follows.
use Rattle.std.proofs.Common.{◌≡◌, ℕ, List, [], ◌∷◌, map, Result, Ok, Err, OnErr, Option, Some, None, refl, sym, ◌∙◌, ap}
use Rattle.std.specs.BTreeMap as tree
use Rattle.std.specs.BTreeMap.{BTreeMap, UpdatesBy, WritesThrough}
use Rattle.std.specs.FinMap.{empty, get, insert, remove, from_entries}
use Rattle.std.specs.Global.{Vec}
use Rattle.std.specs.List.{AllZip}
use Rattle.std.specs.Option.{option_map}
use Rattle.std.specs.Ordering.{nat_cmp}
use Rattle.std.specs.Vec.{vec_len}
use Rattle.tdb_model.specs.Apply.{copied, with_partition}
use Rattle.tdb_model.specs.Memory.{chunk_bytes, partition_of, seen_as, state_in}
use Rattle.tdb_model.specs.State.{State, Partition}
use Rattle.tdb_model.specs.declared.memory.KeptPartition.{KeptPartition}
use Rattle.tdb_model.proofs.MapLemmas.{insert_again}
use Rattle.tdb_model.proofs.MemoryLemmas.{get_seen, seen_inserted, seen_removed, seen_written}

pub found_in : (m : BTreeMap ℕ KeptPartition) (state : State) (part : ℕ) (found : Option KeptPartition) → state_in m ≡ state → tree.get nat_cmp m part ≡ found → get state part ≡ option_map partition_of found
found_in m state part found is there = sym (ap (λ (s : State). get s part) is) ∙ get_seen partition_of m part ∙ ap (option_map partition_of) there

-- a partition is changed where it is there
pub changed : (m n : BTreeMap ℕ KeptPartition) (state : State) (part : ℕ) (old w : KeptPartition) (change : Partition → Partition)
    → state_in m ≡ state → tree.get nat_cmp m part ≡ Some old → WritesThrough nat_cmp (nat_cmp part) m w n → partition_of w ≡ change (partition_of old)
    → state_in n ≡ with_partition state part (option_map change (get state part))
changed m n state part old w change is there through same =
    seen_written partition_of m n part old w there through
    ∙ ap (λ (s : State). insert s part (partition_of w)) is
    ∙ ap (insert state part) same
    ∙ sym (ap (λ (o : Option Partition). with_partition state part (option_map change o)) (found_in m state part (Some old) is there))

-- it is written, and stays as it was
pub rewritten : (m n : BTreeMap ℕ KeptPartition) (state : State) (part : ℕ) (old w : KeptPartition)
    → state_in m ≡ state → tree.get nat_cmp m part ≡ Some old → WritesThrough nat_cmp (nat_cmp part) m w n → partition_of w ≡ partition_of old → state_in n ≡ state
rewritten m n state part old w is there through same =
    seen_written partition_of m n part old w there through
    ∙ ap (λ (s : State). insert s part (partition_of w)) is
    ∙ ap (insert state part) same
    ∙ insert_again state part (partition_of old) (found_in m state part (Some old) is there)

-- and nothing is where it isn't
pub absent : (m : BTreeMap ℕ KeptPartition) (state : State) (part : ℕ) (change : Partition → Partition)
    → state_in m ≡ state → tree.get nat_cmp m part ≡ None → state_in m ≡ with_partition state part (option_map change (get state part))
absent m state part change is there = is ∙ sym (ap (λ (o : Option Partition). with_partition state part (option_map change o)) (found_in m state part None is there))

-- a new partition
pub put : (m n : BTreeMap ℕ KeptPartition) (state : State) (part : ℕ) (w : KeptPartition) (p : Partition) → state_in m ≡ state → UpdatesBy nat_cmp (nat_cmp part) m n (Some w) → partition_of w ≡ p → state_in n ≡ insert state part p
put m n state part w p is updates same = seen_inserted partition_of m n part w updates ∙ ap (λ (s : State). insert s part (partition_of w)) is ∙ ap (insert state part) same

pub taken : (m n : BTreeMap ℕ KeptPartition) (state : State) (part : ℕ) → state_in m ≡ state → UpdatesBy nat_cmp (nat_cmp part) m n None → state_in n ≡ remove state part
taken m n state part is updates = seen_removed partition_of m n part updates ∙ ap (λ (s : State). remove s part) is

pub copied_to : (m n : BTreeMap ℕ KeptPartition) (state : State) (count from to : ℕ) (source w : KeptPartition) → state_in m ≡ state → tree.get nat_cmp m from ≡ Some source
    → UpdatesBy nat_cmp (nat_cmp to) m n (Some w) → partition_of w ≡ copied count from (partition_of source) → state_in n ≡ with_partition state to (option_map (copied count from) (get state from))
copied_to m n state count from to source w is there updates same =
    put m n state to w (copied count from (partition_of source)) is updates same
    ∙ sym (ap (λ (o : Option Partition). with_partition state to (option_map (copied count from) o)) (found_in m state from (Some source) is there))

pub copied_from_nothing : (m : BTreeMap ℕ KeptPartition) (state : State) (count from to : ℕ) → state_in m ≡ state → tree.get nat_cmp m from ≡ None → state ≡ with_partition state to (option_map (copied count from) (get state from))
copied_from_nothing m state count from to is there = sym (ap (λ (o : Option Partition). with_partition state to (option_map (copied count from) o)) (found_in m state from None is there))

-- clones have the same bytes
cloned_bytes : (xs ys : List ℕ) → AllZip (λ x y. y ≡ x) xs ys → ys ≡ xs
cloned_bytes [] [] is = refl
cloned_bytes [] (y ∷ ys) is = absurd is
cloned_bytes (x ∷ xs) [] is = absurd is
cloned_bytes (x ∷ xs) (y ∷ ys) is = λ i. is.0 i ∷ cloned_bytes xs ys is.1 i

cloned_entries : (es fs : List (ℕ × Vec ℕ)) → AllZip (λ e f. (f.0 ≡ e.0) × (AllZip (λ x y. y ≡ x) e.1.items f.1.items × (vec_len f.1 ≡ vec_len e.1))) es fs
    → map {B = ℕ × List ℕ} (λ e. (e.0, chunk_bytes e.1)) fs ≡ map {B = ℕ × List ℕ} (λ e. (e.0, chunk_bytes e.1)) es
cloned_entries [] [] is = refl
cloned_entries [] (f ∷ fs) is = absurd is
cloned_entries (e ∷ es) [] is = absurd is
cloned_entries (e ∷ es) (f ∷ fs) is = λ i. (is.0.0 i, cloned_bytes e.1.items f.1.items is.0.1.0 i) ∷ cloned_entries es fs is.1 i

pub cloned_chunks : (m n : BTreeMap ℕ (Vec ℕ)) → AllZip (λ e f. (f.0 ≡ e.0) × (AllZip (λ x y. y ≡ x) e.1.items f.1.items × (vec_len f.1 ≡ vec_len e.1))) m.entries n.entries
    → seen_as chunk_bytes n ≡ seen_as chunk_bytes m
cloned_chunks m n is = ap (λ (es : List (ℕ × List ℕ)). from_entries es) (cloned_entries m.entries n.entries is)

same_entries : (es fs : List (ℕ × KeptPartition)) → AllZip (λ e f. (f.0 ≡ e.0) × (partition_of f.1 ≡ partition_of e.1)) es fs
    → map {B = ℕ × Partition} (λ e. (e.0, partition_of e.1)) fs ≡ map {B = ℕ × Partition} (λ e. (e.0, partition_of e.1)) es
same_entries [] [] is = refl
same_entries [] (f ∷ fs) is = absurd is
same_entries (e ∷ es) [] is = absurd is
same_entries (e ∷ es) (f ∷ fs) is = λ i. (is.0.0 i, is.0.1 i) ∷ same_entries es fs is.1 i

-- clones of the partitions are the same state
pub cloned_state : (m n : BTreeMap ℕ KeptPartition) → AllZip (λ e f. (f.0 ≡ e.0) × (partition_of f.1 ≡ partition_of e.1)) m.entries n.entries → state_in n ≡ state_in m
cloned_state m n is = ap (λ (es : List (ℕ × Partition)). from_entries es) (same_entries m.entries n.entries is)

pub on_err_weaker : {T E P Q : Type 0} (r : Result T E) → (P → Q) → OnErr r P → OnErr r Q
on_err_weaker (Ok x) f is = is
on_err_weaker (Err e) f is = f is

-- a map without entries is the empty one
pub new_chunks : (m : BTreeMap ℕ (Vec ℕ)) → tree.IsEmpty m → seen_as chunk_bytes m ≡ empty
new_chunks m is = ap (λ (es : List (ℕ × Vec ℕ)). from_entries (map {B = ℕ × List ℕ} (λ e. (e.0, chunk_bytes e.1)) es)) is
