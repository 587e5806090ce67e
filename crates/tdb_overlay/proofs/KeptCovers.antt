-- What a partition in memory is changed to, and the covers that follow.
use Rattle.std.proofs.Common.{◌≡◌, ℕ, List, [], ◌∷◌, map, Option, Some, None, refl, sym, ◌∙◌, ap}
use Rattle.std.specs.BTreeMap as tree
use Rattle.std.specs.BTreeMap.{BTreeMap, UpdatesBy, WritesThrough}
use Rattle.std.specs.FinMap.{empty, get, insert, remove, from_entries}
use Rattle.std.specs.List.{AllZip}
use Rattle.std.specs.Option.{option_map}
use Rattle.std.specs.Ordering.{nat_cmp}
use Rattle.tdb_base.specs.declared.piece.Piece.{Piece}
use Rattle.tdb_model.specs.Memory.{seen_as}
use Rattle.tdb_model.proofs.MemoryLemmas.{get_seen, seen_inserted, seen_removed, seen_written}
use Rattle.tdb_overlay.specs.Covering.{Covered, Covers, with_cover, cover_copied}
use Rattle.tdb_overlay.specs.Memory.{covered_of, covers_in}
use Rattle.tdb_overlay.specs.declared.kept.KeptPartition.{KeptPartition}

pub found_in : (m : BTreeMap ℕ KeptPartition) (covers : Covers) (part : ℕ) (found : Option KeptPartition) → covers_in m ≡ covers → tree.get nat_cmp m part ≡ found → get covers part ≡ option_map covered_of found
found_in m covers part found is there = sym (ap (λ (s : Covers). get s part) is) ∙ get_seen covered_of m part ∙ ap (option_map covered_of) there

-- a partition is changed where it is there
pub changed : (m n : BTreeMap ℕ KeptPartition) (covers : Covers) (part : ℕ) (old w : KeptPartition) (change : Covered → Covered)
    → covers_in m ≡ covers → tree.get nat_cmp m part ≡ Some old → WritesThrough nat_cmp (nat_cmp part) m w n → covered_of w ≡ change (covered_of old)
    → covers_in n ≡ with_cover covers part (option_map change (get covers part))
changed m n covers part old w change is there through same =
    seen_written covered_of m n part old w there through
    ∙ ap (λ (s : Covers). insert s part (covered_of w)) is
    ∙ ap (insert covers part) same
    ∙ sym (ap (λ (o : Option Covered). with_cover covers part (option_map change o)) (found_in m covers part (Some old) is there))

-- and nothing is where it isn't
pub absent : (m : BTreeMap ℕ KeptPartition) (covers : Covers) (part : ℕ) (change : Covered → Covered)
    → covers_in m ≡ covers → tree.get nat_cmp m part ≡ None → covers_in m ≡ with_cover covers part (option_map change (get covers part))
absent m covers part change is there = is ∙ sym (ap (λ (o : Option Covered). with_cover covers part (option_map change o)) (found_in m covers part None is there))

-- a new partition
pub put : (m n : BTreeMap ℕ KeptPartition) (covers : Covers) (part : ℕ) (w : KeptPartition) (p : Covered) → covers_in m ≡ covers → UpdatesBy nat_cmp (nat_cmp part) m n (Some w) → covered_of w ≡ p → covers_in n ≡ insert covers part p
put m n covers part w p is updates same = seen_inserted covered_of m n part w updates ∙ ap (λ (s : Covers). insert s part (covered_of w)) is ∙ ap (insert covers part) same

pub taken : (m n : BTreeMap ℕ KeptPartition) (covers : Covers) (part : ℕ) → covers_in m ≡ covers → UpdatesBy nat_cmp (nat_cmp part) m n None → covers_in n ≡ remove covers part
taken m n covers part is updates = seen_removed covered_of m n part updates ∙ ap (λ (s : Covers). remove s part) is

pub copied_to : (m n : BTreeMap ℕ KeptPartition) (covers : Covers) (count from to : ℕ) (source w : KeptPartition) → covers_in m ≡ covers → tree.get nat_cmp m from ≡ Some source
    → UpdatesBy nat_cmp (nat_cmp to) m n (Some w) → covered_of w ≡ cover_copied count from (covered_of source) → covers_in n ≡ with_cover covers to (option_map (cover_copied count from) (get covers from))
copied_to m n covers count from to source w is there updates same =
    put m n covers to w (cover_copied count from (covered_of source)) is updates same
    ∙ sym (ap (λ (o : Option Covered). with_cover covers to (option_map (cover_copied count from) o)) (found_in m covers from (Some source) is there))

pub copied_from_nothing : (m : BTreeMap ℕ KeptPartition) (covers : Covers) (count from to : ℕ) → covers_in m ≡ covers → tree.get nat_cmp m from ≡ None → covers ≡ with_cover covers to (option_map (cover_copied count from) (get covers from))
copied_from_nothing m covers count from to is there = sym (ap (λ (o : Option Covered). with_cover covers to (option_map (cover_copied count from) o)) (found_in m covers from None is there))

-- a map without entries is the empty one
pub no_edits : (m : BTreeMap ℕ (Option Piece)) → tree.IsEmpty m → seen_as (λ piece. piece) m ≡ empty
no_edits m is = ap (λ (es : List (ℕ × Option Piece)). from_entries (map {B = ℕ × Option Piece} (λ e. (e.0, e.1)) es)) is

same_partitions : (es fs : List (ℕ × KeptPartition)) → AllZip (λ e f. (f.0 ≡ e.0) × (covered_of f.1 ≡ covered_of e.1)) es fs
    → map {B = ℕ × Covered} (λ e. (e.0, covered_of e.1)) fs ≡ map {B = ℕ × Covered} (λ e. (e.0, covered_of e.1)) es
same_partitions [] [] is = refl
same_partitions [] (f ∷ fs) is = absurd is
same_partitions (e ∷ es) [] is = absurd is
same_partitions (e ∷ es) (f ∷ fs) is = λ i. (is.0.0 i, is.0.1 i) ∷ same_partitions es fs is.1 i

-- clones of the partitions are the same covers
pub cloned_covers : (m n : BTreeMap ℕ KeptPartition) → AllZip (λ e f. (f.0 ≡ e.0) × (covered_of f.1 ≡ covered_of e.1)) m.entries n.entries
    → covers_in n ≡ covers_in m
cloned_covers m n is = ap (λ (es : List (ℕ × Covered)). from_entries es) (same_partitions m.entries n.entries is)
