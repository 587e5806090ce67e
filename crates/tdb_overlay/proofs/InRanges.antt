-- What is told of partitions stays in the ranges of the formats.
use Rattle.std.proofs.Common.{◌≡◌, ◌<◌, ◌≤◌, ◌+◌, ℕ, ◌==◌, Bool, true, false, cond, List, [], ◌∷◌, ◌++◌, map, append_assoc, append-nil}
use Rattle.std.proofs.Common.{Option, Some, None, Result, Ok, Err, max, refl, sym, subst, ◌∙◌, ap, arith, rules}
use Rattle.std.proofs.lemmas.Bool.Decides.{nat_tests}
use Rattle.std.proofs.lemmas.Option.{none-some}
use Rattle.std.specs.BTreeMap as tree
use Rattle.std.specs.BTreeMap.{BTreeMap, UpdatesBy, WritesThrough, is_at}
use Rattle.std.specs.Cmp.{unsigned_tied}
use Rattle.std.specs.FinMap.{entries, find, get, get-empty, get-entries, insert, remove}
use Rattle.std.specs.List.{AllByRecursion}
use Rattle.std.specs.Map.{lookup}
use Rattle.std.specs.Option.{option_map}
use Rattle.std.specs.Ordering.{eq_by_cmp, nat_cmp}
use Rattle.std.specs.Prelude.{OnErr, OnOk}
use Rattle.tdb_base.specs.Segment.{LiesInOneSegment}
use Rattle.tdb_base.specs.declared.names.PartId.{PartId}
use Rattle.tdb_base.specs.declared.piece.Piece.{Piece}
use Rattle.tdb_list.specs.Entry.{IsPartition}
use Rattle.tdb_list.specs.declared.entry.Entry.{Entry}
use Rattle.tdb_map.specs.Edits.{Edits as EditList, edit_at}
use Rattle.tdb_map.specs.Updated.{EditsFit, EditsLie}
use Rattle.tdb_model.specs.Memory.{seen_as}
use Rattle.tdb_model.proofs.MapLemmas.{found_inserted, found_removed}
use Rattle.tdb_model.proofs.MemoryLemmas.{get_seen, seen_entries, seen_written}
use Rattle.tdb_node.specs.Node.{IsEntry}
use Rattle.tdb_overlay.specs.Covering.{Covered, Covers, cover_copied, cover_freed, cover_made, cover_written, no_covers}
use Rattle.tdb_overlay.specs.InRange.{AreInRange, IsInFormat, IsInRange, numbers_told}
use Rattle.tdb_overlay.specs.Lookup.{cover_told}
use Rattle.tdb_overlay.specs.Memory.{covered_of, covers_in}
use Rattle.tdb_overlay.specs.Trees.{map_height}
use Rattle.tdb_overlay.specs.declared.kept.KeptPartition.{KeptPartition}
use Rattle.tdb_overlay.specs.declared.overlay.Leader.{Leader}
use Rattle.tdb_overlay.proofs.KeptCovers.{found_in, put}

-- Nothing is told, so nothing is out of range.
pub none_in_range : AreInRange no_covers
none_in_range = record { each = λ part c found. absurd (none-some c (sym (get-empty {X = Covered} nat_cmp part) ∙ found)) }

pub inserted_in_range : (covers : Covers) (part : ℕ) (c : Covered) → AreInRange covers → IsInRange part c
    → AreInRange (insert covers part c)
inserted_in_range covers part c are is = record { each = λ q x found. found_inserted covers part c IsInRange is q x (are.each q x) found }

pub removed_in_range : (covers : Covers) (part : ℕ) → AreInRange covers → AreInRange (remove covers part)
removed_in_range covers part are = record { each = λ q x found. are.each q x (found_removed covers part q x found) }

greater_in_range : (a b : ℕ) → a ≤ 262144 → b < 262144 → max a (b + 1) ≤ 262144
greater_in_range a b most small = search rules

-- A write keeps a partition in range,
pub written_in_range : (part rank : ℕ) (piece : Piece) (c : Covered) → rank < 262144 → LiesInOneSegment piece → IsInRange part c
    → IsInRange part (cover_written rank piece c)
written_in_range part rank piece c small lies is = record {
  number = is.number;
  format = record {
    home_least = is.format.home_least;
    home_most = is.format.home_most;
    birth = is.format.birth;
    next = greater_in_range c.next rank is.format.next small;
    parent = is.format.parent;
    born = is.format.born;
    root = is.format.root;
  };
  ranks = λ q edit found. found_inserted c.edits rank (Some piece) (λ r _. r < 262144) small q edit (is.ranks q edit) found;
  pieces = λ q edit found. found_inserted c.edits rank (Some piece) (λ _ e. IsEntry e) lies q edit (is.pieces q edit) found;
}

-- and so does a free.
pub freed_in_range : (part rank : ℕ) (c : Covered) → rank < 262144 → IsInRange part c → IsInRange part (cover_freed rank c)
freed_in_range part rank c small is = record {
  number = is.number;
  format = is.format;
  ranks = λ q edit found. found_inserted c.edits rank None (λ r _. r < 262144) small q edit (is.ranks q edit) found;
  pieces = λ q edit found. found_inserted c.edits rank None (λ _ e. IsEntry e) tt q edit (is.pieces q edit) found;
}

-- A copy is in range under its number,
pub copied_in_range : (count from to : ℕ) (c : Covered) → 1 ≤ count → IsPartition from → IsPartition to → IsInRange from c
    → IsInRange to (cover_copied count from c)
copied_in_range count from to c some parent number is = record {
  number = number;
  format = record {
    home_least = is.format.home_least;
    home_most = is.format.home_most;
    birth = is.format.birth;
    next = is.format.next;
    parent = parent.1;
    born = some;
    root = is.format.root;
  };
  ranks = is.ranks;
  pieces = is.pieces;
}

-- one that is made,
pub made_in_range : (count : ℕ) (e : Entry) → 1 ≤ count → IsPartition e.part → IsInRange e.part (cover_made count e)
made_in_range count e some number = record {
  number = number;
  format = record {
    home_least = number.0;
    home_most = number.1;
    birth = some;
    next = search rules;
    parent = search rules;
    born = some;
    root = tt;
  };
  ranks = λ q edit found. absurd (none-some edit (sym (get-empty {X = Option Piece} nat_cmp q) ∙ found));
  pieces = λ q edit found. absurd (none-some edit (sym (get-empty {X = Option Piece} nat_cmp q) ∙ found));
}

-- and one of which a leader in its format is told.
pub told_in_range : (part : ℕ) (leader : Leader) → IsPartition part → IsInFormat leader → IsInRange part (cover_told leader)
told_in_range part leader number format = record {
  number = number;
  format = format;
  ranks = λ q edit found. absurd (none-some edit (sym (get-empty {X = Option Piece} nat_cmp q) ∙ found));
  pieces = λ q edit found. absurd (none-some edit (sym (get-empty {X = Option Piece} nat_cmp q) ∙ found));
}

-- what a call that may fail makes of a partition
pub changed_in_range : {T E : Type 0} (result : Result T E) (part : ℕ) (old new to : Covered) → OnOk result (new ≡ to)
    → OnErr result (new ≡ old) → IsInRange part old → IsInRange part to → IsInRange part new
changed_in_range (Ok x) part old new to ok err is then = subst (IsInRange part) (sym ok) then
changed_in_range (Err e) part old new to ok err is then = subst (IsInRange part) (sym err) is

-- the partitions of an ordered map, with one that is put there,
pub put_in_range : (m n : BTreeMap ℕ KeptPartition) (part : ℕ) (w : KeptPartition) (p : Covered)
    → UpdatesBy nat_cmp (nat_cmp part) m n (Some w) → covered_of w ≡ p → AreInRange (covers_in m) → IsInRange part p
    → AreInRange (covers_in n)
put_in_range m n part w p updates same are is =
    subst AreInRange (sym (put m n (covers_in m) part w p refl updates same)) (inserted_in_range (covers_in m) part p are is)

-- or with one that is written through a borrow
pub through_in_range : (m n : BTreeMap ℕ KeptPartition) (part : ℕ) (old w : KeptPartition) → tree.get nat_cmp m part ≡ Some old
    → WritesThrough nat_cmp (nat_cmp part) m w n → AreInRange (covers_in m) → IsInRange part (covered_of w) → AreInRange (covers_in n)
through_in_range m n part old w there through are is =
    subst AreInRange (sym (seen_written covered_of m n part old w there through))
    (inserted_in_range (covers_in m) part (covered_of w) are is)

-- what is kept under a number is in range
pub kept_in_range : (m : BTreeMap ℕ KeptPartition) (part : ℕ) (kept : KeptPartition) → AreInRange (covers_in m)
    → tree.get nat_cmp m part ≡ Some kept → IsInRange part (covered_of kept)
kept_in_range m part kept are there = are.each part (covered_of kept) (found_in m (covers_in m) part (Some kept) refl there)

edit_got : (es : EditList) (rank : ℕ) → edit_at es rank ≡ lookup (is_at (nat_cmp rank)) es
edit_got [] rank = refl
edit_got (e ∷ es) rank = ap (λ (b : Bool). cond b (Some e.1) (edit_at es rank)) (sym (unsigned_tied rank e.0))
    ∙ ap (cond (is_at (nat_cmp rank) e.0) (Some e.1)) (edit_got es rank)

-- An ordered map of edits gives a rank what the finite map does that it stands for.
pub edit_told : (m : BTreeMap ℕ (Option Piece)) (rank : ℕ) → get (seen_as (λ piece. piece) m) rank ≡ edit_at m.entries rank
edit_told m rank = get_seen (λ piece. piece) m rank ∙ same (tree.get nat_cmp m rank) ∙ sym (edit_got m.entries rank)
  where
    same : (o : Option (Option Piece)) → option_map (λ piece. piece) o ≡ o
    same None = refl
    same (Some edit) = refl

pub edits_fit : (part : ℕ) (kept : KeptPartition) → IsInRange part (covered_of kept) → EditsFit map_height kept.edits.entries
edits_fit part kept is = record { each = λ rank edit found. is.ranks rank edit (edit_told kept.edits rank ∙ found) }

pub edits_lie : (part : ℕ) (kept : KeptPartition) → IsInRange part (covered_of kept) → EditsLie kept.edits.entries
edits_lie part kept is = record { each = λ rank edit found. is.pieces rank edit (edit_told kept.edits rank ∙ found) }

-- the number of an entry
abbrev pub number_of : {X : Type 0} → (ℕ × X) → PartId
number_of e = record { 0 = e.0 }

same_number : (n : ℕ) → (n == n) ≡ true
same_number n = grind (arith, nat_tests)

-- What holds of each key that has a value holds of the keys of the entries.
keys_have : (P : ℕ → Type 0) (es : List (ℕ × Covered)) → ((q : ℕ) (c : Covered) → find nat_cmp q es ≡ Some c → P q)
    → AllByRecursion (λ (n : PartId). P n.0) (map number_of es)
keys_have P [] has = tt
keys_have P (e ∷ es) has = (
  has e.0 e.1 (ap (λ (b : Bool). cond b (Some e.1) (find nat_cmp e.0 es)) {y = true} (unsigned_tied e.0 e.0 ∙ same_number e.0)),
  keys_have P es (λ q c found. either (eq_by_cmp nat_cmp q e.0) q c found (has q)),
)
  where
    either : (b : Bool) (q : ℕ) (c : Covered) → find nat_cmp q es ≡ Some c
        → ((d : Covered) → cond b (Some e.1) (find nat_cmp q es) ≡ Some d → P q) → P q
    either true q c found holds = holds e.1 refl
    either false q c found holds = holds c found

-- so the numbers that are told are in range
pub numbers_in_range : (covers : Covers) → AreInRange covers → AllByRecursion (λ (n : PartId). IsPartition n.0) (numbers_told covers)
numbers_in_range covers are =
    keys_have IsPartition (entries covers) (λ q c found. (are.each q c (get-entries covers q ∙ found)).number)

numbers_each : (es : List (ℕ × KeptPartition)) → map number_of (map {B = ℕ × Covered} (λ e. (e.0, covered_of e.1)) es) ≡ map number_of es
numbers_each [] = refl
numbers_each (e ∷ es) = ap (λ rest. number_of e ∷ rest) (numbers_each es)

-- of an ordered map they are told in its order
pub numbers_kept : (m : BTreeMap ℕ KeptPartition) → tree.IsOrdered nat_cmp m → numbers_told (covers_in m) ≡ map number_of m.entries
numbers_kept m ordered = ap (map number_of) (seen_entries covered_of m ordered) ∙ numbers_each m.entries

-- one number more is told
pub numbers_on : (xs items all : List PartId) (e : ℕ × KeptPartition) (before after : List (ℕ × KeptPartition))
    → items ≡ xs ++ number_of e ∷ [] → before ≡ e ∷ after → xs ++ map number_of before ≡ all → items ++ map number_of after ≡ all
numbers_on xs items all e before after pushed front so_far =
    ap (λ (ys : List PartId). ys ++ map number_of after) pushed
    ∙ append_assoc xs (number_of e ∷ []) (map number_of after)
    ∙ ap (λ (es : List (ℕ × KeptPartition)). xs ++ map number_of es) (sym front)
    ∙ so_far

-- all are told
pub numbers_all : (xs all : List PartId) (rest : List (ℕ × KeptPartition)) → rest ≡ [] → xs ++ map number_of rest ≡ all → xs ≡ all
numbers_all xs all rest none so_far =
    sym (append-nil xs) ∙ ap (λ (es : List (ℕ × KeptPartition)). xs ++ map number_of es) (sym none) ∙ so_far
