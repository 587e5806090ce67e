-- What is told of partitions: of those that ordered maps in memory keep, and of those that a state has.
use Rattle.std.proofs.Common.{◌≡◌, ℕ, Bool, cond, List, [], ◌∷◌, map, Option, Some, None, T, ◌&&◌, ◌++◌, append_assoc, append-nil, sym, subst, ◌∙◌, ap, refl}
use Rattle.std.specs.BTreeMap as tree
use Rattle.std.specs.BTreeMap.{BTreeMap}
use Rattle.std.specs.Cmp.{nat_cmp_total}
use Rattle.std.specs.FinMap.{entries, entries_sorted, get, get-entries, nat_cmp-IsAntisymmetric}
use Rattle.std.specs.FinMap.Entries.{below_all, find, is_sorted, same_entries}
use Rattle.std.specs.Option.{option_map}
use Rattle.std.specs.Ordering.{eq_by_cmp, is_lt, nat_cmp}
use Rattle.tdb_base.specs.declared.names.PartId.{PartId}
use Rattle.tdb_model.specs.HasListed.{infos_of}
use Rattle.tdb_model.specs.Lookup.{info_of}
use Rattle.tdb_model.specs.State.{Partition, State}
use Rattle.tdb_model.specs.declared.change.PartInfo.{PartInfo}
use Rattle.tdb_model.proofs.MemoryLemmas.{mapped_cond, seen_entries}
use Rattle.tdb_overlay.specs.Covering.{Covered, Covers, IsCoveredAt, IsCovering}
use Rattle.tdb_overlay.specs.Found.{Finds}
use Rattle.tdb_overlay.specs.Lookup.{info_told, infos_told, leader_of}
use Rattle.tdb_overlay.specs.Memory.{covered_of, covers_in}
use Rattle.tdb_overlay.specs.declared.kept.KeptPartition.{KeptPartition}

-- what is told of an entry of the ordered map
abbrev pub told_of : (ℕ × KeptPartition) → PartInfo
told_of e = info_told (record { 0 = e.0 }) e.1.leader

told_each : (es : List (ℕ × KeptPartition)) → map (λ e. info_told (record { 0 = e.0 }) (leader_of e.1)) (map {B = ℕ × Covered} (λ e. (e.0, covered_of e.1)) es) ≡ map told_of es
told_each [] = refl
told_each (e ∷ es) = ap (λ rest. told_of e ∷ rest) (told_each es)

pub infos_kept : (m : BTreeMap ℕ KeptPartition) → tree.IsOrdered nat_cmp m → infos_told (covers_in m) ≡ map told_of m.entries
infos_kept m ordered =
    ap (map (λ e. info_told (record { 0 = e.0 }) (leader_of e.1))) (seen_entries covered_of m ordered) ∙ told_each m.entries

-- one entry more is told of
pub told_on : (xs items all : List PartInfo) (info : PartInfo) (e : ℕ × KeptPartition) (before after : List (ℕ × KeptPartition)) → items ≡ xs ++ info ∷ [] → info ≡ told_of e → before ≡ e ∷ after
    → xs ++ map told_of before ≡ all → items ++ map told_of after ≡ all
told_on xs items all info e before after pushed is front so_far =
    ap (λ (ys : List PartInfo). ys ++ map told_of after) pushed
    ∙ append_assoc xs (info ∷ []) (map told_of after)
    ∙ ap (λ (i : PartInfo). xs ++ i ∷ map told_of after) is
    ∙ ap (λ (es : List (ℕ × KeptPartition)). xs ++ map told_of es) (sym front)
    ∙ so_far

-- all are told of
pub told_all : (xs all : List PartInfo) (rest : List (ℕ × KeptPartition)) → rest ≡ [] → xs ++ map told_of rest ≡ all → xs ≡ all
told_all xs all rest none so_far = sym (append-nil xs) ∙ ap (λ (es : List (ℕ × KeptPartition)). xs ++ map told_of es) (sym none) ∙ so_far

-- entries, with what is told of each value
abbrev told_by : {X : Type 0} → (X → PartInfo) → List (ℕ × X) → List (ℕ × PartInfo)
told_by told es = map (λ e. (e.0, told e.1)) es

-- under its number
abbrev numbered : List (ℕ × PartInfo) → List PartInfo
numbered es = map (λ e. record e.1 { part = record { 0 = e.0 } }) es

module _ {X : Type 0} (told : X → PartInfo) where
  below_told : (k : ℕ) (es : List (ℕ × X)) → below_all nat_cmp k (told_by told es) ≡ below_all nat_cmp k es
  below_told k [] = refl
  below_told k (e ∷ es) = ap (λ (b : Bool). is_lt (nat_cmp k e.0) && b) (below_told k es)

  sorted_told : (es : List (ℕ × X)) → is_sorted nat_cmp (told_by told es) ≡ is_sorted nat_cmp es
  sorted_told [] = refl
  sorted_told (e ∷ es) = ap (λ (b : Bool). b && is_sorted nat_cmp (told_by told es)) (below_told e.0 es)
      ∙ ap (λ (b : Bool). below_all nat_cmp e.0 es && b) (sorted_told es)

  found_told : (es : List (ℕ × X)) (q : ℕ) → find nat_cmp q (told_by told es) ≡ option_map told (find nat_cmp q es)
  found_told [] q = refl
  found_told (e ∷ es) q = ap (cond (eq_by_cmp nat_cmp q e.0) (Some (told e.1))) (found_told es q)
      ∙ sym (mapped_cond told (eq_by_cmp nat_cmp q e.0) (Some e.1) (find nat_cmp q es))

-- Of maps that have partitions of which the same is told under the same numbers, the same is told.
told_alike : {X Y : Type 0} (f : X → PartInfo) (g : Y → PartInfo) (es : List (ℕ × X)) (fs : List (ℕ × Y)) → T (is_sorted nat_cmp es)
    → T (is_sorted nat_cmp fs) → ((q : ℕ) → option_map f (find nat_cmp q es) ≡ option_map g (find nat_cmp q fs))
    → told_by f es ≡ told_by g fs
told_alike f g es fs one other alike = same_entries nat_cmp nat_cmp_total nat_cmp-IsAntisymmetric (told_by f es) (told_by g fs)
    (subst T (sym (sorted_told f es)) one) (subst T (sym (sorted_told g fs)) other)
    (λ q. found_told f es q ∙ alike q ∙ sym (found_told g fs q))

-- what is told of a partition under no number
abbrev of_covered : Covered → PartInfo
of_covered c = info_told (record { 0 = 0 }) (leader_of c)

abbrev of_partition : Partition → PartInfo
of_partition p = info_of (record { 0 = 0 }) p

numbered_covers : (es : List (ℕ × Covered)) → map (λ e. info_told (record { 0 = e.0 }) (leader_of e.1)) es ≡ numbered (told_by of_covered es)
numbered_covers [] = refl
numbered_covers (e ∷ es) = ap (λ rest. info_told (record { 0 = e.0 }) (leader_of e.1) ∷ rest) (numbered_covers es)

numbered_state : (es : List (ℕ × Partition)) → map (λ e. info_of (record { 0 = e.0 }) e.1) es ≡ numbered (told_by of_partition es)
numbered_state [] = refl
numbered_state (e ∷ es) = ap (λ rest. info_of (record { 0 = e.0 }) e.1 ∷ rest) (numbered_state es)

module _ (finds : Finds) (secret : List ℕ) where
  -- Of covers the same is told as of the state that they tell: of one partition,
  pub info_covered : (part : PartId) (cover : Option Covered) (found : Option Partition) → IsCoveredAt finds secret cover found
      → option_map (λ (c : Covered). info_told part (leader_of c)) cover ≡ option_map (info_of part) found
  info_covered part None None is = refl
  info_covered part None (Some p) is = absurd is
  info_covered part (Some c) None is = absurd is
  info_covered part (Some c) (Some p) is = λ i. Some (record {
    part = part;
    suite = is.suite i;
    parent = record { 0 = is.parent i };
    born = is.born i;
    next = is.next i;
  })

  -- and of all.
  pub infos_covered : (covers : Covers) (state : State) → IsCovering finds secret covers state → infos_told covers ≡ infos_of state
  infos_covered covers state are =
      numbered_covers (entries covers)
      ∙ ap numbered (told_alike of_covered of_partition (entries covers) (entries state) (entries_sorted covers) (entries_sorted state)
      (λ q. ap (option_map of_covered) (sym (get-entries covers q)) ∙ info_covered (record { 0 = 0 }) (get covers q) (get state q) (are q)
      ∙ ap (option_map of_partition) (get-entries state q)))
      ∙ sym (numbered_state (entries state))
