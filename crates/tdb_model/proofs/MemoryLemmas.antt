-- Ordered maps in memory, and the finite maps that they stand for.
use Rattle.std.proofs.Common.{◌≡◌, ℕ, ◌==◌, Bool, true, false, cond, List, [], ◌∷◌, map, Option, Some, None, IsSome, T, ◌&&◌, ◌++◌, append_assoc, append-nil, refl, sym, subst, ◌∙◌, ap, rules}
use Rattle.std.specs.BTreeMap as tree
use Rattle.std.specs.BTreeMap.{BTreeMap, UpdatesBy, WritesThrough, IsUnchanged, is_at}
use Rattle.std.specs.Cmp.{nat_cmp_total, unsigned_tied, eq_by_cmp_equiv}
use Rattle.std.specs.FinMap.{entries, entries-from_sorted, find, from_entries, from_sorted, get, get-from_entries, get-from_sorted, insert, remove}
use Rattle.std.specs.FinMap.Entries.{below_all, is_sorted}
use Rattle.std.specs.List.{AllByRecursion}
use Rattle.std.specs.List.Sorted.{IsStrictlySortedBy}
use Rattle.std.specs.Map.{keys_of, lookup}
use Rattle.std.specs.Option.{option_map}
use Rattle.std.specs.Ordering.{is_lt, nat_cmp}
use Rattle.std.specs.declared.cmp.Ordering.TheVariants.{Less}
use Rattle.tdb_model.specs.HasListed.{infos_of}
use Rattle.tdb_model.specs.Lookup.{info_of}
use Rattle.tdb_model.specs.Memory.{partition_of, seen_as, state_in}
use Rattle.tdb_model.specs.State.{Partition}
use Rattle.tdb_model.specs.declared.change.PartInfo.{PartInfo}
use Rattle.tdb_model.specs.declared.memory.KeptPartition.{KeptPartition}
use Rattle.tdb_model.proofs.MapLemmas.{same, get_inserted, get_removed}

both : (a b : Bool) → T a → T b → T (a && b)
both true b p q = q
both false b p q = p

module _ {X Y : Type 0} (value : X → Y) where
  pub mapped_cond : (b : Bool) (x y : Option X) → option_map value (cond b x y) ≡ cond b (option_map value x) (option_map value y)
  mapped_cond true x y = refl
  mapped_cond false x y = refl

  find_lookup : (es : List (ℕ × X)) (q : ℕ) → find nat_cmp q (map (λ e. (e.0, value e.1)) es) ≡ option_map value (lookup (is_at (nat_cmp q)) es)
  find_lookup [] q = refl
  find_lookup (e ∷ es) q = ap (cond (is_at (nat_cmp q) e.0) (Some (value e.1))) (find_lookup es q) ∙ sym (mapped_cond (is_at (nat_cmp q) e.0) (Some e.1) (lookup (is_at (nat_cmp q)) es))

  pub get_seen : (m : BTreeMap ℕ X) (q : ℕ) → get (seen_as value m) q ≡ option_map value (tree.get nat_cmp m q)
  get_seen m q = get-from_entries nat_cmp_total _ q ∙ find_lookup m.entries q

  tied : (k q : ℕ) → is_at (nat_cmp k) q ≡ (q == k)
  tied k q = (eq_by_cmp_equiv nat_cmp_total).symm k q ∙ unsigned_tied q k

  pub seen_inserted : (m n : BTreeMap ℕ X) (k : ℕ) (w : X) → UpdatesBy nat_cmp (nat_cmp k) m n (Some w) → seen_as value n ≡ insert (seen_as value m) k (value w)
  seen_inserted m n k w updates = same _ _ (λ q. get_seen n q
      ∙ ap (option_map value) (updates.0 q ∙ ap (λ (b : Bool). cond b (Some w) (tree.get nat_cmp m q)) (tied k q))
      ∙ mapped_cond (q == k) (Some w) (tree.get nat_cmp m q)
      ∙ ap (cond (q == k) (Some (value w))) (sym (get_seen m q))
      ∙ sym (get_inserted (seen_as value m) k (value w) q))

  pub seen_removed : (m n : BTreeMap ℕ X) (k : ℕ) → UpdatesBy nat_cmp (nat_cmp k) m n None → seen_as value n ≡ remove (seen_as value m) k
  seen_removed m n k updates = same _ _ (λ q. get_seen n q
      ∙ ap (option_map value) (updates.0 q ∙ ap (λ (b : Bool). cond b None (tree.get nat_cmp m q)) (tied k q))
      ∙ mapped_cond (q == k) None (tree.get nat_cmp m q)
      ∙ ap (cond (q == k) None) (sym (get_seen m q))
      ∙ sym (get_removed (seen_as value m) k q))

  pub seen_unchanged : (m n : BTreeMap ℕ X) → IsUnchanged m n → seen_as value n ≡ seen_as value m
  seen_unchanged m n is = ap (λ (es : List (ℕ × X)). from_entries (map (λ e. (e.0, value e.1)) es)) is

  -- the same where a value was written through a borrow
  pub seen_written : (m n : BTreeMap ℕ X) (k : ℕ) (old w : X) → tree.get nat_cmp m k ≡ Some old → WritesThrough nat_cmp (nat_cmp k) m w n → seen_as value n ≡ insert (seen_as value m) k (value w)
  seen_written m n k old w there through = seen_inserted m n k w (through.3 (let some : IsSome (Some old) = search rules in subst (λ (o : Option X). IsSome o) (sym there) some))

module _ {X Y : Type 0} (value : X → Y) where
  still_below : (k : ℕ) (es : List (ℕ × X)) → AllByRecursion (λ q. nat_cmp k q ≡ Less) (keys_of es) → T (below_all nat_cmp k (map (λ e. (e.0, value e.1)) es))
  still_below k [] is = tt
  still_below k (e ∷ es) is = both (is_lt (nat_cmp k e.0)) (below_all nat_cmp k (map (λ e. (e.0, value e.1)) es)) (subst (λ o. T (is_lt o)) (sym is.0) tt) (still_below k es is.1)

  still_sorted : (es : List (ℕ × X)) → IsStrictlySortedBy nat_cmp (keys_of es) → T (is_sorted nat_cmp (map (λ e. (e.0, value e.1)) es))
  unfolding IsStrictlySortedBy
  still_sorted [] is = tt
  still_sorted (e ∷ es) is = both (below_all nat_cmp e.0 (map (λ e. (e.0, value e.1)) es)) (is_sorted nat_cmp (map (λ e. (e.0, value e.1)) es)) (still_below e.0 es is.0) (still_sorted es is.1)

  -- the pairs of the finite map are those of the ordered map, in its order
  pub seen_entries : (m : BTreeMap ℕ X) → tree.IsOrdered nat_cmp m → entries (seen_as value m) ≡ map (λ e. (e.0, value e.1)) m.entries
  seen_entries m ordered =
      let es : List (ℕ × Y) = map (λ e. (e.0, value e.1)) m.entries in
      let is : T (is_sorted nat_cmp es) = still_sorted m.entries ordered in
      let one : from_entries {R = nat_cmp} es ≡ from_sorted es = same _ _ (λ q. get-from_entries nat_cmp_total es q ∙ sym (get-from_sorted nat_cmp es q is)) in
      ap entries one ∙ entries-from_sorted nat_cmp es is

-- what is told of an entry of the ordered map
abbrev pub told_of : (ℕ × KeptPartition) → PartInfo
told_of e = info_of (record { 0 = e.0 }) (partition_of e.1)

told_each : (es : List (ℕ × KeptPartition)) → map (λ e. info_of (record { 0 = e.0 }) e.1) (map {B = ℕ × Partition} (λ e. (e.0, partition_of e.1)) es) ≡ map told_of es
told_each [] = refl
told_each (e ∷ es) = ap (λ rest. told_of e ∷ rest) (told_each es)

pub infos_seen : (m : BTreeMap ℕ KeptPartition) → tree.IsOrdered nat_cmp m → infos_of (state_in m) ≡ map told_of m.entries
infos_seen m ordered = ap (map (λ e. info_of (record { 0 = e.0 }) e.1)) (seen_entries partition_of m ordered) ∙ told_each m.entries

-- one entry more is told of
pub told_on : (xs items all : List PartInfo) (info : PartInfo) (e : ℕ × KeptPartition) (before after : List (ℕ × KeptPartition)) → items ≡ xs ++ info ∷ [] → info ≡ told_of e → before ≡ e ∷ after
    → xs ++ map told_of before ≡ all → items ++ map told_of after ≡ all
told_on xs items all info e before after pushed is front so_far =
    ap (λ (ys : List PartInfo). ys ++ map told_of after) pushed
    ∙ append_assoc xs (info ∷ []) (map told_of after)
    ∙ ap (λ (i : PartInfo). xs ++ i ∷ map told_of after) is
    ∙ ap (λ (es : List (ℕ × KeptPartition)). xs ++ map told_of es) (sym front)
    ∙ so_far

-- all are told of
pub told_all : (xs all : List PartInfo) (rest : List (ℕ × KeptPartition)) → rest ≡ [] → xs ++ map told_of rest ≡ all → xs ≡ all
told_all xs all rest none so_far = sym (append-nil xs) ∙ ap (λ (es : List (ℕ × KeptPartition)). xs ++ map told_of es) (sym none) ∙ so_far
