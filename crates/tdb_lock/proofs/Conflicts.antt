-- The first lock in order that is in the way, and that it is the least.
use Rattle.std.proofs.Common.{◌≡◌, ◌≢◌, ◌≤◌, ◌<◌, ◌==◌, ◌⊎◌, inl, inr, ℕ, Bool, true, false, not, cond, ◌&&◌, ◌||◌, List, [], ◌∷◌, map, Option, Some, None, refl, sym, subst, ◌∙◌, ap, arith}
use Rattle.std.proofs.lemmas.Bool.{eqb-true, eq-eqb}
use Rattle.std.proofs.lemmas.Option.{same_Some}
use Rattle.std.proofs.lemmas.Map.Keys.{sorted_head, sorted_tail}
use Rattle.std.specs.BTreeMap.Range.{range_contains}
use Rattle.std.specs.Cmp.{tied_itself, ranked}
use Rattle.std.specs.BTreeMap.{BTreeMap}
use Rattle.std.specs.FinMap.{find, get, get-from_entries}
use Rattle.std.specs.Option.{IsSomeAnd}
use Rattle.std.specs.List.{filter, AllByRecursion}
use Rattle.std.specs.List.Sorted.{IsStrictlySortedBy}
use Rattle.std.specs.Ordering.{nat_cmp, ordering_then, ordering_reverse, eq_by_cmp, is_eq, is_le, MatchOrdering}
use Rattle.std.specs.declared.cmp.Ordering.{Ordering}
use Rattle.std.specs.declared.cmp.Ordering.TheVariants.{Less, Equal, Greater}
use Rattle.std.specs.declared.ops.Bound.{Bound}
use Rattle.std.specs.declared.ops.Bound.TheVariants.{Included, Unbounded}
use Rattle.tdb_base.specs.declared.names.Id.{Id}
use Rattle.tdb_base.specs.declared.names.TxId.{TxId}
use Rattle.tdb_lock.specs.HeldLocks.{HeldLocks, id_cmp, claim_cmp, locks_in}
use Rattle.tdb_lock.specs.Conflict.{IsInTheWay, IsFree, IsLeastInTheWay}
use Rattle.tdb_lock.proofs.ClaimOrder.{id_total, claim_total, same_id}
use Rattle.tdb_lock.proofs.Granting.{Claim, tied}

abbrev pub Entry : Type 0
Entry = Claim × Bool

abbrev keys : List Entry → List Claim
keys es = map (λ e. e.0) es

-- what is found is at the head or behind it
at_head : (q : Claim) (e : Entry) (es : List Entry) (v : Bool) → find claim_cmp q (e ∷ es) ≡ Some v → ((e.0 ≡ q) × (e.1 ≡ v)) ⊎ (find claim_cmp q es ≡ Some v)
at_head q e es v = elim (eq_by_cmp claim_cmp q e.0) as (λ (t : Bool). eq_by_cmp claim_cmp q e.0 ≡ t → cond t (Some e.1) (find claim_cmp q es) ≡ Some v → ((e.0 ≡ q) × (e.1 ≡ v)) ⊎ (find claim_cmp q es ≡ Some v)) [
  | true ↦ λ t is. inl (sym (tied q e.0 t), same_Some e.1 v is)
  | false ↦ λ t is. inr is
] refl

-- what is found behind the head comes after it
after : (k q : Claim) (v : Bool) (es : List Entry) → AllByRecursion (λ y. claim_cmp k y ≡ Less) (keys es) → find claim_cmp q es ≡ Some v → claim_cmp k q ≡ Less
after k q v [] less is = absurd (cc is)
after k q v (e ∷ es) less is = elim (at_head q e es v is) [
  | inl here ↦ subst (λ (c : Claim). claim_cmp k c ≡ Less) here.0 less.0
  | inr later ↦ after k q v es less.1 later
]

further : (q : Claim) (v : Bool) (e : Entry) (es : List Entry) → AllByRecursion (λ y. claim_cmp e.0 y ≡ Less) (keys es) → find claim_cmp q es ≡ Some v → find claim_cmp q (e ∷ es) ≡ Some v
further q v e es less is =
    ap (λ (o : Ordering). cond (is_eq o) (Some e.1) (find claim_cmp q es)) (claim_total.antisymm q e.0 ∙ ap ordering_reverse (after e.0 q v es less is)) ∙ is

-- of two claims on one object the transactions tell the order
on_one : (c : Claim) (id : Id) (t : TxId) → c.0 ≡ id → claim_cmp c (id, t) ≡ Less → c.1.0 < t.0
on_one c id t is less =
    ranked c.1.0 t.0 Less (sym (ap (λ (o : Ordering). ordering_then o (nat_cmp c.1.0 t.0)) (sym (ap (λ (i : Id). id_cmp i id) is ∙ tied_itself id_total id)) ∙ less))

-- no claim between two on one object is on another
between_by : (u w : Ordering) (a b : Ordering) → u ≡ ordering_reverse w → is_le (ordering_then u a) ≡ true → ordering_then w b ≡ Less → u ≡ Equal
between_by u Less a b turned le less = absurd (cc (subst (λ (o : Ordering). is_le (ordering_then o a) ≡ true) turned le))
between_by u Equal a b turned le less = turned
between_by u Greater a b turned le less = absurd (cc less)

not_greater : (n : ℕ) (o : Ordering) → MatchOrdering o (0 < n) (0 ≡ n) (n < 0) → is_le o && true ≡ true
not_greater n Less h = refl
not_greater n Equal h = refl
not_greater n Greater h = absurd (omega arith)

module _ (id : Id) (tx : TxId) (exclusive : Bool) where
  abbrev pub start : Bound Claim
  start = Included (id, record { 0 = 0 })

  abbrev pub is_id : Id → Bool
  is_id other = (other.part.0 == id.part.0) && (other.rank.0 == id.rank.0)

  -- whether a lock is in the way, where it is on the object
  abbrev pub is_barring : Entry → Bool
  is_barring e = not (e.0.1.0 == tx.0) && (exclusive || e.1)

  -- the first that is in the way, up to a lock on another object
  abbrev pub first_barring : List Entry → Option TxId
  first_barring [] = None
  first_barring (e ∷ es) = cond (is_id e.0.0) (cond (is_barring e) (Some e.0.1) (first_barring es)) None

  abbrev pub Told : List Entry → Option TxId → Type 0
  Told es None = (t : TxId) (v : Bool) → find claim_cmp (id, t) es ≡ Some v → is_barring ((id, t), v) ≡ false
  Told es (Some h) = ((v : Bool) × (find claim_cmp (id, h) es ≡ Some v) × (is_barring ((id, h), v) ≡ true))
      × ((t : TxId) (v : Bool) → find claim_cmp (id, t) es ≡ Some v → is_barring ((id, t), v) ≡ true → h.0 ≤ t.0)

  is_id-from : (other : Id) → other ≡ id → is_id other ≡ true
  is_id-from other is = subst (λ (i : Id). (other.part.0 == i.part.0) && (other.rank.0 == i.rank.0) ≡ true) is
      (ap (λ (b : Bool). b && (other.rank.0 == other.rank.0)) (eq-eqb other.part.0 other.part.0 refl) ∙ eq-eqb other.rank.0 other.rank.0 refl)

  both : (a b : Bool) → a && b ≡ true → (a ≡ true) × (b ≡ true)
  both true b e = (refl, e)
  both false b e = absurd (cc e)

  pub id-from_test : (other : Id) → is_id other ≡ true → other ≡ id
  id-from_test other is =
      let parts = both (other.part.0 == id.part.0) (other.rank.0 == id.rank.0) is in
      let part = eqb-true other.part.0 id.part.0 parts.0 in
      let rank = eqb-true other.rank.0 id.rank.0 parts.1 in
      λ i. record { part = record { 0 = part i }; rank = record { 0 = rank i } }

  abbrev is_from : Entry → Bool
  is_from e = range_contains claim_cmp start Unbounded e.0

  none_below : (n : ℕ) → is_le (nat_cmp 0 n) && true ≡ true
  none_below n = not_greater n (nat_cmp 0 n) (ranked 0 n (nat_cmp 0 n) refl)

  from_start : (t : TxId) → range_contains claim_cmp start Unbounded (id, t) ≡ true
  from_start t = ap (λ (o : Ordering). is_le (ordering_then o (nat_cmp 0 t.0)) && true) (tied_itself id_total id) ∙ none_below t.0

  -- an entry that no claim on the object ties with tells nothing
  skipped : (e : Entry) (es : List Entry) → ((t : TxId) → e.0 ≢ (id, t)) → (told : Option TxId) → AllByRecursion (λ y. claim_cmp e.0 y ≡ Less) (keys es) → Told es told → Told (e ∷ es) told
  skipped e es apart None less rest = λ t v is. elim (at_head (id, t) e es v is) [ inl here ↦ absurd (apart t here.0) | inr later ↦ rest t v later ]
  skipped e es apart (Some h) less rest = (
    (rest.0.0, further (id, h) rest.0.0 e es less rest.0.1, rest.0.2),
    λ t v is bars. elim (at_head (id, t) e es v is) [ inl here ↦ absurd (apart t here.0) | inr later ↦ rest.1 t v later bars ],
  )

  same_bars : (e : Entry) (q : Claim) (v : Bool) → e.0 ≡ q → e.1 ≡ v → is_barring (q, v) ≡ is_barring e
  same_bars e q v claim held = sym (λ i. is_barring (claim i, held i))

  -- nor does one whose lock isn't in the way
  passed : (e : Entry) (es : List Entry) → is_barring e ≡ false → (told : Option TxId) → AllByRecursion (λ y. claim_cmp e.0 y ≡ Less) (keys es) → Told es told → Told (e ∷ es) told
  passed e es free None less rest = λ t v is. elim (at_head (id, t) e es v is) [
    | inl here ↦ same_bars e (id, t) v here.0 here.1 ∙ free
    | inr later ↦ rest t v later
  ]
  passed e es free (Some h) less rest = (
    (rest.0.0, further (id, h) rest.0.0 e es less rest.0.1, rest.0.2),
    λ t v is bars. elim (at_head (id, t) e es v is) [
      | inl here ↦ absurd (cc (bars, same_bars e (id, t) v here.0 here.1 ∙ free))
      | inr later ↦ rest.1 t v later bars
    ],
  )

  here : (e : Entry) (es : List Entry) → e.0.0 ≡ id → is_barring e ≡ true → AllByRecursion (λ y. claim_cmp e.0 y ≡ Less) (keys es) → Told (e ∷ es) (Some e.0.1)
  here e es is bars less = (
    (e.1, ap (λ (o : Ordering). cond (is_eq o) (Some e.1) (find claim_cmp (id, e.0.1) es)) (ap (λ (i : Id). claim_cmp (i, e.0.1) e.0) (sym is) ∙ tied_itself claim_total e.0), bars),
    λ t v found _. elim (at_head (id, t) e es v found) [
      | inl at ↦ let same : e.0.1.0 ≡ t.0 = ap (λ (c : Claim). c.1.0) at.0 in omega arith
      | inr later ↦ let less_than : e.0.1.0 < t.0 = on_one e.0 id t is (after e.0 (id, t) v es less later) in omega arith
    ],
  )

  -- behind a lock on a later object there is none on this one
  past : (e : Entry) (es : List Entry) → is_id e.0.0 ≡ false → is_from e ≡ true → AllByRecursion (λ y. claim_cmp e.0 y ≡ Less) (keys es) → Told (e ∷ es) None
  past e es other from less t v is = elim (at_head (id, t) e es v is) [
    | inl at ↦ absurd (cc (other, is_id-from e.0.0 (ap (λ (c : Claim). c.0) at.0)))
    | inr later ↦ absurd (cc (
      other,
      is_id-from e.0.0 (sym (same_id id e.0.0 (between_by (id_cmp id e.0.0) (id_cmp e.0.0 id) (nat_cmp 0 e.0.1.0) (nat_cmp e.0.1.0 t.0) (id_total.antisymm id e.0.0)
          (both (is_le (claim_cmp (id, record { 0 = 0 }) e.0)) true from).0 (after e.0 (id, t) v es less later)))),
    ))
  ]

  -- what is found first is the least that is in the way
  pub first_told : (es : List Entry) → IsStrictlySortedBy claim_cmp (keys es) → Told es (first_barring (filter (λ e. range_contains claim_cmp start Unbounded e.0) es))
  first_told [] sorted = λ t v is. absurd (cc is)
  first_told (e ∷ es) sorted =
      let less = sorted_head claim_cmp e.0 (keys es) sorted in
      let rest = first_told es (sorted_tail claim_cmp e.0 (keys es) sorted) in
      let following : List Entry = filter (λ e. range_contains claim_cmp start Unbounded e.0) es in
      elim (is_from e) as (λ (b : Bool). is_from e ≡ b → Told (e ∷ es) (first_barring (cond b (e ∷ following) following))) [
        | true ↦ λ from. elim (is_id e.0.0) as (λ (s : Bool). is_id e.0.0 ≡ s → Told (e ∷ es) (cond s (cond (is_barring e) (Some e.0.1) (first_barring following)) None)) [
          | true ↦ λ on_it. elim (is_barring e) as (λ (p : Bool). is_barring e ≡ p → Told (e ∷ es) (cond p (Some e.0.1) (first_barring following))) [
            | true ↦ λ bars. here e es (id-from_test e.0.0 on_it) bars less
            | false ↦ λ free. passed e es free (first_barring following) less rest
          ] refl
          | false ↦ λ other. past e es other from less
        ] refl
        | false ↦ λ before. skipped e es (λ t is. cc (before, ap (range_contains claim_cmp start Unbounded) is, from_start t)) (first_barring following) less rest
      ] refl

  of_not : (b : Bool) → not b ≡ true → b ≡ false
  of_not true e = absurd (cc e)
  of_not false e = refl

  of_not_false : (b : Bool) → not b ≡ false → b ≡ true
  of_not_false true e = refl
  of_not_false false e = absurd (cc e)

  -- what the walk tells where it ends
  pub ends_past : (e : Entry) (es : List Entry) → not (is_id e.0.0) ≡ true → first_barring (e ∷ es) ≡ None
  ends_past e es other = ap (λ (b : Bool). cond b (cond (is_barring e) (Some e.0.1) (first_barring es)) None) (of_not (is_id e.0.0) other)

  pub ends_at : (e : Entry) (es : List Entry) → not (is_id e.0.0) ≡ false → not (e.0.1.0 == tx.0) ≡ true → (exclusive || e.1) ≡ true → first_barring (e ∷ es) ≡ Some e.0.1
  ends_at e es on_it apart kind =
      ap (λ (b : Bool). cond b (cond (is_barring e) (Some e.0.1) (first_barring es)) None) (of_not_false (is_id e.0.0) on_it)
      ∙ ap (λ (b : Bool). cond b (Some e.0.1) (first_barring es)) (ap (λ (b : Bool). b && (exclusive || e.1)) apart ∙ kind)

  unequal : (a b : TxId) → a ≢ b → not (a.0 == b.0) ≡ true
  unequal a b apart = elim (a.0 == b.0) as (λ (e : Bool). (a.0 == b.0) ≡ e → not e ≡ true) [
    | true ↦ λ e. absurd (apart (let n = eqb-true a.0 b.0 e in λ i. record { 0 = n i }))
    | false ↦ λ e. refl
  ] refl

  apart_from : (a b : TxId) → not (a.0 == b.0) ≡ true → a ≢ b
  apart_from a b e is = cc (e, eq-eqb a.0 b.0 (ap (λ (t : TxId). t.0) is))

  bars_when : (other : TxId) (v : Bool) → other ≢ tx → (exclusive || v) ≡ true → is_barring ((id, other), v) ≡ true
  bars_when other v apart kind = ap (λ (b : Bool). b && (exclusive || v)) (unequal other tx apart) ∙ kind

  some_way : (o : Option Bool) → IsSomeAnd o (λ held. (exclusive || held) ≡ true) → (v : Bool) × (o ≡ Some v) × ((exclusive || v) ≡ true)
  some_way None h = absurd h
  some_way (Some v) h = (v, refl, h)

  -- what bars is in the way
  in_way : (locks : HeldLocks) (other : TxId) (v : Bool) → get locks (id, other) ≡ Some v → is_barring ((id, other), v) ≡ true → IsInTheWay locks tx id exclusive other
  in_way locks other v found bars =
      let parts = both (not (other.0 == tx.0)) (exclusive || v) bars in
      (apart_from other tx parts.0, subst (λ (o : Option Bool). IsSomeAnd o (λ held. (exclusive || held) ≡ true)) (sym found) parts.1)

  module _ (locks : HeldLocks) (m : BTreeMap Claim Bool) (same : locks_in m ≡ locks) (sorted : IsStrictlySortedBy claim_cmp (keys m.entries)) where
    found_in : (q : Claim) → get locks q ≡ find claim_cmp q m.entries
    found_in q = ap (λ (l : HeldLocks). get l q) (sym same) ∙ get-from_entries claim_total m.entries q

    bars_if : (other : TxId) → IsInTheWay locks tx id exclusive other → (v : Bool) × (find claim_cmp (id, other) m.entries ≡ Some v) × (is_barring ((id, other), v) ≡ true)
    bars_if other way =
        let some = some_way (get locks (id, other)) way.1 in
        (some.0, sym (found_in (id, other)) ∙ some.1, bars_when other some.0 way.0 some.2)

    -- where none is found, none is in the way
    pub free_from : first_barring (filter (λ e. range_contains claim_cmp start Unbounded e.0) m.entries) ≡ None → IsFree locks tx id exclusive
    free_from none other way =
        let bars = bars_if other way in
        let told = subst (Told m.entries) none (first_told m.entries sorted) in
        cc (bars.2, told other bars.0 bars.1)

    -- the first that is found is the least in the way
    pub least_from : (holder : TxId) → first_barring (filter (λ e. range_contains claim_cmp start Unbounded e.0) m.entries) ≡ Some holder → IsLeastInTheWay locks tx id exclusive holder
    least_from holder is =
        let told = subst (Told m.entries) is (first_told m.entries sorted) in (
          in_way locks holder told.0.0 (found_in (id, holder) ∙ told.0.1) told.0.2,
          λ other way. let bars = bars_if other way in told.1 other bars.0 bars.1 bars.2,
        )
