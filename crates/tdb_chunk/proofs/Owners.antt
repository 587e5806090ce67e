-- What the records of a partition are sealed by, through changes.
use Rattle.std.proofs.Common.{◌≡◌, ℕ, ◌+◌, ◌<◌, ◌≤◌, ◌==◌, Bool, true, false, cond, not, List, [], ◌∷◌, ◌++◌, length, get_or, take, drop, Option, Some, None, is_some, refl, sym, ◌∙◌, ap, subst, arith}
use Rattle.std.proofs.lemmas.Bool.{both_ways, eqb-true, leb-false, ltb-false, not-false}
use Rattle.std.proofs.lemmas.List.{take-append-drop}
use Rattle.std.proofs.lemmas.Option.{none-some, same_Some}
use Rattle.std.specs.FinMap.{get}
use Rattle.std.specs.Prelude.{IsSomeAnd}
use Rattle.std.specs.Option.{option_map, option_or}
use Rattle.tdb_base.specs.declared.names.PartId.{PartId}
use Rattle.tdb_base.specs.declared.names.Rank.{Rank}
use Rattle.tdb_base.specs.declared.suite.Suite.{Suite}
use Rattle.tdb_model.specs.Apply.{with_chunk, without_chunk, made, copied, with_partition, apply, apply_all}
use Rattle.tdb_model.specs.Check.{check, is_no_number, is_there, has_parent, refusal, tests_of}
use Rattle.tdb_model.specs.State.{State, Partition}
use Rattle.tdb_model.specs.declared.change.Change.{Change}
use Rattle.tdb_model.specs.declared.change.Change.TheVariants.{Write, Free, Make, Copy, Drop}
use Rattle.tdb_model.proofs.CheckLemmas.{apply_all-next, first_refusal-append, passes_at}
use Rattle.tdb_model.proofs.MapLemmas.{get_inserted, get_removed}
use Rattle.tdb_model.proofs.ParentLemmas.{HaveSameParents, apply-HaveSameParents, refusal-HaveSameParents}
use Rattle.tdb_model.proofs.RangeLemmas.{option_or_none, or_false, passed}
use Rattle.std.specs.Cmp.{nat_cmp_total, unsigned_ties, eq_by_cmp_equiv}
use Rattle.tdb_base.specs.SuiteNumber.{suite_number}
use Rattle.tdb_list.specs.declared.entry.Entry.{Entry}
use Rattle.tdb_parts.specs.BareState.{bare, bare_state}
use Rattle.tdb_parts.proofs.Parents.{get_bare}
use Rattle.tdb_overlay.specs.Covering.{Covered, Covers, IsCoveredAt, IsCovering}
use Rattle.tdb_overlay.specs.Found.{Finds, Store}
use Rattle.tdb_overlay.specs.Log.{AreOwned, IsOfPartition, IsOwned}
use Rattle.tdb_overlay.specs.Lookup.{NamesKey, leader_of}
use Rattle.tdb_overlay.specs.StoreState.{record_length, record_of_change, records_of, suite_in}
use Rattle.tdb_overlay.specs.declared.overlay.Leader.{Leader}
use Rattle.tdb_chunk.specs.Laying.{HasOwner, IsOwner, Sealing, owner_after, sealing_in, sealing_of}
use Rattle.tdb_chunk.specs.declared.owner.Owner.{Owner}

-- the same of the state after a change, by what was there before
abbrev pub sealing_after : ℕ → Change → (ℕ → Option Sealing) → ℕ → Option Sealing
sealing_after count (Write part rank bytes) told q = told q
sealing_after count (Free part rank) told q = told q
sealing_after count (Make part suite) told q = cond (q == part.0) (Some (record { suite = suite; home = part.0; birth = count; parent = 0 })) (told q)
sealing_after count (Copy from to) told q = cond (q == to.0) (option_or (option_map (λ s. record { suite = s.suite; home = s.home; birth = s.birth; parent = from.0 }) (told from.0)) (told q)) (told q)
sealing_after count (Drop part) told q = cond (q == part.0) None (told q)

abbrev told : Option Partition → Option Sealing
told found = option_map sealing_of found

-- a partition that is changed is sealed as it was
kept : (state : State) (part : ℕ) (change : Partition → Partition) → ((p : Partition) → sealing_of (change p) ≡ sealing_of p) → (q : ℕ) (found : Option Partition) → get state part ≡ found
    → sealing_in (with_partition state part (option_map change found)) q ≡ sealing_in state q
kept state part change same q None is = refl
kept state part change same q (Some p) is = ap told (get_inserted state part (change p) q) ∙
    elim (q == part) as (λ (b : Bool). (q == part) ≡ b → told (cond b (Some (change p)) (get state q)) ≡ sealing_in state q) [
      | true ↦ λ at. ap Some (same p) ∙ sym (ap told (ap (get state) (eqb-true q part at) ∙ is))
      | false ↦ λ apart. refl
    ] refl

under_cond : (b : Bool) (x y : Option Partition) → told (cond b x y) ≡ cond b (told x) (told y)
under_cond true x y = refl
under_cond false x y = refl

copied_sealing : (count : ℕ) (state : State) (from to q : ℕ) (found : Option Partition)
    → sealing_in (with_partition state to (option_map (copied count from) found)) q
    ≡ cond (q == to) (option_or (option_map (λ s. record { suite = s.suite; home = s.home; birth = s.birth; parent = from }) (told found)) (sealing_in state q)) (sealing_in state q)
copied_sealing count state from to q None =
    elim (q == to) as (λ (b : Bool). sealing_in state q ≡ cond b (sealing_in state q) (sealing_in state q)) [ true ↦ refl | false ↦ refl ]
copied_sealing count state from to q (Some p) = ap told (get_inserted state to (copied count from p) q) ∙ under_cond (q == to) _ _

pub sealing-apply : (count : ℕ) (state : State) (change : Change) (q : ℕ) → sealing_in (apply count state change) q ≡ sealing_after count change (sealing_in state) q
sealing-apply count state (Write part rank bytes) q = kept state part.0 (with_chunk rank.0 bytes) (λ p. refl) q (get state part.0) refl
sealing-apply count state (Free part rank) q = kept state part.0 (without_chunk rank.0) (λ p. refl) q (get state part.0) refl
sealing-apply count state (Make part suite) q = ap told (get_inserted state part.0 (made count part.0 suite) q) ∙ under_cond (q == part.0) _ _
sealing-apply count state (Copy from to) q = copied_sealing count state from.0 to.0 q (get state from.0)
sealing-apply count state (Drop part) q = ap told (get_removed state part.0 q) ∙ under_cond (q == part.0) _ _

-- two states have the same partitions, sealed the same
abbrev pub AreSealedAlike : State → State → Type 0
AreSealedAlike one other = (q : ℕ) → sealing_in one q ≡ sealing_in other q

after_same : (count : ℕ) (change : Change) (one other : ℕ → Option Sealing) → ((q : ℕ) → one q ≡ other q) → (q : ℕ) → sealing_after count change one q ≡ sealing_after count change other q
after_same count (Write part rank bytes) one other same q = same q
after_same count (Free part rank) one other same q = same q
after_same count (Make part suite) one other same q = ap (λ (o : Option Sealing). cond (q == part.0) (Some (record { suite = suite; home = part.0; birth = count; parent = 0 })) o) (same q)
after_same count (Copy from to) one other same q = rw (same q, same from.0) refl
after_same count (Drop part) one other same q = ap (λ (o : Option Sealing). cond (q == part.0) None o) (same q)

pub apply-alike : (count : ℕ) (one other : State) (change : Change) → AreSealedAlike one other → AreSealedAlike (apply count one change) (apply count other change)
apply-alike count one other change same q =
    sealing-apply count one change q ∙ after_same count change (sealing_in one) (sealing_in other) same q ∙ sym (sealing-apply count other change q)

-- No test reads a count.
all_same : (count number : ℕ) (changes : List Change) (one other : State) → HaveSameParents one other → HaveSameParents (apply_all count one changes) (apply_all number other changes)
all_same count number [] one other same = same
all_same count number (change ∷ changes) one other same = all_same count number changes (apply count one change) (apply number other change) (apply-HaveSameParents count number one other change same)

pub passes_behind : (count : ℕ) (state : State) (changes : List Change) (i : ℕ) (change : Change) → check state changes ≡ None → i < length changes → change ≡ get_or changes i change
    → refusal (take i changes) (apply_all count state (take i changes)) change ≡ None
passes_behind count state changes i change passes below is =
    refusal-HaveSameParents (take i changes) _ _ change (all_same count 0 (take i changes) state state (λ q. refl)) ∙ passes_at state changes i change passes below is

-- what a change that passes has
pub is_number : (part : PartId) → is_no_number part ≡ false → (1 ≤ part.0) × (part.0 ≤ 4095)
is_number part is = let both = or_false _ _ is in (ltb-false part.0 1 both.0, ltb-false 4095 part.0 both.1)

pub record IsWriteAllowed (state : State) (part : PartId) (rank : Rank) (bytes : List ℕ) : Type 0 where
  pub number : (1 ≤ part.0) × (part.0 ≤ 4095)
  pub sealing : Sealing
  pub is_there : sealing_in state part.0 ≡ Some sealing
  pub parent : sealing.parent ≡ 0
  pub rank_in_range : rank.0 < 262144
  pub short : length bytes ≤ 65536

there_by : (state : State) (part : PartId) (found : Option Partition) → get state part.0 ≡ found → not (is_some found) ≡ false → has_parent found ≡ false → (s : Sealing) × (sealing_in state part.0 ≡ Some s) × (s.parent ≡ 0)
there_by state part None there absent frozen = absurd (both_ways true absent refl)
there_by state part (Some p) there absent frozen = (sealing_of p, ap told there, eqb-true p.parent 0 (not-false (p.parent == 0) frozen))

pub write_allowed : (earlier : List Change) (state : State) (part : PartId) (rank : Rank) (bytes : List ℕ) → refusal earlier state (Write part rank bytes) ≡ None → IsWriteAllowed state part rank bytes
write_allowed earlier state part rank bytes is =
    let fails = passed (tests_of earlier state (Write part rank bytes)) is in
    let there = there_by state part (get state part.0) refl fails.1.0 fails.1.1.0 in
    record {
      number = is_number part fails.0;
      sealing = there.0;
      is_there = there.1;
      parent = there.2;
      rank_in_range = leb-false 262144 rank.0 fails.1.1.1.0;
      short = ltb-false 65536 (length bytes) fails.1.1.1.1.0;
    }

pub free_allowed : (earlier : List Change) (state : State) (part : PartId) (rank : Rank) → refusal earlier state (Free part rank) ≡ None → ((1 ≤ part.0) × (part.0 ≤ 4095)) × (rank.0 < 262144)
free_allowed earlier state part rank is =
    let fails = passed (tests_of earlier state (Free part rank)) is in
    (is_number part fails.0, leb-false 262144 rank.0 fails.1.1.1.0)

pub make_allowed : (earlier : List Change) (state : State) (part : PartId) (suite : Suite) → refusal earlier state (Make part suite) ≡ None → (1 ≤ part.0) × (part.0 ≤ 4095)
make_allowed earlier state part suite is = is_number part (passed (tests_of earlier state (Make part suite)) is).0

pub copy_allowed : (earlier : List Change) (state : State) (from to : PartId) → refusal earlier state (Copy from to) ≡ None → ((1 ≤ from.0) × (from.0 ≤ 4095)) × ((1 ≤ to.0) × (to.0 ≤ 4095)) × (is_there state from ≡ true)
copy_allowed earlier state from to is =
    let fails = passed (tests_of earlier state (Copy from to)) is in
    let both = or_false (is_no_number from) (is_no_number to) fails.0 in
    (is_number from both.0, is_number to both.1, not-false (is_there state from) fails.1.1.0)

pub drop_allowed : (earlier : List Change) (state : State) (part : PartId) → refusal earlier state (Drop part) ≡ None → (1 ≤ part.0) × (part.0 ≤ 4095)
drop_allowed earlier state part is = is_number part (passed (tests_of earlier state (Drop part)) is).0

turned : (a b : ℕ) → (a == b) ≡ (b == a)
turned a b = unsigned_ties a b ∙ (eq_by_cmp_equiv nat_cmp_total).symm a b ∙ sym (unsigned_ties b a)

copy_has : (part : PartId) (from : ℕ) (found : Option Partition) (before : Option Sealing) → 1 ≤ from → is_some found ≡ true
    → HasOwner part (option_or (option_map (λ s. record { suite = s.suite; home = s.home; birth = s.birth; parent = from }) (told found)) before) None
copy_has part from None before some there = absurd (both_ways false refl there)
copy_has part from (Some p) before some there = λ zero. absurd (omega (arith, zero, some))

-- the owner behind one change more that passes
owner_step : (count : ℕ) (earlier : List Change) (state : State) (change : Change) (part : PartId) (owner : Option Owner) → 1 ≤ count → refusal earlier state change ≡ None → HasOwner part (sealing_in state part.0) owner
    → HasOwner part (sealing_after count change (sealing_in state) part.0) (owner_after count part change owner)
owner_step count earlier state (Write written rank bytes) part owner some passes has = has
owner_step count earlier state (Free freed rank) part owner some passes has = has
owner_step count earlier state (Make new suite) part owner some passes has =
    let number = make_allowed earlier state new suite passes in
    let s : Sealing = record { suite = suite; home = new.0; birth = count; parent = 0 } in
    let o : Owner = record { part = part; suite = suite; home = part.0; birth = count } in
    subst (λ (b : Bool). HasOwner part (cond (part.0 == new.0) (Some s) (sealing_in state part.0)) (cond b (Some o) owner)) (turned part.0 new.0)
    (elim (part.0 == new.0) as (λ (b : Bool). (part.0 == new.0) ≡ b → HasOwner part (cond b (Some s) (sealing_in state part.0)) (cond b (Some o) owner)) [
      | true ↦ λ at zero.
          let same : part.0 ≡ new.0 = eqb-true part.0 new.0 at in
          record { part_is = refl; suite = refl; home = same; birth = refl; key = (omega (arith, same, number.0), omega (arith, same, number.1), some) }
      | false ↦ λ apart. has
    ] refl)
owner_step count earlier state (Copy from to) part owner some passes has =
    let range = copy_allowed earlier state from to passes in
    let copy : Option Sealing = option_or (option_map (λ s. record { suite = s.suite; home = s.home; birth = s.birth; parent = from.0 }) (sealing_in state from.0)) (sealing_in state part.0) in
    subst (λ (b : Bool). HasOwner part (cond (part.0 == to.0) copy (sealing_in state part.0)) (cond b None owner)) (turned part.0 to.0)
    (elim (part.0 == to.0) as (λ (b : Bool). HasOwner part (cond b copy (sealing_in state part.0)) (cond b None owner)) [
      | true ↦ copy_has part from.0 (get state from.0) (sealing_in state part.0) range.0.0 range.2
      | false ↦ has
    ])
owner_step count earlier state (Drop dropped) part owner some passes has =
    subst (λ (b : Bool). HasOwner part (cond (part.0 == dropped.0) None (sealing_in state part.0)) (cond b None owner)) (turned part.0 dropped.0)
    (elim (part.0 == dropped.0) as (λ (b : Bool). HasOwner part (cond b None (sealing_in state part.0)) (cond b None owner)) [
      | true ↦ tt
      | false ↦ has
    ])

pub owner_next : (count : ℕ) (state : State) (changes : List Change) (i : ℕ) (change : Change) (part : PartId) (owner : Option Owner) → 1 ≤ count → check state changes ≡ None → i < length changes → change ≡ get_or changes i change
    → HasOwner part (sealing_in (apply_all count state (take i changes)) part.0) owner → HasOwner part (sealing_in (apply_all count state (take (i + 1) changes)) part.0) (owner_after count part change owner)
owner_next count state changes i change part owner some passes below is has =
    let before : State = apply_all count state (take i changes) in
    subst (λ (s : State). HasOwner part (sealing_in s part.0) (owner_after count part change owner)) (apply_all-next count state changes i change below is)
    (subst (λ (o : Option Sealing). HasOwner part o (owner_after count part change owner)) (sym (sealing-apply count before change part.0))
    (owner_step count (take i changes) before change part owner some (passes_behind count state changes i change passes below is) has))

-- what an overlay tells of the partition
by_leader : (part : PartId) (leader : Leader) (c : Option Covered) → Some leader ≡ option_map leader_of c → NamesKey leader
    → HasOwner part (told (option_map bare c)) (Some (record { part = part; suite = leader.suite; home = leader.home; birth = leader.birth }))
by_leader part leader None led named = absurd (none-some leader (sym led))
by_leader part leader (Some c) led named =
    let same : leader ≡ leader_of c = same_Some leader (leader_of c) led in
    λ zero. record { part_is = refl; suite = ap (λ (l : Leader). l.suite) same; home = ap (λ (l : Leader). l.home) same; birth = ap (λ (l : Leader). l.birth) same; key = named }

pub told_by_leader : (covers : Covers) (part : PartId) (leader : Leader) → Some leader ≡ option_map leader_of (get covers part.0) → NamesKey leader
    → HasOwner part (sealing_in (bare_state covers) part.0) (Some (record { part = part; suite = leader.suite; home = leader.home; birth = leader.birth }))
told_by_leader covers part leader led named =
    subst (λ (o : Option Partition). HasOwner part (told o) (Some (record { part = part; suite = leader.suite; home = leader.home; birth = leader.birth }))) (sym (get_bare covers part.0)) (by_leader part leader (get covers part.0) led named)

by_none : (part : PartId) (c : Option Covered) → None ≡ option_map leader_of c → HasOwner part (told (option_map bare c)) None
by_none part None led = tt
by_none part (Some c) led = absurd (none-some (leader_of c) led)

pub told_by_none : (covers : Covers) (part : PartId) → None ≡ option_map leader_of (get covers part.0) → HasOwner part (sealing_in (bare_state covers) part.0) None
told_by_none covers part led = subst (λ (o : Option Partition). HasOwner part (told o) None) (sym (get_bare covers part.0)) (by_none part (get covers part.0) led)

told_alike : (finds : Finds) (secret : List ℕ) (c : Option Covered) (p : Option Partition) → IsCoveredAt finds secret c p → told (option_map bare c) ≡ told p
told_alike finds secret (Some c) (Some p) is = let same : sealing_of (bare c) ≡ sealing_of p = cc (is.suite, is.home, is.birth, is.parent) in ap Some same
told_alike finds secret (Some c) None is = absurd is
told_alike finds secret None (Some p) is = absurd is
told_alike finds secret None None is = refl

-- the state that an overlay covers is sealed as it tells
pub covered_alike : (finds : Finds) (secret : List ℕ) (covers : Covers) (state : State) → IsCovering finds secret covers state → AreSealedAlike (bare_state covers) state
covered_alike finds secret covers state is q = ap told (get_bare covers q) ∙ told_alike finds secret (get covers q) (get state q) (is q)

of_alike : (e : Entry) (found other : Option Partition) → told found ≡ told other → IsOfPartition e found → IsOfPartition e other
of_alike e found None same is = absurd (none-some (sealing_of is.partition) (sym same ∙ ap told is.is_there))
of_alike e found (Some p) same is =
    let t : sealing_of is.partition ≡ sealing_of p = same_Some _ _ (sym (ap told is.is_there) ∙ same) in
    record {
      partition = p;
      is_there = refl;
      suite = is.suite ∙ ap (λ (s : Sealing). suite_number s.suite) t;
      home = is.home ∙ ap (λ (s : Sealing). s.home) t;
      birth = is.birth ∙ ap (λ (s : Sealing). s.birth) t;
    }

owned_one : (one other : State) (e : Entry) (change : Change) → AreSealedAlike one other → IsOwned one e change → IsOwned other e change
owned_one one other e (Write part rank bytes) same is = of_alike e (get one part.0) (get other part.0) (same part.0) is
owned_one one other e (Free part rank) same is = tt
owned_one one other e (Make part suite) same is = tt
owned_one one other e (Copy from to) same is = tt
owned_one one other e (Drop part) same is = tt

pub owned_alike : (count : ℕ) (one other : State) (entries : List Entry) (changes : List Change) → AreSealedAlike one other → AreOwned count one entries changes → AreOwned count other entries changes
owned_alike count one other [] changes same are = tt
owned_alike count one other (e ∷ entries) [] same are = absurd are
owned_alike count one other (e ∷ entries) (change ∷ changes) same are =
    (owned_one one other e change same are.0, owned_alike count (apply count one change) (apply count other change) entries changes (apply-alike count one other change same) are.1)

-- the suite of a partition, by what it is sealed by
abbrev suite_told : Suite → Option Sealing → Suite
suite_told suite None = suite
suite_told suite (Some s) = s.suite

suite_is : (suite : Suite) (found : Option Partition) → suite_in suite found ≡ suite_told suite (told found)
suite_is suite None = refl
suite_is suite (Some p) = refl

pub suite_there : (suite : Suite) (state : State) (part : ℕ) (s : Sealing) → sealing_in state part ≡ Some s → suite_in suite (get state part) ≡ s.suite
suite_there suite state part s is = suite_is suite (get state part) ∙ ap (suite_told suite) is

record_one : (store : Store) (one other : State) (change : Change) → AreSealedAlike one other → record_of_change store one change ≡ record_of_change store other change
record_one store one other (Write part rank bytes) same =
    ap (λ (s : Suite). record_length s (length bytes) ∷ []) (suite_is store.suite (get one part.0) ∙ ap (suite_told store.suite) (same part.0) ∙ sym (suite_is store.suite (get other part.0)))
record_one store one other (Free part rank) same = refl
record_one store one other (Make part suite) same = refl
record_one store one other (Copy from to) same = refl
record_one store one other (Drop part) same = refl

pub records_alike : (store : Store) (count : ℕ) (one other : State) (changes : List Change) → AreSealedAlike one other → records_of store count one changes ≡ records_of store count other changes
records_alike store count one other [] same = refl
records_alike store count one other (change ∷ changes) same =
    ap (λ (ns : List ℕ). ns ++ records_of store count (apply count one change) changes) (record_one store one other change same)
    ∙ ap (λ (ns : List ℕ). record_of_change store other change ++ ns) (records_alike store count (apply count one change) (apply count other change) changes (apply-alike count one other change same))

owned_found : (e : Entry) (found : Option Partition) (s : Sealing) → told found ≡ Some s → e.suite ≡ suite_number s.suite → e.home ≡ s.home → e.birth ≡ s.birth → IsOfPartition e found
owned_found e None s is suite home birth = absurd (none-some s is)
owned_found e (Some p) s is suite home birth =
    let t : sealing_of p ≡ s = same_Some _ _ is in
    record {
      partition = p;
      is_there = refl;
      suite = suite ∙ ap (λ (x : Sealing). suite_number x.suite) (sym t);
      home = home ∙ ap (λ (x : Sealing). x.home) (sym t);
      birth = birth ∙ ap (λ (x : Sealing). x.birth) (sym t);
    }

-- an entry that says what its partition's records are sealed by
pub owned_by : (state : State) (part : ℕ) (e : Entry) (s : Sealing) → sealing_in state part ≡ Some s → e.suite ≡ suite_number s.suite → e.home ≡ s.home → e.birth ≡ s.birth → IsOfPartition e (get state part)
owned_by state part e s is suite home birth = owned_found e (get state part) s is suite home birth

-- the owner of a partition whose chunk may be written
pub the_owner : (state : State) (part : PartId) (rank : Rank) (bytes : List ℕ) (owner : Option Owner) → HasOwner part (sealing_in state part.0) owner → (is : IsWriteAllowed state part rank bytes) → IsSomeAnd owner (IsOwner part is.sealing)
the_owner state part rank bytes owner has is =
    let found : HasOwner part (Some is.sealing) owner = subst (λ (o : Option Sealing). HasOwner part o owner) is.is_there has in
    found is.parent

-- the first changes of some that pass, pass
pub passes_before : (state : State) (changes : List Change) (i : ℕ) → check state changes ≡ None → check state (take i changes) ≡ None
passes_before state changes i passes =
    (option_or_none (check state (take i changes)) _ (sym (first_refusal-append [] state (take i changes) (drop i changes)) ∙ ap (check state) (take-append-drop i changes) ∙ passes)).0
