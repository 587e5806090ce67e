-- Laws of placing, for the layers above: pieces go where nothing stands, and a list is placed piece by piece.
use Rattle.std.proofs.Common.{◌≡◌, ℕ, ◌+◌, ◌-◌, ◌/◌, ◌<◌, ◌≤◌, ◌⊎◌, true, false, List, [], ◌∷◌, ◌++◌, Option, Some, None, Result, Ok, Err, inl, inr, refl, sym, ap, subst, ◌∙◌, arith}
use Rattle.std.specs.Prelude.{All}
use Rattle.std.proofs.lemmas.List.Elements.{All-head, All-tail}
use Rattle.std.specs.Ordering.{nat_cmp, eq_by_cmp}
use Rattle.std.specs.FinSet.{contains, contains-insert}
use Rattle.std.specs.Cmp.{nat_cmp_total, unsigned_tied}
use Rattle.std.proofs.lemmas.Bool.{cases_lt, cases_order, or_cases, or_left, or_right, eqb-true, eq-eqb, true≢false}
use Rattle.tdb_base.specs.declared.piece.Place.{Place}
use Rattle.tdb_base.specs.declared.piece.NoRoom.{NoRoom}
use Rattle.tdb_base.specs.Segment.{LiesInSegment}
use Rattle.tdb_seg.specs.SegmentSpace.{SegmentSpace, IsSegmentSpace, IsPlacedIn, EndsInSegment, HasTail, free_segments, bytes_left, at_tail, at_free_segment, next_place, placed, place_in, with_bytes, fits, then_place, then_fit}
use Rattle.tdb_seg.proofs.Placing.{LiesInDevice, next-at_tail, next-past, tail_fits, in_free, segment-of, has_tail}

-- bytes go to the tail, or into a segment that was free
pub record IsFreshPlace (space : SegmentSpace) (place : Place) (n : ℕ) : Type 0 where
  pub k : ℕ
  pub within : k < space.segments
  pub lies : LiesInSegment place.0 n k
  pub fresh : ((space.tail ≡ Some place) × EndsInSegment place.0 k) ⊎ (contains space.used k ≡ false)

next_is_fresh : (space : SegmentSpace) → IsSegmentSpace space → (n keep : ℕ) (place : Place) → 1 ≤ n → n ≤ 262144 → (tail : Option Place) → space.tail ≡ tail → next_place space n keep ≡ Some place → IsFreshPlace space place n
next_is_fresh space valid n keep place some most tail here e = elim (cases_lt (bytes_left space.tail) n) [
  | inl past ↦ free_is_fresh (sym (next-past space n keep past) ∙ e)
  | inr room ↦ tail_is_fresh tail here room
]
  where
    free_is_fresh : at_free_segment (free_segments space) keep ≡ Some place → IsFreshPlace space place n
    free_is_fresh free =
        let at = in_free space keep n place some most free in
        record { k = at.k; within = at.within; lies = at.lies; fresh = inr at.free }

    tail_is_fresh : (tail : Option Place) → space.tail ≡ tail → n ≤ bytes_left space.tail → IsFreshPlace space place n
    tail_is_fresh None none room = let no : n ≤ 0 = subst (λ (o : Option Place). n ≤ bytes_left o) none room in absurd (omega arith)
    tail_is_fresh (Some t) here room =
        let is : Some t ≡ Some place = sym (next-at_tail space t n keep here room) ∙ e in
        let same : t ≡ place = cc in
        let stands = subst (HasTail space.used) here valid.tail in
        let fits_there = subst (λ (o : Option Place). n ≤ bytes_left o) here room in
        subst (λ (p : Place). IsFreshPlace space p n) same (record {
          k = stands.0;
          within = valid.used stands.0 stands.1;
          lies = record { some = some; begins = omega (arith, stands.2.after_start); ends = tail_fits t.0 n stands.0 some fits_there stands.2.after_start stands.2.within };
          fresh = inl (here, stands.2);
        })

-- what `place_in` gives, where it places
pub record IsPlaced (space : SegmentSpace) (n : ℕ) (place : Place) (next : SegmentSpace) : Type 0 where
  pub fresh : IsFreshPlace space place n
  pub after : next ≡ with_bytes space place n

placed-is : (space : SegmentSpace) (n : ℕ) (place : Place) (next : SegmentSpace) (o : Option Place) → placed space n o ≡ Ok (place, next) → (o ≡ Some place) × (next ≡ with_bytes space place n)
placed-is space n place next None e = absurd (cc)
placed-is space n place next (Some p) e =
    let pair : (p, with_bytes space p n) ≡ (place, next) = cc in
    let same : p ≡ place = ap (λ (q : Place × SegmentSpace). q.0) pair in
    (ap (λ (q : Place). Some q) same, sym (ap (λ (q : Place × SegmentSpace). q.1) pair) ∙ ap (λ (q : Place). with_bytes space q n) same)

pub place_in-is : (space : SegmentSpace) → IsSegmentSpace space → (n keep : ℕ) (place : Place) (next : SegmentSpace) → 1 ≤ n → n ≤ 262144 → place_in space n keep ≡ Ok (place, next) → IsPlaced space n place next
unfolding place_in
place_in-is space valid n keep place next some most e =
    let is = placed-is space n place next (next_place space n keep) e in
    record { fresh = next_is_fresh space valid n keep place some most space.tail refl is.0; after = is.1 }

-- a space with more bytes in one of its segments is one
pub with_bytes-valid : (space : SegmentSpace) → IsSegmentSpace space → (place : Place) (n : ℕ) → LiesInDevice space place n → IsSegmentSpace (with_bytes space place n)
with_bytes-valid space valid place n lies = record {
  least = valid.least;
  most = valid.most;
  used = λ k used. named k (or_cases _ _ (sym (contains-insert nat_cmp_total space.used (place.0 / 262144 - 1) k) ∙ used));
  tail = has_tail space.used place.0 n lies.0 (place.0 / 262144 - 1) (segment-of place.0 n lies.0 lies.2) lies.2;
}
  where
    named : (k : ℕ) → (eq_by_cmp nat_cmp k (place.0 / 262144 - 1) ≡ true) ⊎ (contains space.used k ≡ true) → k < space.segments
    named k (inl same) =
        let is : k ≡ lies.0 = eqb-true k (place.0 / 262144 - 1) (sym (unsigned_tied k (place.0 / 262144 - 1)) ∙ same) ∙ segment-of place.0 n lies.0 lies.2 in
        subst (λ (j : ℕ). j < space.segments) (sym is) lies.1
    named k (inr used) = valid.used k used

-- what was placed in the segment of a fresh place stands before it
before_fresh : (space : SegmentSpace) (place : Place) (n q m : ℕ) (new : IsFreshPlace space place n) (old : IsPlacedIn space q m) → old.k ≡ new.k
    → ((space.tail ≡ Some place) × EndsInSegment place.0 new.k) ⊎ (contains space.used new.k ≡ false) → q + m ≤ place.0
before_fresh space place n q m new old same (inl at_tail) = old.before place at_tail.0 (subst (λ (k : ℕ). EndsInSegment place.0 k) (sym same) at_tail.1)
before_fresh space place n q m new old same (inr free) = absurd (true≢false (sym old.used ∙ ap (contains space.used) same ∙ free))

-- a fresh place has no byte of what was placed
pub fresh-apart : (space : SegmentSpace) (place : Place) (n q m : ℕ) → IsFreshPlace space place n → IsPlacedIn space q m → (q + m ≤ place.0) ⊎ (place.0 + n ≤ q)
fresh-apart space place n q m new old = elim (cases_order old.k new.k) [
  | inl same ↦ inl (before_fresh space place n q m new old same new.fresh)
  | inr order ↦ elim order [
    | inl below ↦ inl (omega (arith, below, old.lies.ends, new.lies.begins))
    | inr above ↦ inr (omega (arith, above, new.lies.ends, old.lies.begins))
  ]
]

used-still : (space : SegmentSpace) (place : Place) (n k : ℕ) → contains space.used k ≡ true → contains (with_bytes space place n).used k ≡ true
used-still space place n k used = contains-insert nat_cmp_total space.used (place.0 / 262144 - 1) k ∙ or_right (eq_by_cmp nat_cmp k (place.0 / 262144 - 1)) (contains space.used k) used

the_tail : (p : Place) (tail : Place) → Some p ≡ Some tail → p.0 ≡ tail.0
the_tail p tail e = let same : p ≡ tail = cc in ap (λ (q : Place). q.0) same

-- what was placed stays so
pub placed-stays : (space : SegmentSpace) (place : Place) (n q m : ℕ) → IsFreshPlace space place n → IsPlacedIn space q m → IsPlacedIn (with_bytes space place n) q m
placed-stays space place n q m new old = record {
  k = old.k;
  used = used-still space place n old.k old.used;
  lies = old.lies;
  before = λ tail is ends.
      let at : place.0 + n ≡ tail.0 = the_tail (record { 0 = place.0 + n }) tail is in
      let same : old.k ≡ new.k = omega (arith, at, ends.after_start, ends.within, new.lies.some, new.lies.begins, new.lies.ends) in
      omega (arith, at, before_fresh space place n q m new old same new.fresh);
}

-- and the bytes that were placed now are too
pub now-placed : (space : SegmentSpace) (place : Place) (n : ℕ) → IsFreshPlace space place n → IsPlacedIn (with_bytes space place n) place.0 n
now-placed space place n new = record {
  k = new.k;
  used = contains-insert nat_cmp_total space.used (place.0 / 262144 - 1) new.k ∙ or_left _ _ (unsigned_tied new.k (place.0 / 262144 - 1) ∙ eq-eqb new.k _ (sym (segment-of place.0 n new.k new.lies)));
  lies = new.lies;
  before = λ tail is ends. omega (arith, the_tail (record { 0 = place.0 + n }) tail is);
}

-- what placing some pieces gave, and then placing more
abbrev pub prepended : List Place → Result (List Place × SegmentSpace) NoRoom → Result (List Place × SegmentSpace) NoRoom
prepended places (Ok rest) = Ok (places ++ rest.0, rest.1)
prepended places (Err refusal) = Err refusal

abbrev pub fits_after : Result (List Place × SegmentSpace) NoRoom → List ℕ → ℕ → Result (List Place × SegmentSpace) NoRoom
fits_after (Ok first) ns keep = prepended first.0 (fits first.1 ns keep)
fits_after (Err refusal) ns keep = Err refusal

prepended-nil : (o : Result (List Place × SegmentSpace) NoRoom) → o ≡ prepended [] o
prepended-nil (Ok rest) = refl
prepended-nil (Err refusal) = refl

then-prepended : (place : Place) (places : List Place) (o : Result (List Place × SegmentSpace) NoRoom) → then_place place (prepended places o) ≡ prepended (place ∷ places) o
then-prepended place places (Ok rest) = refl
then-prepended place places (Err refusal) = refl

then-after : (place : Place) (o : Result (List Place × SegmentSpace) NoRoom) (ns : List ℕ) (keep : ℕ) → then_place place (fits_after o ns keep) ≡ fits_after (then_place place o) ns keep
then-after place (Ok first) ns keep = then-prepended place first.0 (fits first.1 ns keep)
then-after place (Err refusal) ns keep = refl

-- pieces are placed one after another
pub fits-append : (space : SegmentSpace) (ns ms : List ℕ) (keep : ℕ) → fits space (ns ++ ms) keep ≡ fits_after (fits space ns keep) ms keep
unfolding fits
fits-append space [] ms keep = prepended-nil (fits space ms keep)
fits-append space (n ∷ ns) ms keep = each (λ next. fits-append next ns ms keep) (place_in space n keep)
  where
    each : ((next : SegmentSpace) → fits next (ns ++ ms) keep ≡ fits_after (fits next ns keep) ms keep) → (o : Result (Place × SegmentSpace) NoRoom) → then_fit (λ (next : SegmentSpace). fits next (ns ++ ms) keep) o ≡ fits_after (then_fit (λ (next : SegmentSpace). fits next ns keep) o) ms keep
    each rest (Ok first) = ap (then_place first.0) (rest first.1) ∙ then-after first.0 (fits first.1 ns keep) ms keep
    each rest (Err refusal) = refl

-- one more piece is placed
pub fits-more : (space : SegmentSpace) (ns : List ℕ) (keep n : ℕ) (places : List Place) (next after : SegmentSpace) (place : Place)
    → fits space ns keep ≡ Ok (places, next) → place_in next n keep ≡ Ok (place, after) → fits space (ns ++ n ∷ []) keep ≡ Ok (places ++ place ∷ [], after)
unfolding fits
fits-more space ns keep n places next after place e f =
    fits-append space ns (n ∷ []) keep
    ∙ ap (λ (o : Result (List Place × SegmentSpace) NoRoom). fits_after o (n ∷ []) keep) e
    ∙ ap (λ (o : Result (Place × SegmentSpace) NoRoom). prepended places (then_fit (λ (s : SegmentSpace). fits s [] keep) o)) f

-- the first piece that isn't placed refuses the list
pub fits-refused : (space : SegmentSpace) (ns : List ℕ) (keep n : ℕ) (rest : List ℕ) (places : List Place) (next : SegmentSpace) (refusal : NoRoom)
    → fits space ns keep ≡ Ok (places, next) → place_in next n keep ≡ Err refusal → fits space (ns ++ n ∷ rest) keep ≡ Err refusal
unfolding fits
fits-refused space ns keep n rest places next refusal e f =
    fits-append space ns (n ∷ rest) keep
    ∙ ap (λ (o : Result (List Place × SegmentSpace) NoRoom). fits_after o (n ∷ rest) keep) e
    ∙ ap (λ (o : Result (Place × SegmentSpace) NoRoom). prepended places (then_fit (λ (s : SegmentSpace). fits s rest keep) o)) f

-- a length that can be placed
abbrev pub IsLength : ℕ → Type 0
IsLength n = (1 ≤ n) × (n ≤ 262144)

-- the pieces of a list with their places: each has no byte of the others, nor of what was placed before
abbrev pub ArePlacedApart : (ℕ → ℕ → Type 0) → List ℕ → List Place → Type 0
ArePlacedApart Old [] [] = Unit {0}
ArePlacedApart Old [] (place ∷ places) = ⊥
ArePlacedApart Old (n ∷ ns) [] = ⊥
ArePlacedApart Old (n ∷ ns) (place ∷ places) =
    ((q m : ℕ) → Old q m → (q + m ≤ place.0) ⊎ (place.0 + n ≤ q)) × ArePlacedApart (λ q m. Old q m ⊎ ((q ≡ place.0) × (m ≡ n))) ns places

ArePlacedApart-fewer : (Old Fewer : ℕ → ℕ → Type 0) → ((q m : ℕ) → Fewer q m → Old q m) → (ns : List ℕ) (places : List Place) → ArePlacedApart Old ns places → ArePlacedApart Fewer ns places
ArePlacedApart-fewer Old Fewer among [] [] apart = tt
ArePlacedApart-fewer Old Fewer among [] (place ∷ places) apart = absurd apart
ArePlacedApart-fewer Old Fewer among (n ∷ ns) [] apart = absurd apart
ArePlacedApart-fewer Old Fewer among (n ∷ ns) (place ∷ places) apart = (
  λ q m old. apart.0 q m (among q m old),
  ArePlacedApart-fewer (λ q m. Old q m ⊎ ((q ≡ place.0) × (m ≡ n))) (λ q m. Fewer q m ⊎ ((q ≡ place.0) × (m ≡ n)))
      (λ q m old. elim old [ inl before ↦ inl (among q m before) | inr now ↦ inr now ]) ns places apart.1,
)

-- what a list that fits leaves
pub record AreFitted (space : SegmentSpace) (ns : List ℕ) (places : List Place) (next : SegmentSpace) : Type 0 where
  pub valid : IsSegmentSpace next
  pub stays : (q m : ℕ) → IsPlacedIn space q m → IsPlacedIn next q m
  pub apart : ArePlacedApart (IsPlacedIn space) ns places

then_fit-is : (rest : SegmentSpace → Result (List Place × SegmentSpace) NoRoom) (o : Result (Place × SegmentSpace) NoRoom) (places : List Place) (next : SegmentSpace) → then_fit rest o ≡ Ok (places, next)
    → (first : Place × SegmentSpace) × (o ≡ Ok first) × (others : List Place) × (rest first.1 ≡ Ok (others, next)) × (places ≡ first.0 ∷ others)
then_fit-is rest (Err refusal) places next e = absurd (cc)
then_fit-is rest (Ok first) places next e = inner (rest first.1) refl e
  where
    inner : (o : Result (List Place × SegmentSpace) NoRoom) → rest first.1 ≡ o → then_place first.0 o ≡ Ok (places, next)
        → (found : Place × SegmentSpace) × (◌≡◌ {A = Result (Place × SegmentSpace) NoRoom} (Ok first) (Ok found)) × (others : List Place) × (rest found.1 ≡ Ok (others, next)) × (places ≡ found.0 ∷ others)
    inner (Err refusal) is e = absurd (cc)
    inner (Ok done) is e =
        let pair : (first.0 ∷ done.0, done.1) ≡ (places, next) = cc in
        let end : done.1 ≡ next = ap (λ (q : List Place × SegmentSpace). q.1) pair in
        (first, refl, done.0, is ∙ ap (λ (s : SegmentSpace). let r : Result (List Place × SegmentSpace) NoRoom = Ok (done.0, s) in r) end, sym (ap (λ (q : List Place × SegmentSpace). q.0) pair))

pub fits-are : (space : SegmentSpace) → IsSegmentSpace space → (ns : List ℕ) → All IsLength ns → (keep : ℕ) (places : List Place) (next : SegmentSpace) → fits space ns keep ≡ Ok (places, next) → AreFitted space ns places next
unfolding fits
fits-are space valid [] lengths keep places next e =
    let pair : ([], space) ≡ (places, next) = cc in
    let none : [] ≡ places = ap (λ (q : List Place × SegmentSpace). q.0) pair in
    let same : space ≡ next = ap (λ (q : List Place × SegmentSpace). q.1) pair in
    subst (λ (ps : List Place). AreFitted space [] ps next) none (subst (λ (s : SegmentSpace). AreFitted space [] [] s) same (record { valid = valid; stays = λ q m old. old; apart = tt }))
fits-are space valid (n ∷ ns) lengths keep places next e =
    let parts = then_fit-is (λ (s : SegmentSpace). fits s ns keep) (place_in space n keep) places next e in
    let place : Place = parts.0.0 in
    let length_ok = All-head IsLength n ns lengths in
    let one = place_in-is space valid n keep place parts.0.1 length_ok.0 length_ok.1 parts.1 in
    let lies : LiesInDevice space place n = (one.fresh.k, one.fresh.within, one.fresh.lies) in
    let next_valid = subst IsSegmentSpace (sym one.after) (with_bytes-valid space valid place n lies) in
    let rest = fits-are parts.0.1 next_valid ns (All-tail IsLength n ns lengths) keep parts.2 next parts.3 in
    let stays : (q m : ℕ) → IsPlacedIn space q m → IsPlacedIn parts.0.1 q m = λ q m old. subst (λ (s : SegmentSpace). IsPlacedIn s q m) (sym one.after) (placed-stays space place n q m one.fresh old) in
    let now : IsPlacedIn parts.0.1 place.0 n = subst (λ (s : SegmentSpace). IsPlacedIn s place.0 n) (sym one.after) (now-placed space place n one.fresh) in
    let among : (q m : ℕ) → IsPlacedIn space q m ⊎ ((q ≡ place.0) × (m ≡ n)) → IsPlacedIn parts.0.1 q m =
    λ q m old. elim old [ inl before ↦ stays q m before | inr same ↦ subst (λ (a : ℕ). IsPlacedIn parts.0.1 a m) (sym same.0) (subst (λ (b : ℕ). IsPlacedIn parts.0.1 place.0 b) (sym same.1) now) ] in
    subst (λ (ps : List Place). AreFitted space (n ∷ ns) ps next) (sym parts.4) (record {
      valid = rest.valid;
      stays = λ q m old. rest.stays q m (stays q m old);
      apart = (
        λ q m old. fresh-apart space place n q m one.fresh old,
        ArePlacedApart-fewer (IsPlacedIn parts.0.1) (λ q m. IsPlacedIn space q m ⊎ ((q ≡ place.0) × (m ≡ n))) among ns parts.2 rest.apart,
      );
    })
