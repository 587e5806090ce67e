-- Where the next piece goes: in which segment it lies, and when there is none.
use Rattle.std.proofs.Common.{◌≡◌, ℕ, zero, suc, ◌+◌, ◌-◌, ◌*◌, ◌/◌, ◌%◌, ◌<◌, ◌≤◌, Bool, true, false, not, List, [], ◌∷◌, length, Option, Some, None, Ok, Err, ◌||◌, IfSome, inl, inr, refl, sym, ap, subst, replicate, ◌∙◌, arith}
use Rattle.std.specs.List.{filter, range_with_len}
use Rattle.std.specs.FinSet.{FinSet, contains, insert, contains-insert}
use Rattle.std.specs.Ordering.{nat_cmp}
use Rattle.std.specs.Cmp.{nat_cmp_total, unsigned_tied}
use Rattle.std.proofs.lemmas.Bool.{cases_lt, cases_Bool, lt-ltb, le-ltb, le-leb, lt-leb, eq-eqb, cond-true, cond-false, not-true, not-false}
use Rattle.tdb_base.specs.declared.piece.Place.{Place}
use Rattle.tdb_base.specs.Segment.{LiesInSegment}
use Rattle.tdb_seg.specs.declared.segments.Segments.TheInside.{Inside}
use Rattle.tdb_seg.specs.SegmentSpace.{SegmentSpace, IsSegmentSpace, HasTail, missing_below, free_segments, free_count, bytes_left, segment_start, segment_of, at_tail, at_free_segment, or_else, next_place, placed, place_in, with_bytes, fresh_space}
use Rattle.tdb_seg.specs.Inside.{space_of, IsKept}
use Rattle.tdb_seg.specs.InsideLaws.{contains-used_in}
use Rattle.std.proofs.lemmas.Bool.{eqb-true}
use Rattle.tdb_seg.proofs.UsedWords.{zeros-value, zeros-table, used_in-zeros}

-- the fields of each value give a valid space
pub kept-space : (a : Inside) → IsKept a → IsSegmentSpace (space_of a)
kept-space a kept = record {
  least = kept.table.least;
  most = kept.table.most;
  used = λ k set. kept.table.used k (eqb-true _ 1 (sym (contains-used_in a.table kept.value k) ∙ set));
  tail = kept.tail;
}

-- the first number that passes in a run
pub record IsFirst (p : ℕ → Bool) (a n k : ℕ) : Type 0 where
  pub low : a ≤ k
  pub high : k < a + n
  pub passes : p k ≡ true
  pub before : (j : ℕ) → a ≤ j → j < k → p j ≡ false

first_of_run : (p : ℕ → Bool) (a n k : ℕ) (ks : List ℕ) → filter p (range_with_len a n) ≡ k ∷ ks → IsFirst p a n k
first_of_run p a zero k ks e = absurd (cc)
first_of_run p a (suc n) k ks e = elim (cases_Bool (p a)) [
  | inl passing ↦
      let here : a ∷ filter p (range_with_len (a + 1) n) ≡ k ∷ ks = sym (cond-true (p a) _ _ passing) ∙ e in
      let same : a ≡ k = cc in
      record { low = omega arith; high = omega arith; passes = subst (λ (m : ℕ). p m ≡ true) same passing; before = λ j low high. absurd (omega arith) }
  | inr failing ↦
      let rest = first_of_run p (a + 1) n k ks (sym (cond-false (p a) (a ∷ filter p (range_with_len (a + 1) n)) (filter p (range_with_len (a + 1) n)) failing) ∙ e) in
      record {
        low = omega (arith, rest.low);
        high = omega (arith, rest.high);
        passes = rest.passes;
        before = λ j low high. elim (cases_lt a j) [ inl lt ↦ rest.before j (omega arith) high | inr le ↦ subst (λ (m : ℕ). p m ≡ false) (let s : a ≡ j = omega arith in s) failing ];
      }
]

-- the least free segment
pub record IsLeastFree (space : SegmentSpace) (k : ℕ) : Type 0 where
  pub within : k < space.segments
  pub free : contains space.used k ≡ false
  pub least : (j : ℕ) → j < k → contains space.used j ≡ true

pub least_free : (space : SegmentSpace) (k : ℕ) (ks : List ℕ) → free_segments space ≡ k ∷ ks → IsLeastFree space k
unfolding missing_below
least_free space k ks e =
    let first = first_of_run (λ j. not (contains space.used j)) 0 space.segments k ks e in
    record { within = omega (arith, first.high); free = not-true _ first.passes; least = λ j below. not-false _ (first.before j (omega arith) below) }

pub at_tail-fits : (t : Place) (n : ℕ) → n ≤ bytes_left (Some t) → at_tail (Some t) n ≡ Some t
at_tail-fits t n le = cond-true _ _ _ (le-leb n (bytes_left (Some t)) le)

pub at_tail-past : (tail : Option Place) (n : ℕ) → bytes_left tail < n → at_tail tail n ≡ None
at_tail-past None n lt = refl
at_tail-past (Some t) n lt = cond-false _ _ _ (lt-leb n (bytes_left (Some t)) lt)

pub at_free-some : (k : ℕ) (ks : List ℕ) (keep : ℕ) → keep < length (k ∷ ks) → at_free_segment (k ∷ ks) keep ≡ Some (record { 0 = segment_start k })
at_free-some k ks keep lt = cond-true _ _ _ (lt-ltb keep (length (k ∷ ks)) lt)

pub at_free-none : (ks : List ℕ) (keep : ℕ) → length ks ≤ keep → at_free_segment ks keep ≡ None
at_free-none [] keep le = refl
at_free-none (k ∷ ks) keep le = cond-false _ _ _ (le-ltb keep (length (k ∷ ks)) le)

pub no_tail : (tail : Option Place) (n : ℕ) → tail ≡ None → 1 ≤ n → bytes_left tail < n
no_tail tail n none some = subst (λ (o : Option Place). bytes_left o < n) (sym none) some

-- a piece that fits goes to the tail
pub next-at_tail : (space : SegmentSpace) (t : Place) (n keep : ℕ) → space.tail ≡ Some t → n ≤ bytes_left space.tail → next_place space n keep ≡ Some t
unfolding next_place
next-at_tail space t n keep here fits =
    ap (λ (tail : Option Place). or_else (at_tail tail n) (at_free_segment (free_segments space) keep)) here
    ∙ ap (λ (first : Option Place). or_else first (at_free_segment (free_segments space) keep)) (at_tail-fits t n (subst (λ (tail : Option Place). n ≤ bytes_left tail) here fits))

-- and else to a free segment
pub next-past : (space : SegmentSpace) (n keep : ℕ) → bytes_left space.tail < n → next_place space n keep ≡ at_free_segment (free_segments space) keep
unfolding next_place
next-past space n keep past = ap (λ (first : Option Place). or_else first (at_free_segment (free_segments space) keep)) (at_tail-past space.tail n past)

-- what fits before the tail's end lies in its segment
pub tail_fits : (t n k : ℕ) → 1 ≤ n → n ≤ (262144 - t % 262144) % 262144 → 262144 * (k + 1) < t → t ≤ 262144 * (k + 1 + 1) → t + n ≤ 262144 * (k + 2)
tail_fits t n k some fits after within =
    let r : ℕ = t % 262144 in
    let split : t ≡ 262144 * (t / 262144) + t % 262144 = omega arith in
    let small : t % 262144 < 262144 = omega arith in
    elim (cases_lt 0 (t % 262144)) [
      | inl lt ↦ let short : n ≤ 262144 - t % 262144 = omega arith in omega arith
      | inr le ↦ absurd (omega arith)
    ]

-- the piece lies in one of the device's segments
abbrev pub LiesInDevice : SegmentSpace → Place → ℕ → Type 0
LiesInDevice space place n = (k : ℕ) × (k < space.segments) × LiesInSegment place.0 n k

pub lies-at_tail : (space : SegmentSpace) → IsSegmentSpace space → (t : Place) (n : ℕ) → space.tail ≡ Some t → 1 ≤ n → n ≤ bytes_left space.tail → LiesInDevice space t n
lies-at_tail space valid t n here some fits =
    let tail = subst (HasTail space.used) here valid.tail in
    let room = subst (λ (o : Option Place). n ≤ bytes_left o) here fits in
    (tail.0, valid.used tail.0 tail.1, record { some = some; begins = omega (arith, tail.2.after_start); ends = tail_fits t.0 n tail.0 some room tail.2.after_start tail.2.within })

-- a place in a free segment is the start of the least one, and more than `keep` are free
pub record IsAtFree (ks : List ℕ) (keep : ℕ) (place : Place) : Type 0 where
  pub k : ℕ
  pub rest : List ℕ
  pub least : ks ≡ k ∷ rest
  pub start : place ≡ record { 0 = segment_start k }
  pub room : keep < length ks

pub at_free-is : (ks : List ℕ) (keep : ℕ) (place : Place) → at_free_segment ks keep ≡ Some place → IsAtFree ks keep place
at_free-is [] keep place e = absurd (cc)
at_free-is (k ∷ ks) keep place e = elim (cases_lt keep (length (k ∷ ks))) [
  | inl lt ↦
      let start : Place = record { 0 = segment_start k } in
      let is : Some start ≡ Some place = sym (at_free-some k ks keep lt) ∙ e in
      let same : place ≡ start = cc in
      record { k = k; rest = ks; least = refl; start = same; room = lt }
  | inr le ↦ let none : None ≡ Some place = sym (at_free-none (k ∷ ks) keep le) ∙ e in absurd (cc)
]

-- so it lies in a segment that was free
pub record IsInFree (space : SegmentSpace) (place : Place) (n : ℕ) : Type 0 where
  pub k : ℕ
  pub within : k < space.segments
  pub lies : LiesInSegment place.0 n k
  pub free : contains space.used k ≡ false

pub in_free : (space : SegmentSpace) (keep n : ℕ) (place : Place) → 1 ≤ n → n ≤ 262144 → at_free_segment (free_segments space) keep ≡ Some place → IsInFree space place n
in_free space keep n place some most e =
    let at = at_free-is (free_segments space) keep place e in
    let least = least_free space at.k at.rest at.least in
    let start : place.0 ≡ 262144 * (at.k + 1) = ap (λ (p : Place). p.0) at.start in
    record { k = at.k; within = least.within; lies = record { some = some; begins = omega (arith, start); ends = omega (arith, start, most) }; free = least.free }

pub lies-at_free : (space : SegmentSpace) (keep n : ℕ) (place : Place) → 1 ≤ n → n ≤ 262144 → at_free_segment (free_segments space) keep ≡ Some place → LiesInDevice space place n
lies-at_free space keep n place some most e = let in_segment = in_free space keep n place some most e in (in_segment.k, in_segment.within, in_segment.lies)

pub lies-if_free : (space : SegmentSpace) (keep n : ℕ) (next : Option Place) → 1 ≤ n → n ≤ 262144 → next ≡ at_free_segment (free_segments space) keep → IfSome next (λ place. LiesInDevice space place n)
lies-if_free space keep n None some most e = tt
lies-if_free space keep n (Some place) some most e = lies-at_free space keep n place some most (sym e)

-- when there is no place
abbrev pub LacksRoom : SegmentSpace → ℕ → ℕ → Type 0
LacksRoom space n keep = (bytes_left space.tail < n) × (free_count space ≤ keep)

pub lacks-none : (space : SegmentSpace) (n keep : ℕ) → LacksRoom space n keep → next_place space n keep ≡ None
lacks-none space n keep lacks = next-past space n keep lacks.0 ∙ at_free-none (free_segments space) keep lacks.1

full : (ks : List ℕ) (keep : ℕ) → at_free_segment ks keep ≡ None → length ks ≤ keep
full [] keep e = omega arith
full (k ∷ ks) keep e = elim (cases_lt keep (length (k ∷ ks))) [
  | inl lt ↦
      let start : Place = record { 0 = segment_start k } in
      let none : None ≡ Some start = sym e ∙ at_free-some k ks keep lt in
      absurd (cc)
  | inr le ↦ le
]

past : (tail : Option Place) (n : ℕ) (other : Option Place) → 1 ≤ n → or_else (at_tail tail n) other ≡ None → bytes_left tail < n
past None n other some e = some
past (Some t) n other some e = elim (cases_lt (bytes_left (Some t)) n) [
  | inl lt ↦ lt
  | inr le ↦ let none : None ≡ Some t = sym e ∙ ap (λ (first : Option Place). or_else first other) (at_tail-fits t n le) in absurd (cc)
]

pub none-lacks : (space : SegmentSpace) (n keep : ℕ) → 1 ≤ n → next_place space n keep ≡ None → LacksRoom space n keep
unfolding next_place
none-lacks space n keep some e =
    let over : bytes_left space.tail < n = past space.tail n (at_free_segment (free_segments space) keep) some e in
    (over, full (free_segments space) keep (sym (next-past space n keep over) ∙ e))

-- the two outcomes of placing
pub place-refused : (space : SegmentSpace) (n keep : ℕ) → next_place space n keep ≡ None → place_in space n keep ≡ Err (record { need = n; free = bytes_left space.tail })
unfolding place_in
place-refused space n keep e = ap (placed space n) e

pub place-placed : (space : SegmentSpace) (n keep : ℕ) (place : Place) → next_place space n keep ≡ Some place → place_in space n keep ≡ Ok (place, with_bytes space place n)
unfolding place_in
place-placed space n keep place e = ap (placed space n) e

-- the segment of a piece
pub segment-of : (place n k : ℕ) → LiesInSegment place n k → segment_of place ≡ k
segment-of place n k lies = omega (arith, lies.some, lies.begins, lies.ends)

-- a piece that was added is before the tail, in its segment
pub has_tail : (used : FinSet nat_cmp) (place n k segment : ℕ) → segment ≡ k → LiesInSegment place n k → HasTail (insert used segment) (Some (record { 0 = place + n }))
has_tail used place n k segment same lies = (
  k,
  contains-insert nat_cmp_total used segment k ∙ ap (λ (b : Bool). b || contains used k) (unsigned_tied k segment ∙ eq-eqb k segment (sym same)),
  record { after_start = omega (arith, lies.some, lies.begins); within = omega (arith, lies.ends) },
)

-- a fresh device
pub fresh-kept : (n : ℕ) → 16 ≤ n → n ≤ 4096 → IsKept (record { table = record { segments = n; used = replicate 64 0 }; tail = None })
fresh-kept n least most = record { table = zeros-table n least most; value = zeros-value n; tail = used_in-zeros n }

pub fresh-space : (n : ℕ) → space_of (record { table = record { segments = n; used = replicate 64 0 }; tail = None }) ≡ fresh_space n
fresh-space n = ap (λ (used : FinSet nat_cmp). let space : SegmentSpace = record { segments = n; used = used; tail = None } in space) (used_in-zeros n)
