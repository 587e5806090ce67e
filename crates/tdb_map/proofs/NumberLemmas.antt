-- Which ranks are in the trees of a height, and how many edits are.
use Rattle.std.proofs.Common.{◌≡◌, ℕ, zero, suc, ◌+◌, ◌*◌, ◌/◌, ◌%◌, ◌-◌, ◌^◌, ◌<◌, ◌≤◌, Bool, true, false, cond, MatchOption, is_some, ◌&&◌, nat_eq, nat_le, nat_lt, IsTrue, List, [], ◌∷◌, length, Option, None, Some, ◌↔◌, refl, ap, sym, subst, ◌∙◌, arith}
use Rattle.std.proofs.lemmas.Bool.Decides.{nat_tests}
use Rattle.std.proofs.Math.Nat.{pow-suc, div-div-eq-div-mul, div-lt_iff_lt-mul, mul-le-mul_right, le-mul_of_pos_right, one-le-pow, pow-le-pow_right}
use Rattle.std.specs.Map.{lookup}
use Rattle.std.specs.Ordering.{nat_cmp}
use Rattle.std.specs.BTreeMap.Range.{range_contains, entries_between}
use Rattle.std.specs.declared.ops.Bound.TheVariants.{Included, Excluded}
use Rattle.tdb_base.specs.declared.piece.Piece.{Piece}
use Rattle.tdb_map.specs.Tree.{node_count}
use Rattle.tdb_map.specs.Edits.{Edits, is_within, edits_in}

-- two tests that are true together are one
pub same_test : (a b : Bool) → (a ≡ true → b ≡ true) → (b ≡ true → a ≡ true) → a ≡ b
same_test true true f g = refl
same_test false false f g = refl
same_test true false f g = sym (f refl)
same_test false true f g = g refl

-- the number of the tree that is one higher
pub number_above : (rank height : ℕ) → rank / 64 ^ suc height ≡ rank / 64 ^ height / 64
number_above rank height = ap (λ (w : ℕ). rank / w) (pow-suc 64 height) ∙ sym (div-div-eq-div-mul rank (64 ^ height) 64)

pub within_of : (q from to : ℕ) → (nat_le from q && nat_lt q to) ≡ true → (from ≤ q) × (q < to)
within_of q from to h = (grind (arith, nat_tests), grind (arith, nat_tests))

of_within : (q from to : ℕ) → from ≤ q → q < to → (nat_le from q && nat_lt q to) ≡ true
of_within q from to h k = grind (arith, nat_tests)

within_above : (q n : ℕ) → (nat_le n (q / 64) && nat_lt (q / 64) (n + 1)) ≡ (nat_le (n * 64) q && nat_lt q (n * 64 + 64))
within_above q n = same_test _ _
    (λ h. let w = within_of (q / 64) n (n + 1) h in of_within q (n * 64) (n * 64 + 64) (omega (arith, w.0, w.1)) (omega (arith, w.0, w.1)))
    (λ h. let w = within_of q (n * 64) (n * 64 + 64) h in of_within (q / 64) n (n + 1) (omega (arith, w.0, w.1)) (omega (arith, w.0, w.1)))

-- The tree of a number is the 64 trees below it.
pub edits_above : (height number : ℕ) (edits : Edits) → edits_in (suc height) number (number + 1) edits ≡ edits_in height (number * 64) (number * 64 + 64) edits
edits_above height number [] = refl
edits_above height number (e ∷ es) =
    let test : is_within (suc height) number (number + 1) e.0 ≡ is_within height (number * 64) (number * 64 + 64) e.0
    = ap (λ (q : ℕ). nat_le number q && nat_lt q (number + 1)) (number_above e.0 height) ∙ within_above (e.0 / 64 ^ height) number in
    ap (λ (b : Bool). cond b (1 + edits_in (suc height) number (number + 1) es) (edits_in (suc height) number (number + 1) es)) test
    ∙ ap (λ (n : ℕ). cond (is_within height (number * 64) (number * 64 + 64) e.0) (1 + n) n) (edits_above height number es)

none_within : (q from : ℕ) → (nat_le from q && nat_lt q from) ≡ false
none_within q from = grind (arith, nat_tests)

pub edits_none : (height from : ℕ) (edits : Edits) → edits_in height from from edits ≡ 0
edits_none height from [] = refl
edits_none height from (e ∷ es) =
    ap (λ (b : Bool). cond b (1 + edits_in height from from es) (edits_in height from from es)) (none_within (e.0 / 64 ^ height) from) ∙ edits_none height from es

one_more : (q from to m n k : ℕ) → from ≤ to → m + n ≡ k
    → cond (nat_le from q && nat_lt q to) (1 + m) m + cond (nat_le to q && nat_lt q (to + 1)) (1 + n) n ≡ cond (nat_le from q && nat_lt q (to + 1)) (1 + k) k
one_more q from to m n k h e = grind (arith, nat_tests)

edits_one_more : (height from to : ℕ) (edits : Edits) → from ≤ to
    → edits_in height from to edits + edits_in height to (to + 1) edits ≡ edits_in height from (to + 1) edits
edits_one_more height from to [] h = refl
edits_one_more height from to (e ∷ es) h = one_more (e.0 / 64 ^ height) from to _ _ _ h (edits_one_more height from to es h)

-- one tree more
pub edits_more : (height from to next : ℕ) (edits : Edits) → from ≤ to → next ≡ to + 1
    → edits_in height from to edits + edits_in height to (to + 1) edits ≡ edits_in height from next edits
edits_more height from to next edits h e = edits_one_more height from to edits h ∙ ap (λ (n : ℕ). edits_in height from n edits) (sym e)

fewer : (q from to more m n : ℕ) → to ≤ more → m ≤ n → cond (nat_le from q && nat_lt q to) (1 + m) m ≤ cond (nat_le from q && nat_lt q more) (1 + n) n
fewer q from to more m n h k = grind (arith, nat_tests)

-- fewer trees have fewer edits
pub edits_fewer : (height from to more : ℕ) (edits : Edits) → to ≤ more → edits_in height from to edits ≤ edits_in height from more edits
edits_fewer height from to more [] h = omega arith
edits_fewer height from to more (e ∷ es) h = fewer (e.0 / 64 ^ height) from to more _ _ h (edits_fewer height from to more es h)

-- the tree of a number below one whose ranks fit
pub child_fits : (number digit height below most : ℕ) → height ≡ suc below → digit < 64 → (number + 1) * 64 ^ height ≤ most → (number * 64 + digit + 1) * 64 ^ below ≤ most
child_fits number digit height below most is small fits =
    let wide : (number + 1) * (64 ^ below * 64) ≤ most = subst (λ (w : ℕ). (number + 1) * w ≤ most) (ap (λ (h : ℕ). 64 ^ h) is ∙ pow-suc 64 below) fits in
    let step : number * 64 + digit + 1 ≤ (number + 1) * 64 = omega arith in
    let less : (number * 64 + digit + 1) * 64 ^ below ≤ (number + 1) * 64 * 64 ^ below = mul-le-mul_right (64 ^ below) step in
    omega (arith, wide, less)

pub number_fits : (number digit height below most : ℕ) → height ≡ suc below → digit < 64 → (number + 1) * 64 ^ height ≤ most → number * 64 + digit < most
number_fits number digit height below most is small fits =
    let child = child_fits number digit height below most is small fits in
    let more : number * 64 + digit + 1 ≤ (number * 64 + digit + 1) * 64 ^ below = le-mul_of_pos_right (number * 64 + digit + 1) (one-le-pow below 64 (omega arith)) in
    omega (arith, child, more)

in_range : (a b r : ℕ) → range_contains nat_cmp (Included a) (Excluded b) r ≡ (nat_le a r && nat_lt r b)
in_range a b r = grind (arith, nat_tests)

pub le_of_not_lt : (a b : ℕ) → (a < b → ⊥) → b ≤ a
le_of_not_lt a b h = omega (arith, h)

counted : (b : Bool) (e : ℕ × Option Piece) (n : ℕ) (es : Edits) → n ≡ length es → cond b (1 + n) n ≡ length (cond b (e ∷ es) es)
counted true e n es h = omega (arith, h)
counted false e n es h = h

block : (r w n : ℕ) → 0 < w → (nat_le n (r / w) && nat_lt (r / w) (n + 1)) ≡ (nat_le (n * w) r && nat_lt r (n * w + w))
block r w n positive =
    let low : (r / w < n) ↔ (r < n * w) = div-lt_iff_lt-mul {k = w} {x = r} {y = n} positive in
    let high : (r / w < n + 1) ↔ (r < (n + 1) * w) = div-lt_iff_lt-mul {k = w} {x = r} {y = n + 1} positive in
    same_test _ _
    (λ h. let i = within_of (r / w) n (n + 1) h in
    let above : r < (n + 1) * w = high.0 i.1 in
    of_within r (n * w) (n * w + w) (le_of_not_lt r (n * w) (λ less. omega (arith, low.1 less, i.0))) (omega (arith, above)))
    (λ h. let i = within_of r (n * w) (n * w + w) h in
    let above : r < (n + 1) * w = omega (arith, i.1) in
    of_within (r / w) n (n + 1) (le_of_not_lt (r / w) n (λ less. let l = low.0 less in omega (arith, l, i.0))) (high.1 above))

-- the edits that a range of a map gives
pub edits_between : (height number width : ℕ) → width ≡ 64 ^ height → 0 < width → (edits : Edits)
    → edits_in height number (number + 1) edits ≡ length (entries_between nat_cmp (Included (number * width)) (Excluded (number * width + width)) edits)
edits_between height number width is positive [] = refl
edits_between height number width is positive (e ∷ es) =
    let test : is_within height number (number + 1) e.0 ≡ range_contains nat_cmp (Included (number * width)) (Excluded (number * width + width)) e.0
    = ap (λ (w : ℕ). nat_le number (e.0 / w) && nat_lt (e.0 / w) (number + 1)) (sym is) ∙ block e.0 width number positive ∙ sym (in_range (number * width) (number * width + width) e.0) in
    ap (λ (b : Bool). cond b (1 + edits_in height number (number + 1) es) (edits_in height number (number + 1) es)) test
    ∙ counted (range_contains nat_cmp (Included (number * width)) (Excluded (number * width + width)) e.0) e _ _ (edits_between height number width is positive es)

-- whether something comes next
pub some_next : {A B : Type 0} (f : A → B) (next : Option A) (xs rest : List B) → MatchOption next ((xs ≡ []) × (rest ≡ [])) (λ x. xs ≡ f x ∷ rest)
    → IsTrue (is_some next) ↔ (0 < length xs)
some_next f None xs rest h = (λ no. absurd (cc no), λ more. absurd (omega (arith, more, ap length h.0)))
some_next f (Some x) xs rest h = (λ _. omega (arith, ap length h), λ _. refl)

at_rank : (rank height number key : ℕ) → rank / 64 ^ height ≡ number → nat_eq rank key ≡ true → is_within height number (number + 1) key ≡ true
at_rank rank height number key at same =
    let key_is : rank ≡ key = grind (arith, nat_tests) in
    let q : key / 64 ^ height ≡ number = ap (λ (k : ℕ). k / 64 ^ height) (sym key_is) ∙ at in
    of_within (key / 64 ^ height) number (number + 1) (omega (arith, q)) (omega (arith, q))

here : (same within : Bool) (edit : Option Piece) (n : ℕ) (rest : Option (Option Piece)) → (same ≡ true → within ≡ true) → cond within (1 + n) n ≡ 0 → (n ≡ 0 → rest ≡ None)
    → cond same (Some edit) rest ≡ None
here true true edit n rest f none g = absurd (omega (arith, none))
here true false edit n rest f none g = absurd (cc (f refl))
here false true edit n rest f none g = absurd (omega (arith, none))
here false false edit n rest f none g = g none

-- A rank without an edit in its tree has none.
pub no_edit : (height number rank : ℕ) → rank / 64 ^ height ≡ number → (edits : Edits) → edits_in height number (number + 1) edits ≡ 0 → lookup (nat_eq rank) edits ≡ None
no_edit height number rank at [] none = refl
no_edit height number rank at (e ∷ es) none =
    here (nat_eq rank e.0) (is_within height number (number + 1) e.0) e.1 (edits_in height number (number + 1) es) (lookup (nat_eq rank) es)
    (λ same. at_rank rank height number e.0 at same) none (no_edit height number rank at es)

-- what a test that isn't met says
pub none_of : (test : Bool) (n : ℕ) → (0 < n → test ≡ true) → test ≡ false → n ≡ 0
none_of test zero f h = refl
none_of test (suc n) f h = let yes : test ≡ true = f (omega arith) in absurd (cc (yes, h))

pub count_above : (height below : ℕ) → height ≡ suc below → node_count height ≡ 1 + 64 * node_count below
count_above height below is = ap (λ (h : ℕ). node_count h) is

-- the number of the tree below in which a rank is
whole : (q n : ℕ) → q / 64 ≡ n → q ≡ n * 64 + q % 64
whole q n h = omega (arith, h)

pub number_below : (rank height number : ℕ) → rank / 64 ^ suc height ≡ number → rank / 64 ^ height ≡ number * 64 + rank / 64 ^ height % 64
number_below rank height number h =
    let q : rank / 64 ^ height / 64 ≡ number = sym (number_above rank height) ∙ h in
    whole (rank / 64 ^ height) number q

pub last_digit : (q number d : ℕ) → d < 64 → q ≡ number * 64 + d → q % 64 ≡ d
last_digit q number d small is = omega (arith, small, is)

pub number_up : (q number d : ℕ) → d < 64 → q ≡ number * 64 + d → q / 64 ≡ number
number_up q number d small is = omega (arith, small, is)

pub width : (height : ℕ) → 0 < 64 ^ height
width height = one-le-pow height 64 (omega arith)

-- a rank of the tree with a number
pub first_rank : (height number : ℕ) → number * 64 ^ height / 64 ^ height ≡ number
first_rank height number =
    let w = width height in
    let low : (number * 64 ^ height / 64 ^ height < number) ↔ (number * 64 ^ height < number * 64 ^ height) = div-lt_iff_lt-mul {k = 64 ^ height} {x = number * 64 ^ height} {y = number} w in
    let high : (number * 64 ^ height / 64 ^ height < number + 1) ↔ (number * 64 ^ height < (number + 1) * 64 ^ height) = div-lt_iff_lt-mul {k = 64 ^ height} {x = number * 64 ^ height} {y = number + 1} w in
    let up : number * 64 ^ height / 64 ^ height < number + 1 = high.1 (omega (arith, w)) in
    let down : number ≤ number * 64 ^ height / 64 ^ height = le_of_not_lt (number * 64 ^ height / 64 ^ height) number (λ less. let l = low.0 less in omega (arith, l)) in
    omega (arith, up, down)

pub fits_first : (height : ℕ) → height ≤ 5 → 1 * 64 ^ height ≤ 1073741824
fits_first height h = let most : 64 ^ height ≤ 64 ^ 5 = pow-le-pow_right (omega arith) h in omega (arith, most)

pub above_is : (height : ℕ) → (height ≡ 0 → ⊥) → height ≡ suc (height - 1)
above_is height some = omega (arith, some)

-- what is read below the entries so far, and below one more
pub count_room : (digit each all : ℕ) → digit < 64 → all ≡ 1 + 64 * each → 1 + digit * each + each ≤ all
count_room digit each all small is = let p : (digit + 1) * each ≤ 64 * each = mul-le-mul_right each (let s : digit + 1 ≤ 64 = omega (arith, small) in s) in omega (arith, p, is)

pub count_done : (digit each all : ℕ) → digit ≤ 64 → all ≡ 1 + 64 * each → 1 + digit * each ≤ all
count_done digit each all small is = let p : digit * each ≤ 64 * each = mul-le-mul_right each small in omega (arith, p, is)

pub count_next : (digit each : ℕ) → 1 + digit * each + each ≤ 1 + (digit + 1) * each
count_next digit each = omega arith
