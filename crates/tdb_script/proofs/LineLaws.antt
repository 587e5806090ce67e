-- A line has one value.
use Rattle.std.proofs.Common.{◌≡◌, ℕ, ◌<◌, ◌^◌, List, ◌∷◌, ◌++◌, length, get_or, drop, decimal, codes, refl, sym, ◌∙◌, ap, arith, append_assoc}
use Rattle.std.proofs.lemmas.Fmt.{decimal_injective}
use Rattle.tdb_script.specs.LineSpelling.{LineValue, begin, new_note, get, commit, abort, snapshot, drop_part, peek, parts, quit}
use Rattle.tdb_script.specs.LineSpelling.{line_spelling, IsLine, IsTransaction, IsPart, IsObject}
use Rattle.tdb_script.proofs.Fields.{HasNoSpace, decimal_has_no_space, same_fields}

pub fits_64 : (n : ℕ) → IsTransaction n → n < 2 ^ 64
fits_64 n within = omega (arith, within.1)

pub object_fits_64 : (n : ℕ) → IsObject n → n < 2 ^ 64
object_fits_64 n within = omega (arith, within)

pub part_fits_64 : (n : ℕ) → IsPart n → n < 2 ^ 64
part_fits_64 n within = omega (arith, within)

-- the fields of a line that makes a note, behind its command
pub note_fields : (bytes number value : List ℕ) (n : ℕ) (text : List ℕ) → IsTransaction n → HasNoSpace number → drop 4 bytes ≡ number ++ 32 ∷ value → bytes ≡ line_spelling (new_note n text) → (number ≡ decimal n) × (value ≡ codes "note " ++ text)
note_fields bytes number value n text within none is spelled =
    same_fields number (decimal n) value (codes "note " ++ text) none (decimal_has_no_space n (fits_64 n within))
    (sym is ∙ ap (λ (l : List ℕ). drop 4 l) spelled ∙ append_assoc (decimal n) (codes " note ") text)

-- the fields of a line that gets an object, behind its command
pub get_fields : (bytes number word : List ℕ) (n object : ℕ) → IsTransaction n → HasNoSpace number → drop 4 bytes ≡ number ++ 32 ∷ word → bytes ≡ line_spelling (get n object) → (number ≡ decimal n) × (word ≡ decimal object)
get_fields bytes number word n object within none is spelled =
    same_fields number (decimal n) word (decimal object) none (decimal_has_no_space n (fits_64 n within))
    (sym is ∙ ap (λ (l : List ℕ). drop 4 l) spelled ∙ append_assoc (decimal n) (codes " ") (decimal object))

-- the fields of a line that peeks at an object, behind its command
pub peek_fields : (bytes number word : List ℕ) (n object : ℕ) → IsPart n → HasNoSpace number → drop 5 bytes ≡ number ++ 32 ∷ word
    → bytes ≡ line_spelling (peek n object) → (number ≡ decimal n) × (word ≡ decimal object)
peek_fields bytes number word n object within none is spelled =
    same_fields number (decimal n) word (decimal object) none (decimal_has_no_space n (part_fits_64 n within))
    (sym is ∙ ap (λ (l : List ℕ). drop 5 l) spelled ∙ append_assoc (decimal n) (codes " ") (decimal object))

same_number : (m n : ℕ) → IsTransaction m → IsTransaction n → decimal m ≡ decimal n → m ≡ n
same_number m n in_range in_range' e = decimal_injective m n (fits_64 m in_range) (fits_64 n in_range') e

same_object : (m n : ℕ) → IsObject m → IsObject n → decimal m ≡ decimal n → m ≡ n
same_object m n in_range in_range' e = decimal_injective m n (object_fits_64 m in_range) (object_fits_64 n in_range') e

same_part : (m n : ℕ) → IsPart m → IsPart n → decimal m ≡ decimal n → m ≡ n
same_part m n in_range in_range' e = decimal_injective m n (part_fits_64 m in_range) (part_fits_64 n in_range') e

first_byte : (bytes xs ys : List ℕ) → bytes ≡ xs → bytes ≡ ys → get_or xs 0 0 ≡ get_or ys 0 0
first_byte bytes xs ys e e' = ap (λ (l : List ℕ). get_or l 0 0) (sym e ∙ e')

second_byte : (bytes xs ys : List ℕ) → bytes ≡ xs → bytes ≡ ys → get_or xs 1 0 ≡ get_or ys 1 0
second_byte bytes xs ys e e' = ap (λ (l : List ℕ). get_or l 1 0) (sym e ∙ e')

-- two values with one spelling are one
pub line_value_unique : (bytes : List ℕ) (v w : LineValue) → IsLine bytes v → IsLine bytes w → v ≡ w
line_value_unique bytes (begin m) (begin n) v w = ap begin (same_number m n v.in_range w.in_range (ap (λ (l : List ℕ). drop 6 l) (sym v.spelled ∙ w.spelled)))
line_value_unique bytes (new_note m s) (new_note n t) v w =
    let e = note_fields bytes (decimal m) (codes "note " ++ s) n t w.in_range.0 (decimal_has_no_space m (fits_64 m v.in_range.0)) (ap (λ (l : List ℕ). drop 4 l) v.spelled ∙ append_assoc (decimal m) (codes " note ") s) w.spelled in
    let number : m ≡ n = same_number m n v.in_range.0 w.in_range.0 e.0 in
    let text : s ≡ t = ap (λ (l : List ℕ). drop 5 l) e.1 in
    cc (number, text)
line_value_unique bytes (get m x) (get n y) v w =
    let e = get_fields bytes (decimal m) (decimal x) n y w.in_range.0 (decimal_has_no_space m (fits_64 m v.in_range.0)) (ap (λ (l : List ℕ). drop 4 l) v.spelled ∙ append_assoc (decimal m) (codes " ") (decimal x)) w.spelled in
    let number : m ≡ n = same_number m n v.in_range.0 w.in_range.0 e.0 in
    let object : x ≡ y = same_object x y v.in_range.1 w.in_range.1 e.1 in
    cc (number, object)
line_value_unique bytes (commit m) (commit n) v w = ap commit (same_number m n v.in_range w.in_range (ap (λ (l : List ℕ). drop 7 l) (sym v.spelled ∙ w.spelled)))
line_value_unique bytes (abort m) (abort n) v w = ap abort (same_number m n v.in_range w.in_range (ap (λ (l : List ℕ). drop 6 l) (sym v.spelled ∙ w.spelled)))
line_value_unique bytes (snapshot m) (snapshot n) v w =
    ap snapshot (same_part m n v.in_range w.in_range (ap (λ (l : List ℕ). drop 9 l) (sym v.spelled ∙ w.spelled)))
line_value_unique bytes (drop_part m) (drop_part n) v w =
    ap drop_part (same_part m n v.in_range w.in_range (ap (λ (l : List ℕ). drop 5 l) (sym v.spelled ∙ w.spelled)))
line_value_unique bytes (peek m x) (peek n y) v w =
    let e = peek_fields bytes (decimal m) (decimal x) n y w.in_range.0 (decimal_has_no_space m (part_fits_64 m v.in_range.0))
    (ap (λ (l : List ℕ). drop 5 l) v.spelled ∙ append_assoc (decimal m) (codes " ") (decimal x)) w.spelled in
    let number : m ≡ n = same_part m n v.in_range.0 w.in_range.0 e.0 in
    let object : x ≡ y = same_object x y v.in_range.1 w.in_range.1 e.1 in
    cc (number, object)
line_value_unique bytes parts parts v w = refl
line_value_unique bytes parts (peek n y) v w = absurd (omega (arith, second_byte bytes _ _ v.spelled w.spelled))
line_value_unique bytes (peek n y) parts v w = absurd (omega (arith, second_byte bytes _ _ v.spelled w.spelled))
line_value_unique bytes quit quit v w = refl
line_value_unique bytes _ _ v w = absurd (omega (arith, first_byte bytes _ _ v.spelled w.spelled))

-- what stands behind the command of a line
pub behind_command : (bytes fields command word rest : List ℕ) → command ≡ word → fields ≡ drop (length command) bytes → fields ≡ rest → drop (length word) bytes ≡ rest
behind_command bytes fields command word rest same behind is = ap (λ (l : List ℕ). drop (length l) bytes) (sym same) ∙ sym behind ∙ is

-- what stands behind the word of a note
pub behind_note : (value text command rest : List ℕ) → command ≡ codes "note " → text ≡ drop (length command) value → value ≡ codes "note " ++ rest → text ≡ rest
behind_note value text command rest word behind is = behind ∙ ap (λ (l : List ℕ). drop (length l) value) word ∙ ap (λ (l : List ℕ). drop 5 l) is

-- the parts of a line that makes a note are its spelling
pub note_spelled : (bytes fields number value text : List ℕ) (n : ℕ) → bytes ≡ codes "new " ++ fields → fields ≡ number ++ 32 ∷ value → number ≡ decimal n → value ≡ codes "note " ++ text → bytes ≡ line_spelling (new_note n text)
note_spelled bytes fields number value text n is split first second =
    is ∙ ap (λ (l : List ℕ). codes "new " ++ l) (split ∙ ap (λ (l : List ℕ). l ++ 32 ∷ value) first ∙ ap (λ (l : List ℕ). decimal n ++ 32 ∷ l) second ∙ sym (append_assoc (decimal n) (codes " note ") text))

-- the parts of a line that gets an object are its spelling
pub get_spelled : (bytes fields number word : List ℕ) (n object : ℕ) → bytes ≡ codes "get " ++ fields → fields ≡ number ++ 32 ∷ word → number ≡ decimal n → word ≡ decimal object → bytes ≡ line_spelling (get n object)
get_spelled bytes fields number word n object is split first second =
    is ∙ ap (λ (l : List ℕ). codes "get " ++ l) (split ∙ ap (λ (l : List ℕ). l ++ 32 ∷ word) first ∙ ap (λ (l : List ℕ). decimal n ++ 32 ∷ l) second ∙ sym (append_assoc (decimal n) (codes " ") (decimal object)))

-- the parts of a line that peeks at an object are its spelling
pub peek_spelled : (bytes fields number word : List ℕ) (n object : ℕ) → bytes ≡ codes "peek " ++ fields → fields ≡ number ++ 32 ∷ word
    → number ≡ decimal n → word ≡ decimal object → bytes ≡ line_spelling (peek n object)
peek_spelled bytes fields number word n object is split first second =
    is ∙ ap (λ (l : List ℕ). codes "peek " ++ l) (split ∙ ap (λ (l : List ℕ). l ++ 32 ∷ word) first
    ∙ ap (λ (l : List ℕ). decimal n ++ 32 ∷ l) second ∙ sym (append_assoc (decimal n) (codes " ") (decimal object)))
