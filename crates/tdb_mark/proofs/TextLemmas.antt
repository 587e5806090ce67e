-- What is read from the text of a commit is the commit.
use Rattle.std.proofs.Common.{◌≡◌, ◌≢◌, inl, inr, ℕ, ◌<◌, ◌^◌, ◌==◌, Bool, true, false, cond, ◌&&◌, lit<, List, ◌++◌, length, take, drop, replicate, codes, Option, Some, None, IfSome, IfNone, option_and_then, refl, sym, ◌∙◌, ap, subst, eq-eqb}
use Rattle.std.specs.Int.{w32, w64, to_be_bytes, from_be_bytes}
use Rattle.std.specs.Str.{bytes_eq}
use Rattle.std.proofs.lemmas.Bool.Decides.{eqb_tells}
use Rattle.std.proofs.lemmas.Slice.Eq.{bytes_eq-Decides}
use Rattle.tdb_base.specs.declared.piece.Piece.{Piece}
use Rattle.tdb_base.specs.declared.suite.Suite.{Suite}
use Rattle.tdb_base.specs.declared.suite.Suite.TheVariants.{Plain, Aes128, Aes256}
use Rattle.tdb_base.specs.PieceBytes.{piece_bytes, entry_bytes, piece_from, entry_from}
use Rattle.tdb_base.specs.SuiteNumber.{suite_number, suite_of_number}
use Rattle.tdb_base.proofs.FieldLemmas.{Begins, begins_before, field_at, u32_again, u64_again, piece_again, entry_again, length_more, length-piece_bytes, length-entry_bytes}
use Rattle.tdb_mac.specs.Hmac.{hmac_of}
use Rattle.tdb_mac.proofs.HmacLemmas.{length-hmac_of}
use Rattle.tdb_mark.specs.declared.commit.Commit.{Commit}
use Rattle.tdb_mark.specs.CommitFormat.{IsInFormat, IsCommitValue, is_in_format}
use Rattle.tdb_mark.specs.CommitText.{commit_fields, commit_text, IsCommitText, commit_from, if_spelled, commit_of}
use Rattle.tdb_mark.proofs.FormatLemmas.{Decides-is_in_format}

suite_number-small : (s : Suite) → suite_number s < 2 ^ 32
suite_number-small Plain = lit< tt
suite_number-small Aes128 = lit< tt
suite_number-small Aes256 = lit< tt

suite_of_number-suite_number : (s : Suite) → suite_of_number (suite_number s) ≡ Some s
suite_of_number-suite_number Plain = refl
suite_of_number-suite_number Aes128 = refl
suite_of_number-suite_number Aes256 = refl

made : Suite → ℕ → ℕ → List ℕ → ℕ → ℕ → Piece → Option Piece → Commit
made suite kind count prev base segments first root =
    record { kind = kind; suite = suite; count = count; prev = record { 0 = prev }; base = base; segments = segments; first = first; root = root }

made_alike : (s : Suite) (k k' n n' : ℕ) (p p' : List ℕ) (b b' g g' : ℕ) (f f' : Piece) (r r' : Option Piece)
    → k ≡ k' → n ≡ n' → p ≡ p' → b ≡ b' → g ≡ g' → f ≡ f' → r ≡ r' → made s k n p b g f r ≡ made s k' n' p' b' g' f' r'
made_alike s k k' n n' p p' b b' g g' f f' r r' e1 e2 e3 e4 e5 e6 e7 = cc

-- the bytes before each place
module _ (key : List ℕ) (c : Commit) where
  front_12 : List ℕ
  front_12 = codes "TDBCMT01" ++ to_be_bytes w32 c.kind

  front_16 : List ℕ
  front_16 = front_12 ++ to_be_bytes w32 (suite_number c.suite)

  front_24 : List ℕ
  front_24 = front_16 ++ to_be_bytes w64 c.count

  front_56 : List ℕ
  front_56 = front_24 ++ c.prev.0

  front_64 : List ℕ
  front_64 = front_56 ++ to_be_bytes w64 c.base

  front_68 : List ℕ
  front_68 = front_64 ++ to_be_bytes w32 c.segments

  front_112 : List ℕ
  front_112 = front_68 ++ piece_bytes c.first

  front_160 : List ℕ
  front_160 = front_112 ++ entry_bytes c.root

  front_224 : List ℕ
  front_224 = front_160 ++ replicate 64 0

  fields_are : commit_fields c ≡ front_224
  unfolding commit_fields front_12 front_16 front_24 front_56 front_64 front_68 front_112 front_160 front_224
  fields_are = refl

  begins_224 : Begins (commit_text key c) front_224
  begins_224 = record { rest = hmac_of key (commit_fields c); is = ap (λ (l : List ℕ). l ++ hmac_of key (commit_fields c)) fields_are }

  begins_160 : Begins (commit_text key c) front_160
  unfolding front_224
  begins_160 = begins_before (commit_text key c) front_160 (replicate 64 0) begins_224

  begins_112 : Begins (commit_text key c) front_112
  unfolding front_160
  begins_112 = begins_before (commit_text key c) front_112 (entry_bytes c.root) begins_160

  begins_68 : Begins (commit_text key c) front_68
  unfolding front_112
  begins_68 = begins_before (commit_text key c) front_68 (piece_bytes c.first) begins_112

  begins_64 : Begins (commit_text key c) front_64
  unfolding front_68
  begins_64 = begins_before (commit_text key c) front_64 (to_be_bytes w32 c.segments) begins_68

  begins_56 : Begins (commit_text key c) front_56
  unfolding front_64
  begins_56 = begins_before (commit_text key c) front_56 (to_be_bytes w64 c.base) begins_64

  begins_24 : Begins (commit_text key c) front_24
  unfolding front_56
  begins_24 = begins_before (commit_text key c) front_24 c.prev.0 begins_56

  begins_16 : Begins (commit_text key c) front_16
  unfolding front_24
  begins_16 = begins_before (commit_text key c) front_16 (to_be_bytes w64 c.count) begins_24

  begins_12 : Begins (commit_text key c) front_12
  unfolding front_16
  begins_12 = begins_before (commit_text key c) front_12 (to_be_bytes w32 (suite_number c.suite)) begins_16

  length_12 : length front_12 ≡ 12
  unfolding front_12
  length_12 = refl

  length_16 : length front_16 ≡ 16
  unfolding front_16
  length_16 = length_more front_12 (to_be_bytes w32 (suite_number c.suite)) 12 4 length_12 refl

  length_24 : length front_24 ≡ 24
  unfolding front_24
  length_24 = length_more front_16 (to_be_bytes w64 c.count) 16 8 length_16 refl

  module _ (v : IsCommitValue c) where
    length_56 : length front_56 ≡ 56
    unfolding front_56
    length_56 = length_more front_24 c.prev.0 24 32 length_24 v.prev

    length_64 : length front_64 ≡ 64
    unfolding front_64
    length_64 = length_more front_56 (to_be_bytes w64 c.base) 56 8 length_56 refl

    length_68 : length front_68 ≡ 68
    unfolding front_68
    length_68 = length_more front_64 (to_be_bytes w32 c.segments) 64 4 length_64 refl

    length_112 : length front_112 ≡ 112
    unfolding front_112
    length_112 = length_more front_68 (piece_bytes c.first) 68 44 length_68 (length-piece_bytes c.first v.first)

    length_160 : length front_160 ≡ 160
    unfolding front_160
    length_160 = length_more front_112 (entry_bytes c.root) 112 48 length_112 (length-entry_bytes c.root v.root)

    length_224 : length front_224 ≡ 224
    unfolding front_224
    length_224 = length_more front_160 (replicate 64 0) 160 64 length_160 refl

    length-commit_text : length (commit_text key c) ≡ 256
    length-commit_text = length_more (commit_fields c) (hmac_of key (commit_fields c)) 224 32 (ap (λ (l : List ℕ). length l) fields_are ∙ length_224) (length-hmac_of key (commit_fields c))

    kind_again : from_be_bytes w32 (take 4 (drop 8 (commit_text key c))) ≡ c.kind
    unfolding front_12
    kind_again = u32_again (commit_text key c) (codes "TDBCMT01") 8 c.kind begins_12 refl v.kind

    suite_again : from_be_bytes w32 (take 4 (drop 12 (commit_text key c))) ≡ suite_number c.suite
    unfolding front_16
    suite_again = u32_again (commit_text key c) front_12 12 (suite_number c.suite) begins_16 length_12 (suite_number-small c.suite)

    count_again : from_be_bytes w64 (take 8 (drop 16 (commit_text key c))) ≡ c.count
    unfolding front_24
    count_again = u64_again (commit_text key c) front_16 16 c.count begins_24 length_16 v.count

    prev_again : take 32 (drop 24 (commit_text key c)) ≡ c.prev.0
    unfolding front_56
    prev_again = field_at (commit_text key c) front_24 c.prev.0 24 32 begins_56 length_24 v.prev

    base_again : from_be_bytes w64 (take 8 (drop 56 (commit_text key c))) ≡ c.base
    unfolding front_64
    base_again = u64_again (commit_text key c) front_56 56 c.base begins_64 length_56 v.base

    segments_again : from_be_bytes w32 (take 4 (drop 64 (commit_text key c))) ≡ c.segments
    unfolding front_68
    segments_again = u32_again (commit_text key c) front_64 64 c.segments begins_68 length_64 v.segments

    first_again : piece_from (commit_text key c) 68 ≡ c.first
    unfolding front_112
    first_again = piece_again (commit_text key c) front_68 68 c.first begins_112 length_68 v.first

    root_again : entry_from (commit_text key c) 112 ≡ c.root
    unfolding front_160
    root_again = entry_again (commit_text key c) front_112 112 c.root begins_160 length_112 v.root

    commit_again : commit_from (commit_text key c) c.suite ≡ c
    unfolding made
    commit_again = made_alike c.suite _ c.kind _ c.count _ c.prev.0 _ c.base _ c.segments _ c.first _ c.root kind_again count_again prev_again base_again segments_again first_again root_again

    suite_found : suite_of_number (from_be_bytes w32 (take 4 (drop 12 (commit_text key c)))) ≡ Some c.suite
    suite_found = ap suite_of_number suite_again ∙ suite_of_number-suite_number c.suite

    pub commit_of-commit_text : IsInFormat c → commit_of key (commit_text key c) ≡ Some c
    unfolding commit_of
    commit_of-commit_text f =
        let text : List ℕ = commit_text key c in
        let fits : is_in_format c ≡ true = (Decides-is_in_format c).1 f in
        let alike : bytes_eq (commit_text key c) text ≡ true = (bytes_eq-Decides text text).1 refl in
        ap (λ (b : Bool). cond b (option_and_then (λ suite. if_spelled key text (commit_from text suite)) (suite_of_number (from_be_bytes w32 (take 4 (drop 12 text))))) None) (eq-eqb (length text) 256 length-commit_text)
        ∙ ap (λ (o : Option Suite). option_and_then (λ suite. if_spelled key text (commit_from text suite)) o) suite_found
        ∙ ap (λ (d : Commit). if_spelled key text d) commit_again
        ∙ ap (λ (b : Bool). cond (b && bytes_eq (commit_text key c) text) (Some c) None) fits
        ∙ ap (λ (b : Bool). cond b (Some c) None) alike

pub one_text : (key : List ℕ) (c d : Commit) → IsCommitValue c → IsCommitValue d → commit_text key c ≡ commit_text key d → c ≡ d
one_text key c d v w same =
    let suites : ◌≡◌ {A = Option Suite} (Some c.suite) (Some d.suite) =
    sym (suite_found key c v) ∙ ap (λ (t : List ℕ). suite_of_number (from_be_bytes w32 (take 4 (drop 12 t)))) same ∙ suite_found key d w in
    let suite : c.suite ≡ d.suite = cc suites in
    sym (commit_again key c v) ∙ ap (λ (t : List ℕ). commit_from t c.suite) same ∙ ap (λ (s : Suite). commit_from (commit_text key d) s) suite ∙ commit_again key d w

-- a step that gave something had something
pub and_then : {A B : Type 0} (f : A → Option B) (o : Option A) (y : B) → option_and_then f o ≡ Some y → (x : A) × (o ≡ Some x) × (f x ≡ Some y)
and_then f None y h = absurd (cc h)
and_then f (Some x) y h = (x, refl, h)

and_true : (a b : Bool) → (a && b) ≡ true → (a ≡ true) × (b ≡ true)
and_true true b h = (refl, h)
and_true false b h = absurd (cc h)

if_spelled_is : (key bytes : List ℕ) (d c : Commit) → if_spelled key bytes d ≡ Some c → IsCommitText key bytes c
if_spelled_is key bytes d c h =
    (elim (is_in_format d && bytes_eq (commit_text key d) bytes) as (λ b. (is_in_format d && bytes_eq (commit_text key d) bytes) ≡ b → cond b (Some d) None ≡ Some c → IsCommitText key bytes c) [
      | true ↦ λ t e.
          let parts = and_true (is_in_format d) (bytes_eq (commit_text key d) bytes) t in
          let is : IsCommitText key bytes d = record { in_format = (Decides-is_in_format d).0 parts.0; spelled = sym ((bytes_eq-Decides (commit_text key d) bytes).0 parts.1) } in
          let same : d ≡ c = cc e in
          subst (λ (x : Commit). IsCommitText key bytes x) same is
      | false ↦ λ t e. absurd (cc e)
    ]) refl h

pub commit_of_is : (key bytes : List ℕ) (c : Commit) → commit_of key bytes ≡ Some c → IsCommitText key bytes c
unfolding commit_of
commit_of_is key bytes c h =
    (elim (length bytes == 256) as (λ b. cond b (option_and_then (λ suite. if_spelled key bytes (commit_from bytes suite)) (suite_of_number (from_be_bytes w32 (take 4 (drop 12 bytes))))) None ≡ Some c → IsCommitText key bytes c) [
      | true ↦ λ e.
          let found = and_then (λ suite. if_spelled key bytes (commit_from bytes suite)) (suite_of_number (from_be_bytes w32 (take 4 (drop 12 bytes)))) c e in
          if_spelled_is key bytes (commit_from bytes found.0) c found.2
      | false ↦ λ e. absurd (cc e)
    ]) h

pub found_is : (key bytes : List ℕ) (r : Option Commit) → r ≡ commit_of key bytes → IfSome r (λ c. IsCommitText key bytes c)
found_is key bytes None e = tt
found_is key bytes (Some c) e = commit_of_is key bytes c (sym e)

pub none_is : (key bytes : List ℕ) (r : Option Commit) → r ≡ commit_of key bytes → IfNone r ((c : Commit) → IsCommitValue c → IsCommitText key bytes c → ⊥)
none_is key bytes (Some c) e = tt
none_is key bytes None e = λ c v is.
    let some : commit_of key bytes ≡ Some c = ap (commit_of key) is.spelled ∙ commit_of-commit_text key c v is.in_format in
    absurd (cc (e, some))

-- what `read` finds, step by step
pub commit_of-other_length : (key bytes : List ℕ) → length bytes ≢ 256 → commit_of key bytes ≡ None
unfolding commit_of
commit_of-other_length key bytes other =
    elim (eqb_tells (length bytes) 256) [
      | inl t ↦ absurd (other t.1)
      | inr f ↦ ap (λ (b : Bool). cond b (option_and_then (λ suite. if_spelled key bytes (commit_from bytes suite)) (suite_of_number (from_be_bytes w32 (take 4 (drop 12 bytes))))) None) f.0
    ]

commit_of-suite : (key bytes : List ℕ) (n : ℕ) (o : Option Suite) → length bytes ≡ 256 → n ≡ from_be_bytes w32 (take 4 (drop 12 bytes)) → o ≡ suite_of_number n
    → commit_of key bytes ≡ option_and_then (λ suite. if_spelled key bytes (commit_from bytes suite)) o
unfolding commit_of
commit_of-suite key bytes n o long number found =
    ap (λ (b : Bool). cond b (option_and_then (λ suite. if_spelled key bytes (commit_from bytes suite)) (suite_of_number (from_be_bytes w32 (take 4 (drop 12 bytes))))) None) (eq-eqb (length bytes) 256 long)
    ∙ ap (λ (x : Option Suite). option_and_then (λ suite. if_spelled key bytes (commit_from bytes suite)) x) (sym (found ∙ ap suite_of_number number))

pub commit_of-no_suite : (key bytes : List ℕ) (n : ℕ) (o : Option Suite) → length bytes ≡ 256 → n ≡ from_be_bytes w32 (take 4 (drop 12 bytes)) → o ≡ suite_of_number n → o ≡ None → commit_of key bytes ≡ None
commit_of-no_suite key bytes n o long number found is =
    commit_of-suite key bytes n o long number found ∙ ap (λ (x : Option Suite). option_and_then (λ suite. if_spelled key bytes (commit_from bytes suite)) x) is

pub commit_of-fields : (key bytes : List ℕ) (n : ℕ) (o : Option Suite) (s : Suite) (d : Commit) → length bytes ≡ 256 → n ≡ from_be_bytes w32 (take 4 (drop 12 bytes)) → o ≡ suite_of_number n → o ≡ Some s → d ≡ commit_from bytes s
    → commit_of key bytes ≡ if_spelled key bytes d
commit_of-fields key bytes n o s d long number found is fields =
    commit_of-suite key bytes n o long number found ∙ ap (λ (x : Option Suite). option_and_then (λ suite. if_spelled key bytes (commit_from bytes suite)) x) is ∙ ap (λ (x : Commit). if_spelled key bytes x) (sym fields)

pub if_spelled-outside : (key bytes : List ℕ) (d : Commit) → is_in_format d ≡ false → if_spelled key bytes d ≡ None
if_spelled-outside key bytes d outside = ap (λ (b : Bool). cond (b && bytes_eq (commit_text key d) bytes) (Some d) None) outside

pub if_spelled-inside : (key bytes : List ℕ) (d : Commit) (r : Bool) → is_in_format d ≡ true → r ≡ bytes_eq (commit_text key d) bytes → if_spelled key bytes d ≡ cond r (Some d) None
if_spelled-inside key bytes d r inside same =
    ap (λ (b : Bool). cond (b && bytes_eq (commit_text key d) bytes) (Some d) None) inside ∙ ap (λ (b : Bool). cond b (Some d) None) (sym same)
