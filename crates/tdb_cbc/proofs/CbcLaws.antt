-- What was enciphered in a chain deciphers to itself, and what was sealed opens to its text alone.
use Rattle.std.proofs.Common.{◌≡◌, ◌≢◌, ℕ, zero, suc, ◌+◌, ◌-◌, ◌*◌, ◌/◌, ◌%◌, ◌<◌, ◌≤◌, ◌↔◌, List, ◌++◌, length, drop, take, replicate, refl, ap, sym, ◌∙◌, subst, inl, inr, arith}
use Rattle.std.proofs.lemmas.Bool.{cases_eq}
use Rattle.std.proofs.lemmas.List.{append_assoc, length-append, length-drop, length-replicate, length-take-le, take-append-drop}
use Rattle.tdb_aes.proofs.CipherLaws.{IsState-cipher, IsState-inverse_cipher, cipher-inverse_cipher, inverse_cipher-cipher}
use Rattle.tdb_aes.proofs.StateLaws.{IsState}
use Rattle.tdb_aes.specs.Cipher.{cipher, inverse_cipher}
use Rattle.tdb_cbc.specs.Blocks.{block, joined, xor_bytes}
use Rattle.tdb_cbc.specs.Cbc.{cipher_block, decrypted, encrypted, given_block, plain_block}
use Rattle.tdb_cbc.specs.LastBlock.{EndsInPadding}
use Rattle.tdb_cbc.specs.Padding.{padded, padding_length}
use Rattle.tdb_cbc.specs.Sealed.{HasNoWholeBlocks, Opens, sealed}
use Rattle.tdb_cbc.proofs.BlockLaws.{AreBytes, AreBytes-append, AreBytes-replicate, AreBytes-take, IsState-block, IsState-xor_bytes, block-append, block-behind, block-joined, joined-block, joined-same, length-IsState, length-joined, xor_bytes-xor_bytes}
use Rattle.tdb_cbc.proofs.PaddingLaws.{length-padded, padded-cut, padded-ends, padded-injective, take-padded}

pub IsState-cipher_block : (key iv text : List ℕ) (j : ℕ) → 16 * j ≤ length text → IsState iv → AreBytes text → IsState (cipher_block key iv text j)
unfolding cipher_block
IsState-cipher_block key iv text zero room hi h = hi
IsState-cipher_block key iv text (suc j) room hi h =
    IsState-cipher key (xor_bytes (block text j) (cipher_block key iv text j))
    (IsState-xor_bytes (block text j) (cipher_block key iv text j) (IsState-block text j (omega arith) h)
    (IsState-cipher_block key iv text j (omega arith) hi h))

pub IsState-given_block : (iv bytes : List ℕ) (j : ℕ) → 16 * j ≤ length bytes → IsState iv → AreBytes bytes → IsState (given_block iv bytes j)
unfolding given_block
IsState-given_block iv bytes zero room hi h = hi
IsState-given_block iv bytes (suc j) room hi h = IsState-block bytes j (omega arith) h

pub IsState-plain_block : (key iv bytes : List ℕ) (j : ℕ) → 16 * j + 16 ≤ length bytes → IsState iv → AreBytes bytes → IsState (plain_block key iv bytes j)
unfolding plain_block
IsState-plain_block key iv bytes j room hi h =
    IsState-xor_bytes (inverse_cipher key (block bytes j)) (given_block iv bytes j)
    (IsState-inverse_cipher key (block bytes j) (IsState-block bytes j room h))
    (IsState-given_block iv bytes j (omega arith) hi h)

-- the blocks of what was enciphered are the chain's
given_block-encrypted : (key iv text : List ℕ) (n j : ℕ) → j ≤ n → length text ≡ 16 * n → IsState iv → AreBytes text
    → given_block iv (joined (λ k. cipher_block key iv text (suc k)) n) j ≡ cipher_block key iv text j
unfolding given_block cipher_block
given_block-encrypted key iv text n zero low long hi h = refl
given_block-encrypted key iv text n (suc j) low long hi h =
    block-joined (λ k. cipher_block key iv text (suc k)) n j low
    (λ k less. length-IsState (cipher_block key iv text (suc k)) (IsState-cipher_block key iv text (suc k) (omega arith) hi h))

plain_block-encrypted : (key iv text : List ℕ) (n j : ℕ) → j < n → length text ≡ 16 * n → IsState iv → AreBytes text
    → plain_block key iv (joined (λ k. cipher_block key iv text (suc k)) n) j ≡ block text j
unfolding plain_block given_block cipher_block
plain_block-encrypted key iv text n j low long hi h =
    let chain : List ℕ = cipher_block key iv text j in
    let is_chain : IsState chain = IsState-cipher_block key iv text j (omega arith) hi h in
    let is_block : IsState (block text j) = IsState-block text j (omega arith) h in
    let sum : List ℕ = xor_bytes (block text j) chain in
    let ours = given_block-encrypted key iv text n (suc j) low long hi h in
    let before = given_block-encrypted key iv text n j (omega arith) long hi h in
    (λ i. xor_bytes (inverse_cipher key (ours i)) (before i))
    ∙ ap (λ s. xor_bytes s chain) (inverse_cipher-cipher key sum (IsState-xor_bytes (block text j) chain is_block is_chain))
    ∙ xor_bytes-xor_bytes (block text j) chain is_block is_chain

pub length-encrypted : (key iv text : List ℕ) (n : ℕ) → length text ≡ 16 * n → IsState iv → AreBytes text → length (encrypted key iv text) ≡ 16 * n
length-encrypted key iv text n long hi h =
    let blocks : length text / 16 ≡ n = omega arith in
    ap (λ (m : ℕ). length (joined (λ k. cipher_block key iv text (suc k)) m)) blocks
    ∙ length-joined (λ k. cipher_block key iv text (suc k)) n
    (λ k less. length-IsState (cipher_block key iv text (suc k)) (IsState-cipher_block key iv text (suc k) (omega arith) hi h))

pub decrypted-encrypted : (key iv text : List ℕ) (n : ℕ) → length text ≡ 16 * n → IsState iv → AreBytes text
    → decrypted key iv (encrypted key iv text) ≡ text
decrypted-encrypted key iv text n long hi h =
    let blocks : length text / 16 ≡ n = omega arith in
    let whole = length-encrypted key iv text n long hi h in
    let count : length (encrypted key iv text) / 16 ≡ n = omega arith in
    ap (joined (plain_block key iv (encrypted key iv text))) count
    ∙ ap (λ (m : ℕ). joined (plain_block key iv (joined (λ k. cipher_block key iv text (suc k)) m)) n) blocks
    ∙ joined-same (plain_block key iv (joined (λ k. cipher_block key iv text (suc k)) n)) (block text) n
    (λ j less. plain_block-encrypted key iv text n j less long hi h)
    ∙ joined-block text n long

-- the chain of what was deciphered is the cipher blocks that were given
cipher_block-decrypted : (key iv bytes : List ℕ) (n j : ℕ) → j ≤ n → length bytes ≡ 16 * n → IsState iv → AreBytes bytes
    → cipher_block key iv (joined (plain_block key iv bytes) n) j ≡ given_block iv bytes j
unfolding cipher_block given_block plain_block
cipher_block-decrypted key iv bytes n zero low long hi h = refl
cipher_block-decrypted key iv bytes n (suc j) low long hi h =
    let given : List ℕ = given_block iv bytes j in
    let is_given : IsState given = IsState-given_block iv bytes j (omega arith) hi h in
    let is_block : IsState (block bytes j) = IsState-block bytes j (omega arith) h in
    let opened : List ℕ = inverse_cipher key (block bytes j) in
    let before = cipher_block-decrypted key iv bytes n j (omega arith) long hi h in
    let here : block (joined (plain_block key iv bytes) n) j ≡ plain_block key iv bytes j = block-joined (plain_block key iv bytes) n j (omega arith)
    (λ k less. length-IsState (plain_block key iv bytes k) (IsState-plain_block key iv bytes k (omega arith) hi h)) in
    (λ i. cipher key (xor_bytes (here i) (before i)))
    ∙ ap (cipher key) (xor_bytes-xor_bytes opened given (IsState-inverse_cipher key (block bytes j) is_block) is_given)
    ∙ cipher-inverse_cipher key (block bytes j) is_block

pub encrypted-decrypted : (key iv bytes : List ℕ) (n : ℕ) → length bytes ≡ 16 * n → IsState iv → AreBytes bytes
    → encrypted key iv (decrypted key iv bytes) ≡ bytes
unfolding given_block
encrypted-decrypted key iv bytes n long hi h =
    let blocks : length bytes / 16 ≡ n = omega arith in
    let whole : length (joined (plain_block key iv bytes) n) ≡ 16 * n = length-joined (plain_block key iv bytes) n
    (λ k less. length-IsState (plain_block key iv bytes k) (IsState-plain_block key iv bytes k (omega arith) hi h)) in
    let count : length (joined (plain_block key iv bytes) n) / 16 ≡ n = omega arith in
    ap (λ (m : ℕ). encrypted key iv (joined (plain_block key iv bytes) m)) blocks
    ∙ ap (joined (λ k. cipher_block key iv (joined (plain_block key iv bytes) n) (suc k))) count
    ∙ joined-same (λ k. cipher_block key iv (joined (plain_block key iv bytes) n) (suc k)) (block bytes) n
    (λ j less. cipher_block-decrypted key iv bytes n (suc j) less long hi h)
    ∙ joined-block bytes n long

-- ---- sealed texts

AreBytes-padded : (text : List ℕ) → AreBytes text → AreBytes (padded text)
unfolding padded
AreBytes-padded text h =
    AreBytes-append text (replicate (padding_length text) (padding_length text)) h
    (AreBytes-replicate (padding_length text) (padding_length text) (omega arith))

-- the blocks of a padded text
pub blocks-padded : (text : List ℕ) → length (padded text) ≡ 16 * (length text / 16 + 1)
blocks-padded text = let long = length-padded text in omega arith

pub opens-sealed : (key iv plain text : List ℕ) → IsState iv → AreBytes plain
    → Opens key iv (sealed key iv plain) text ↔ (text ≡ plain)
opens-sealed key iv plain text hi h =
    let n : ℕ = length plain / 16 + 1 in
    let back = decrypted-encrypted key iv (padded plain) n (blocks-padded plain) hi (AreBytes-padded plain h) in
    let long = length-encrypted key iv (padded plain) n (blocks-padded plain) hi (AreBytes-padded plain h) in (
      λ opens. padded-injective text plain (sym opens.plain ∙ back),
      λ same. record {
        whole = λ broken. elim broken [ inl none ↦ omega arith | inr rest ↦ rest (omega arith) ];
        plain = back ∙ ap padded (sym same);
      },
    )

-- what opens to a text is that text sealed
pub sealed-opens : (key iv bytes text : List ℕ) → IsState iv → AreBytes bytes → Opens key iv bytes text → bytes ≡ sealed key iv text
sealed-opens key iv bytes text hi h opens =
    let n : ℕ = length bytes / 16 in
    let long : length bytes ≡ 16 * n =
    elim (cases_eq (length bytes % 16) 0) [
      | inl even ↦ omega arith
      | inr odd ↦ absurd (opens.whole (inr odd))
    ] in
    sym (encrypted-decrypted key iv bytes n long hi h) ∙ ap (encrypted key iv) opens.plain

-- ---- one block of a loop

-- the blocks of a padded text are the text's, and then one with its rest
pub block-padded_whole : (text : List ℕ) (j : ℕ) → 16 * j + 16 ≤ length text → block (padded text) j ≡ block text j
unfolding padded
block-padded_whole text j room = block-append text (replicate (padding_length text) (padding_length text)) j room

pub block-padded_last : (text : List ℕ) (n : ℕ) → n ≡ length text / 16
    → block (padded text) n ≡ drop (16 * n) text ++ replicate (16 - length (drop (16 * n) text)) (16 - length (drop (16 * n) text))
unfolding padded
block-padded_last text n e =
    let p : ℕ = padding_length text in
    let rest : List ℕ = drop (16 * n) text in
    let short = length-drop (16 * n) text in
    let pad : p ≡ 16 - length rest = omega arith in
    let front : length (take (16 * n) text) ≡ 16 * n = length-take-le (16 * n) text (omega arith) in
    let filled : length (rest ++ replicate p p) ≡ 16 = omega (arith, length-append rest (replicate p p), length-replicate p p) in
    ap (λ s. block (s ++ replicate p p) n) (sym (take-append-drop (16 * n) text))
    ∙ ap (λ s. block s n) (append_assoc (take (16 * n) text) rest (replicate p p))
    ∙ block-behind (take (16 * n) text) (rest ++ replicate p p) n front filled
    ∙ ap (λ (k : ℕ). rest ++ replicate k k) pad

-- the first j cipher blocks of a text
abbrev pub chained : List ℕ → List ℕ → List ℕ → ℕ → List ℕ
chained key iv text j = joined (λ k. cipher_block key iv text (suc k)) j

-- one more cipher block
pub chained_more : (key iv text : List ℕ) (j : ℕ) (items previous plain next : List ℕ)
    → items ≡ chained key iv text j → previous ≡ cipher_block key iv text j → plain ≡ block text j
    → next ≡ cipher key (xor_bytes plain previous)
    → (items ++ next ≡ chained key iv text (j + 1)) × (next ≡ cipher_block key iv text (j + 1))
unfolding joined cipher_block
chained_more key iv text j items previous plain next ei ep eb en =
    let made : next ≡ cipher_block key iv text (suc j) = en ∙ (λ i. cipher key (xor_bytes (eb i) (ep i))) in
    let next_place : suc j ≡ j + 1 = omega arith in
    ((λ i. ei i ++ made i) ∙ ap (λ (n : ℕ). chained key iv text n) next_place, made ∙ ap (λ (n : ℕ). cipher_block key iv text n) next_place)

pub chained_all : (key iv text : List ℕ) (n : ℕ) → n ≡ length text / 16 → chained key iv (padded text) (n + 1) ≡ sealed key iv text
chained_all key iv text n e =
    let blocks = blocks-padded text in
    let count : n + 1 ≡ length (padded text) / 16 = omega arith in
    ap (chained key iv (padded text)) count

-- one deciphered block
pub plain_block-first : (key iv bytes : List ℕ) (j : ℕ) (opened : List ℕ) → j ≡ 0 → opened ≡ inverse_cipher key (block bytes j)
    → xor_bytes opened iv ≡ plain_block key iv bytes j
unfolding plain_block given_block
plain_block-first key iv bytes j opened first e =
    ap (λ s. xor_bytes s iv) (e ∙ ap (λ (k : ℕ). inverse_cipher key (block bytes k)) first)
    ∙ ap (λ (k : ℕ). plain_block key iv bytes k) (sym first)

given_block-later : (iv bytes : List ℕ) (j : ℕ) → 0 < j → given_block iv bytes j ≡ block bytes (j - 1)
unfolding given_block
given_block-later iv bytes zero some = absurd (omega arith)
given_block-later iv bytes (suc j) some = let e : j ≡ suc j - 1 = omega arith in ap (block bytes) e

pub plain_block-later : (key iv bytes : List ℕ) (j : ℕ) (opened before : List ℕ) → 0 < j → opened ≡ inverse_cipher key (block bytes j)
    → before ≡ block bytes (j - 1) → xor_bytes opened before ≡ plain_block key iv bytes j
unfolding plain_block
plain_block-later key iv bytes j opened before some e eb =
    let given = sym (given_block-later iv bytes j some) in
    let both = eb ∙ given in
    λ i. xor_bytes (e i) (both i)

pub joined_more : (f : ℕ → List ℕ) (j : ℕ) (items next : List ℕ) → items ≡ joined f j → next ≡ f j → items ++ next ≡ joined f (j + 1)
unfolding joined
joined_more f j items next ei en =
    let next_place : suc j ≡ j + 1 = omega arith in
    (λ i. ei i ++ en i) ∙ ap (λ (n : ℕ). joined f n) next_place

-- ---- what bytes open to

-- the bytes are the blocks before the last, and the last
decrypted-last : (key iv bytes : List ℕ) (last : ℕ) → length bytes ≡ 16 * (last + 1)
    → decrypted key iv bytes ≡ joined (plain_block key iv bytes) last ++ plain_block key iv bytes last
unfolding joined
decrypted-last key iv bytes last long =
    let count : length bytes / 16 ≡ suc last = omega arith in
    ap (λ (n : ℕ). joined (plain_block key iv bytes) n) count

pub whole-length : (bytes : List ℕ) (last : ℕ) → (HasNoWholeBlocks bytes → ⊥) → last ≡ length bytes / 16 - 1 → length bytes ≡ 16 * (last + 1)
whole-length bytes last whole e =
    let some : length bytes ≢ 0 = λ none. whole (inl none) in
    elim (cases_eq (length bytes % 16) 0) [
      | inl even ↦ omega arith
      | inr odd ↦ absurd (whole (inr odd))
    ]

length-front : (key iv bytes : List ℕ) (last : ℕ) → length bytes ≡ 16 * (last + 1) → IsState iv → AreBytes bytes
    → length (joined (plain_block key iv bytes) last) ≡ 16 * last
length-front key iv bytes last long hi h =
    length-joined (plain_block key iv bytes) last
    (λ j less. length-IsState (plain_block key iv bytes j) (IsState-plain_block key iv bytes j (omega arith) hi h))

pub opens-cut : (key iv bytes end : List ℕ) (last n : ℕ) → (HasNoWholeBlocks bytes → ⊥) → last ≡ length bytes / 16 - 1
    → IsState iv → AreBytes bytes → end ≡ plain_block key iv bytes last → EndsInPadding end n
    → Opens key iv bytes (joined (plain_block key iv bytes) last ++ take (16 - n) end)
opens-cut key iv bytes end last n whole e hi h ee ends =
    let long = whole-length bytes last whole e in
    let sixteen_long : length end ≡ 16 =
    ap length ee ∙ length-IsState (plain_block key iv bytes last) (IsState-plain_block key iv bytes last (omega arith) hi h) in
    record {
      whole = whole;
      plain =
          decrypted-last key iv bytes last long
          ∙ ap (λ s. joined (plain_block key iv bytes) last ++ s) (sym ee)
          ∙ sym (padded-cut (joined (plain_block key iv bytes) last) end last n (length-front key iv bytes last long hi h) sixteen_long ends);
    }

pub opens-ends : (key iv bytes end text : List ℕ) (last : ℕ) → last ≡ length bytes / 16 - 1
    → IsState iv → AreBytes bytes → end ≡ plain_block key iv bytes last → Opens key iv bytes text → EndsInPadding end (padding_length text)
opens-ends key iv bytes end text last e hi h ee opens =
    let long = whole-length bytes last opens.whole e in
    let sixteen_long : length end ≡ 16 =
    ap length ee ∙ length-IsState (plain_block key iv bytes last) (IsState-plain_block key iv bytes last (omega arith) hi h) in
    padded-ends text (joined (plain_block key iv bytes) last) end last (length-front key iv bytes last long hi h) sixteen_long
    (ap (λ s. joined (plain_block key iv bytes) last ++ s) ee ∙ sym (decrypted-last key iv bytes last long) ∙ opens.plain)

-- ---- lengths

pub length-sealed : (key iv text : List ℕ) → IsState iv → AreBytes text → length (sealed key iv text) ≡ 16 * (length text / 16 + 1)
length-sealed key iv text hi h = length-encrypted key iv (padded text) (length text / 16 + 1) (blocks-padded text) hi (AreBytes-padded text h)

pub length-opens : (key iv bytes text : List ℕ) → IsState iv → AreBytes bytes → Opens key iv bytes text → length text < length bytes
length-opens key iv bytes text hi h opens =
    let n : ℕ = length bytes / 16 in
    let blocks = length-joined (plain_block key iv bytes) n
    (λ j less. length-IsState (plain_block key iv bytes j) (IsState-plain_block key iv bytes j (omega arith) hi h)) in
    let same = ap length opens.plain in
    let long = length-padded text in
    omega arith

-- ---- what bytes open to are bytes

AreBytes-joined : (f : ℕ → List ℕ) (n : ℕ) → ((j : ℕ) → j < n → AreBytes (f j)) → AreBytes (joined f n)
unfolding joined
AreBytes-joined f zero h k = omega arith
AreBytes-joined f (suc n) h k = AreBytes-append (joined f n) (f n) (AreBytes-joined f n (λ j low. h j (omega arith))) (h n (omega arith)) k

pub AreBytes-opens : (key iv bytes text : List ℕ) → IsState iv → AreBytes bytes → Opens key iv bytes text → AreBytes text
AreBytes-opens key iv bytes text hi h opens =
    let n : ℕ = length bytes / 16 in
    let blocks : AreBytes (joined (plain_block key iv bytes) n) =
    AreBytes-joined (plain_block key iv bytes) n (λ j less. (IsState-plain_block key iv bytes j (omega arith) hi h).small) in
    subst AreBytes (ap (take (length text)) opens.plain ∙ take-padded text) (AreBytes-take (length text) (joined (plain_block key iv bytes) n) blocks)
