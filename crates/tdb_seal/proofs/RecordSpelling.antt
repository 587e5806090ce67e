-- The record is that of one plain text.
use Rattle.std.proofs.Common.{◌≡◌, ℕ, ◌+◌, ◌^◌, ◌<◌, List, ◌++◌, length, replicate, take, drop, Some, None, refl, sym, ap, ◌∙◌, subst, arith, length-append, length-take-le}
use Rattle.std.specs.Int.{w32, from_be_bytes}
use Rattle.std.proofs.lemmas.List.{drop_at, take-append-drop}
use Rattle.std.proofs.lemmas.Nat.{from_be_bytes-to_be_bytes_4}
use Rattle.tdb_aes.proofs.StateLaws.{IsState, IsState-from_bytes}
use Rattle.tdb_base.proofs.SameFields.{same_front}
use Rattle.tdb_base.specs.declared.suite.Suite.{Suite}
use Rattle.tdb_base.specs.declared.suite.Suite.TheVariants.{Plain, Aes128, Aes256}
use Rattle.tdb_cbc.specs.Sealed.{Opens, sealed}
use Rattle.tdb_cbc.proofs.BlockLaws.{AreBytes-drop, AreBytes-take}
use Rattle.tdb_cbc.proofs.CbcLaws.{length-sealed, opens-sealed}
use Rattle.std.specs.Prelude.{codes}
use Rattle.tdb_mac.specs.Hmac.{hmac_of}
use Rattle.tdb_mac.proofs.HmacLemmas.{length-hmac_of, small-hmac_of}
use Rattle.tdb_seal.specs.declared.record.Name.{Name}
use Rattle.tdb_seal.specs.declared.cipher.Cipher.{Cipher}
use Rattle.tdb_seal.specs.CipherKey.{cipher_key}
use Rattle.tdb_seal.specs.CipherOf.{cipher_of}
use Rattle.tdb_seal.specs.InitialVector.{initial_vector}
use Rattle.tdb_seal.specs.SealedRecord.{record_head, plain_record, ciphered_head, ciphered_length, ciphered_record, sealed_under, body_length, AreBytes, IsSealedRecord}

pub length-record_head : (name : Name) (plain_length body_length : ℕ) → length (record_head name plain_length body_length) ≡ 32
unfolding record_head
length-record_head name plain_length body_length = refl

-- bytes that were split at two places
pub whole : (n m : ℕ) (bytes front rest vector body : List ℕ) → front ≡ take n bytes → rest ≡ drop n bytes → vector ≡ take m rest → body ≡ drop m rest
    → bytes ≡ front ++ (vector ++ body)
whole n m bytes front rest vector body front_is rest_is vector_is body_is =
    rw (front_is, vector_is, body_is, take-append-drop m rest, rest_is) (sym (take-append-drop n bytes))

-- ---- records that aren't enciphered

-- what stands at the places of a record's parts, where the bytes are a record
pub record HasParts (name : Name) (plain front vector body : List ℕ) : Type 0 where
  pub head : front ≡ record_head name (length plain) (length plain)
  pub zeros : vector ≡ replicate 16 0
  pub plain_is : body ≡ plain

pub parts_of : (name : Name) (plain bytes front vector body : List ℕ) → bytes ≡ plain_record name plain → length front ≡ 32 → length vector ≡ 16
    → bytes ≡ front ++ (vector ++ body) → HasParts name plain front vector body
parts_of name plain bytes front vector body spelled front_long vector_long e =
    let head = record_head name (length plain) (length plain) in
    let first = same_front front head (vector ++ body) (replicate 16 0 ++ plain) (front_long ∙ sym (length-record_head name (length plain) (length plain))) (sym e ∙ spelled) in
    let second = same_front vector (replicate 16 0) body plain vector_long first.1 in
    record { head = first.0; zeros = second.0; plain_is = second.1 }

pub length-plain_record : (name : Name) (plain : List ℕ) → length (plain_record name plain) ≡ 48 + length plain
length-plain_record name plain =
    omega (arith, length-append (record_head name (length plain) (length plain)) (replicate 16 0 ++ plain), length-record_head name (length plain) (length plain))

-- bytes that are a record are one of bytes
pub plain_are_bytes : (name : Name) (plain bytes : List ℕ) → AreBytes bytes → bytes ≡ plain_record name plain → AreBytes plain
plain_are_bytes name plain bytes small spelled =
    let behind : drop 32 bytes ≡ replicate 16 0 ++ plain =
    ap (drop 32) spelled ∙ drop_at (record_head name (length plain) (length plain)) (replicate 16 0 ++ plain) 32 (length-record_head name (length plain) (length plain)) in
    subst AreBytes (ap (drop 16) behind) (AreBytes-drop 16 (drop 32 bytes) (AreBytes-drop 32 bytes small))

-- ---- records that are enciphered

pub length-initial_vector : (key head plain : List ℕ) → length (initial_vector key head plain) ≡ 16
unfolding initial_vector
length-initial_vector key head plain =
    let tag : List ℕ = hmac_of key (codes "TDBiv001" ++ head ++ plain) in
    length-take-le 16 tag (omega (arith, length-hmac_of key (codes "TDBiv001" ++ head ++ plain)))

pub IsState-initial_vector : (key head plain : List ℕ) → IsState (initial_vector key head plain)
unfolding initial_vector
IsState-initial_vector key head plain =
    let tag : List ℕ = hmac_of key (codes "TDBiv001" ++ head ++ plain) in
    IsState-from_bytes (take 16 tag) (length-initial_vector key head plain) (AreBytes-take 16 tag (small-hmac_of key (codes "TDBiv001" ++ head ++ plain)))

-- what stands at the places of a record's parts, where the bytes are a record
pub record HasCipheredParts (cipher key : List ℕ) (name : Name) (plain front vector body : List ℕ) : Type 0 where
  pub head : front ≡ ciphered_head name (length plain)
  pub vector_is : vector ≡ initial_vector key (ciphered_head name (length plain)) plain
  pub body_is : body ≡ sealed cipher vector plain

pub ciphered_parts_of : (cipher key : List ℕ) (name : Name) (plain bytes front vector body : List ℕ) → bytes ≡ ciphered_record cipher key name plain → length front ≡ 32 → length vector ≡ 16
    → bytes ≡ front ++ (vector ++ body) → HasCipheredParts cipher key name plain front vector body
unfolding ciphered_record
ciphered_parts_of cipher key name plain bytes front vector body spelled front_long vector_long e =
    let head : List ℕ = ciphered_head name (length plain) in
    let initial : List ℕ = initial_vector key head plain in
    let first = same_front front head (vector ++ body) (initial ++ sealed cipher initial plain) (front_long ∙ sym (length-record_head name (length plain) (ciphered_length (length plain)))) (sym e ∙ spelled) in
    let second = same_front vector initial body (sealed cipher initial plain) (vector_long ∙ sym (length-initial_vector key head plain)) first.1 in
    record { head = first.0; vector_is = second.0; body_is = second.1 ∙ ap (λ (v : List ℕ). sealed cipher v plain) (sym second.0) }

-- the parts of a record make it
pub ciphered_from_parts : (cipher key : List ℕ) (name : Name) (plain bytes front vector body : List ℕ) → HasCipheredParts cipher key name plain front vector body
    → bytes ≡ front ++ (vector ++ body) → bytes ≡ ciphered_record cipher key name plain
unfolding ciphered_record
ciphered_from_parts cipher key name plain bytes front vector body parts e =
    e ∙ (λ i. parts.head i ++ (vector ++ parts.body_is i)) ∙ ap (λ (v : List ℕ). ciphered_head name (length plain) ++ (v ++ sealed cipher v plain)) parts.vector_is

pub length-ciphered_record : (cipher key : List ℕ) (name : Name) (plain : List ℕ) → AreBytes plain → length (ciphered_record cipher key name plain) ≡ 48 + ciphered_length (length plain)
unfolding ciphered_record
length-ciphered_record cipher key name plain are_bytes =
    let head : List ℕ = ciphered_head name (length plain) in
    let initial : List ℕ = initial_vector key head plain in
    omega (
      arith,
      length-append head (initial ++ sealed cipher initial plain),
      length-append initial (sealed cipher initial plain),
      length-record_head name (length plain) (ciphered_length (length plain)),
      length-initial_vector key head plain,
      length-sealed cipher initial plain (IsState-initial_vector key head plain) are_bytes,
    )

-- the body opens to the plain text alone
pub opened_as : (cipher key : List ℕ) (name : Name) (plain front vector body : List ℕ) → HasCipheredParts cipher key name plain front vector body → AreBytes plain → Opens cipher vector body plain
opened_as cipher key name plain front vector body parts small =
    let is : IsState vector = subst IsState (sym parts.vector_is) (IsState-initial_vector key (ciphered_head name (length plain)) plain) in
    subst (λ (b : List ℕ). Opens cipher vector b plain) (sym parts.body_is) ((opens-sealed cipher vector plain plain is small).1 refl)

pub opened_same : (cipher key : List ℕ) (name : Name) (plain front vector body given : List ℕ) → HasCipheredParts cipher key name plain front vector body → AreBytes plain → Opens cipher vector body given → given ≡ plain
opened_same cipher key name plain front vector body given parts small opens =
    let is : IsState vector = subst IsState (sym parts.vector_is) (IsState-initial_vector key (ciphered_head name (length plain)) plain) in
    (opens-sealed cipher vector plain given is small).0 (subst (λ (b : List ℕ). Opens cipher vector b given) parts.body_is opens)

-- one body under one initial vector has one plain text
same_body : (cipher vector a b : List ℕ) → IsState vector → AreBytes a → AreBytes b → sealed cipher vector a ≡ sealed cipher vector b → a ≡ b
same_body cipher vector a b is small_a small_b same =
    sym ((opens-sealed cipher vector a b is small_a).0
    (subst (λ (body : List ℕ). Opens cipher vector body b) (sym same) ((opens-sealed cipher vector b b is small_b).1 refl)))

same_ciphered : (cipher key : List ℕ) (name : Name) (a b bytes : List ℕ) → AreBytes a → AreBytes b → bytes ≡ ciphered_record cipher key name a → bytes ≡ ciphered_record cipher key name b → a ≡ b
unfolding ciphered_record
same_ciphered cipher key name a b bytes small_a small_b spelled_a spelled_b =
    let head : List ℕ = ciphered_head name (length a) in
    let initial : List ℕ = initial_vector key head a in
    let parts = ciphered_parts_of cipher key name b bytes head initial (sealed cipher initial a) spelled_b
    (length-record_head name (length a) (ciphered_length (length a))) (length-initial_vector key head a) spelled_a in
    same_body cipher initial a b (IsState-initial_vector key head a) small_a small_b parts.body_is

-- ---- the lengths in a head

pub plain_length-at : (name : Name) (n m : ℕ) → n < 2 ^ 32 → from_be_bytes w32 (take 4 (drop 24 (record_head name n m))) ≡ n
unfolding record_head
plain_length-at name n m fits = from_be_bytes-to_be_bytes_4 n fits

pub same_plain_length : (name : Name) (n m i j : ℕ) → n < 2 ^ 32 → i < 2 ^ 32 → record_head name n m ≡ record_head name i j → n ≡ i
same_plain_length name n m i j n_fits i_fits same =
    sym (plain_length-at name n m n_fits) ∙ ap (λ (l : List ℕ). from_be_bytes w32 (take 4 (drop 24 l))) same ∙ plain_length-at name i j i_fits

-- bytes that begin with a head are that head and the same rest
pub record HasHead (name : Name) (n : ℕ) (front rest body : List ℕ) : Type 0 where
  pub head : front ≡ ciphered_head name n
  pub body_is : drop 16 rest ≡ body

pub head_of_bytes : (name : Name) (n : ℕ) (bytes front rest vector body : List ℕ) → length front ≡ 32 → length vector ≡ 16 → front ≡ take 32 bytes → rest ≡ drop 32 bytes
    → bytes ≡ ciphered_head name n ++ (vector ++ body) → HasHead name n front rest body
head_of_bytes name n bytes front rest vector body front_long vector_long front_is rest_is spelled =
    let both : front ++ rest ≡ bytes = (λ i. front_is i ++ rest_is i) ∙ take-append-drop 32 bytes in
    let first = same_front front (ciphered_head name n) rest (vector ++ body) (front_long ∙ sym (length-record_head name n (ciphered_length n))) (both ∙ spelled) in
    record { head = first.0; body_is = ap (drop 16) first.1 ∙ drop_at vector body 16 vector_long }

-- ---- of each suite

same_under : (suite : Suite) (key : List ℕ) (name : Name) (a b bytes : List ℕ) → AreBytes a → AreBytes b → bytes ≡ sealed_under suite key name a → bytes ≡ sealed_under suite key name b → a ≡ b
same_under Plain key name a b bytes small_a small_b spelled_a spelled_b =
    (parts_of name b bytes (record_head name (length a) (length a)) (replicate 16 0) a spelled_b (length-record_head name (length a) (length a)) refl spelled_a).plain_is
same_under Aes128 key name a b bytes small_a small_b spelled_a spelled_b = same_ciphered (cipher_key Aes128 key) key name a b bytes small_a small_b spelled_a spelled_b
same_under Aes256 key name a b bytes small_a small_b spelled_a spelled_b = same_ciphered (cipher_key Aes256 key) key name a b bytes small_a small_b spelled_a spelled_b

-- one record has one plain text
pub same_plain : (key : List ℕ) (name : Name) (a b bytes : List ℕ) → IsSealedRecord key name a bytes → IsSealedRecord key name b bytes → a ≡ b
same_plain key name a b bytes is_a is_b = same_under name.suite key name a b bytes is_a.are_bytes is_b.are_bytes is_a.spelled is_b.spelled

length_under : (suite : Suite) (key : List ℕ) (name : Name) (plain bytes : List ℕ) → AreBytes plain → bytes ≡ sealed_under suite key name plain → length bytes ≡ 48 + body_length suite (length plain)
length_under Plain key name plain bytes small spelled = ap length spelled ∙ length-plain_record name plain
length_under Aes128 key name plain bytes small spelled = ap length spelled ∙ length-ciphered_record (cipher_key Aes128 key) key name plain small
length_under Aes256 key name plain bytes small spelled = ap length spelled ∙ length-ciphered_record (cipher_key Aes256 key) key name plain small

-- how long a record is
pub length-sealed_record : (key : List ℕ) (name : Name) (plain bytes : List ℕ) → IsSealedRecord key name plain bytes → length bytes ≡ 48 + body_length name.suite (length plain)
length-sealed_record key name plain bytes is = length_under name.suite key name plain bytes is.are_bytes is.spelled

-- the record that a suite's cipher makes, and the one without a cipher
pub sealed_by : (suite : Suite) (key : List ℕ) (cipher : Cipher) (name : Name) (plain : List ℕ) → cipher_of suite key ≡ Some cipher → ciphered_record cipher.schedule cipher.mac name plain ≡ sealed_under suite key name plain
sealed_by Plain key cipher name plain is = absurd (cc is)
sealed_by Aes128 key cipher name plain is =
    let same : record { schedule = cipher_key Aes128 key; mac = key } ≡ cipher = cc is in
    ap (λ (c : Cipher). ciphered_record c.schedule c.mac name plain) (sym same)
sealed_by Aes256 key cipher name plain is =
    let same : record { schedule = cipher_key Aes256 key; mac = key } ≡ cipher = cc is in
    ap (λ (c : Cipher). ciphered_record c.schedule c.mac name plain) (sym same)

pub sealed_plainly : (suite : Suite) (key : List ℕ) (name : Name) (plain : List ℕ) → cipher_of suite key ≡ None → plain_record name plain ≡ sealed_under suite key name plain
sealed_plainly Plain key name plain is = refl
sealed_plainly Aes128 key name plain is = absurd (cc is)
sealed_plainly Aes256 key name plain is = absurd (cc is)
