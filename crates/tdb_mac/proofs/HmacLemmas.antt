-- A digest and a tag are 32 bytes.
use Rattle.std.proofs.Common.{◌≡◌, ℕ, zero, suc, ◌*◌, ◌<◌, List, [], ◌∷◌, ◌++◌, length, slice_index, refl, length-append, arith}
use Rattle.std.specs.Int.{w32, to_be_bytes}
use Rattle.sha2.specs.Sha256.{digest_bytes, sha256}
use Rattle.tdb_mac.specs.Hmac.{hmac_of}

length-digest_bytes : (h : List ℕ) (n : ℕ) → length (digest_bytes h n) ≡ 4 * n
unfolding digest_bytes
length-digest_bytes h zero = refl
length-digest_bytes h (suc n) = omega (arith, length-append (digest_bytes h n) (to_be_bytes w32 (slice_index h n)), length-digest_bytes h n)

pub length-sha256 : (text : List ℕ) → length (sha256 text) ≡ 32
unfolding sha256
length-sha256 text = length-digest_bytes _ 8

pub length-hmac_of : (key text : List ℕ) → length (hmac_of key text) ≡ 32
unfolding hmac_of
length-hmac_of key text = length-sha256 _

-- each of their elements is a byte
small-append : (s t : List ℕ) → ((k : ℕ) → slice_index s k < 256) → ((k : ℕ) → slice_index t k < 256) → (k : ℕ) → slice_index (s ++ t) k < 256
small-append [] t hs ht k = ht k
small-append (x ∷ xs) t hs ht zero = hs zero
small-append (x ∷ xs) t hs ht (suc k) = small-append xs t (λ j. hs (suc j)) ht k

small-to_be_bytes : (n k : ℕ) → slice_index (to_be_bytes w32 n) k < 256
small-to_be_bytes n zero = omega arith
small-to_be_bytes n (suc zero) = omega arith
small-to_be_bytes n (suc (suc zero)) = omega arith
small-to_be_bytes n (suc (suc (suc zero))) = omega arith
small-to_be_bytes n (suc (suc (suc (suc k)))) = omega arith

small-digest_bytes : (h : List ℕ) (n k : ℕ) → slice_index (digest_bytes h n) k < 256
unfolding digest_bytes
small-digest_bytes h zero k = omega arith
small-digest_bytes h (suc n) k = small-append (digest_bytes h n) (to_be_bytes w32 (slice_index h n)) (small-digest_bytes h n) (small-to_be_bytes (slice_index h n)) k

pub small-hmac_of : (key text : List ℕ) (k : ℕ) → slice_index (hmac_of key text) k < 256
unfolding hmac_of sha256
small-hmac_of key text k = small-digest_bytes _ 8 k
