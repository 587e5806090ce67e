-- HMAC of FIPS 198-1, section 4, with SHA-256 and so with blocks of 64 bytes.
use Rattle.std.specs.Prelude.{ℕ, ◌-◌, List, ◌++◌, length, replicate, bit_xor, map, if◌then◌else◌, nat_lt}
use Rattle.sha2.specs.Sha256.{sha256}

-- the key of 64 bytes, K0 of the standard's steps 1 to 3: a longer key is hashed first, and zeros fill it up
unfoldable pub key_block : List ℕ → List ℕ
key_block key = if nat_lt 64 (length key) then sha256 key ++ replicate 32 0 else key ++ replicate (64 - length key) 0

-- each byte of that block, exclusive or the pad's
abbrev pub padded_key : ℕ → List ℕ → List ℕ
padded_key pad key = map (λ b. bit_xor b pad) (key_block key)

-- the pads of section 3, ipad and opad
abbrev pub inner_pad : ℕ
inner_pad = 0x36

abbrev pub outer_pad : ℕ
outer_pad = 0x5c

-- the tag of a text under a key, by the standard's steps 4 to 9
unfoldable pub hmac_of : List ℕ → List ℕ → List ℕ
hmac_of key text = sha256 (padded_key outer_pad key ++ sha256 (padded_key inner_pad key ++ text))
