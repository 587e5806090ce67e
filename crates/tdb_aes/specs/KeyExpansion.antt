-- KeyExpansion (FIPS 197 section 5.2), for keys of 16, 24 and 32 bytes. A word is a number below
-- 2 ^ 32, and its first byte is its highest.
use Rattle.std.specs.Prelude.{◌≡◌, ◌<◌, ℕ, zero, suc, ◌+◌, ◌-◌, ◌*◌, ◌/◌, ◌%◌, ◌^◌, ◌==◌, ◌&&◌, nat_lt, List, [], ◌∷◌}
use Rattle.std.specs.Prelude.{◌++◌, length, bit_xor, slice_index, if◌then◌else◌}
use Rattle.std.specs.Int.{w32, byte_at, from_be_bytes, rotate_left, to_be_bytes}
use Rattle.tdb_aes.specs.Field.{xtime}
use Rattle.tdb_aes.specs.State.{bytes_of_words}
use Rattle.tdb_aes.specs.SubBytes.{sub_byte}

-- Nk, the number of words of the key
abbrev pub key_words : List ℕ → ℕ
key_words key = length key / 4

-- Nr, the number of rounds
abbrev pub round_count : List ℕ → ℕ
round_count key = key_words key + 6

-- SubWord: the S-box on each byte
unfoldable pub sub_word : ℕ → ℕ
sub_word w = from_be_bytes w32
    (sub_byte (byte_at 3 w) ∷ sub_byte (byte_at 2 w) ∷ sub_byte (byte_at 1 w) ∷ sub_byte (byte_at 0 w) ∷ [])

-- RotWord: turned left by one byte
abbrev pub rot_word : ℕ → ℕ
rot_word w = rotate_left w32 w 8

-- x^i
unfoldable pub power_of_x : ℕ → ℕ
power_of_x zero = 1
power_of_x (suc i) = xtime (power_of_x i)

-- Rcon j: the byte x^(j - 1) and three bytes of 0
abbrev pub round_constant : ℕ → ℕ
round_constant j = power_of_x (j - 1) * 2 ^ 24

-- word i of the key
abbrev pub key_word : List ℕ → ℕ → ℕ
key_word key i = from_be_bytes w32
    (slice_index key (4 * i) ∷ slice_index key (4 * i + 1) ∷ slice_index key (4 * i + 2)
    ∷ slice_index key (4 * i + 3) ∷ [])

-- what word i of the schedule adds to word i - Nk, for Nk = n, from the word before it
abbrev pub temp : ℕ → ℕ → ℕ → ℕ
temp n previous i =
    if i % n == 0 then bit_xor (sub_word (rot_word previous)) (round_constant (i / n))
    else (if nat_lt 6 n && i % n == 4 then sub_word previous else previous)

-- word i of the schedule, for Nk = n, where w has the words before it
unfoldable pub next_word : ℕ → List ℕ → ℕ → ℕ
next_word n w i = bit_xor (slice_index w (i - n)) (temp n (slice_index w (i - 1)) i)

-- the first k words of the schedule
unfoldable pub first_words : List ℕ → ℕ → List ℕ
first_words key zero = []
first_words key (suc k) =
    first_words key k
    ++ (if nat_lt k (key_words key) then key_word key k else next_word (key_words key) (first_words key k) k) ∷ []

-- the schedule: four words for each round, and four before the first
abbrev pub key_schedule : List ℕ → List ℕ
key_schedule key = first_words key (4 * (round_count key + 1))

-- the bytes of the four words of w for round n
abbrev pub round_key : List ℕ → ℕ → List ℕ
round_key w n = bytes_of_words (slice_index w (4 * n)) (slice_index w (4 * n + 1)) (slice_index w (4 * n + 2)) (slice_index w (4 * n + 3))

-- w begins with the words of the schedule
abbrev pub BeginsWithSchedule : List ℕ → List ℕ → Type 0
BeginsWithSchedule key w = (k : ℕ) → k < 4 * (round_count key + 1) → slice_index w k ≡ slice_index (key_schedule key) k

-- the bytes of the first n words of w, from which the key is read back
unfoldable pub bytes_of_first : List ℕ → ℕ → List ℕ
bytes_of_first w zero = []
bytes_of_first w (suc n) = bytes_of_first w n ++ to_be_bytes w32 (slice_index w n)
