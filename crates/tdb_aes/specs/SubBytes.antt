-- SubBytes (FIPS 197 section 5.1.1) and its inverse (section 5.3.2).
use Rattle.std.specs.Prelude.{ℕ, ◌+◌, ◌*◌, ◌%◌, ◌==◌, List, unwrap_or, find}
use Rattle.std.specs.Int.{bit_at}
use Rattle.std.specs.List.{range_with_len}
use Rattle.tdb_aes.specs.Field.{inverse}
use Rattle.tdb_aes.specs.State.{entry, state_of}

-- bit i of the affine transformation of b
abbrev pub affine_bit : ℕ → ℕ → ℕ
affine_bit b i =
    (bit_at b i + bit_at b ((i + 4) % 8) + bit_at b ((i + 5) % 8) + bit_at b ((i + 6) % 8)
    + bit_at b ((i + 7) % 8) + bit_at 0x63 i) % 2

-- the affine transformation of b
abbrev pub affine : ℕ → ℕ
affine b =
    affine_bit b 0 + 2 * affine_bit b 1 + 4 * affine_bit b 2 + 8 * affine_bit b 3
    + 16 * affine_bit b 4 + 32 * affine_bit b 5 + 64 * affine_bit b 6 + 128 * affine_bit b 7

-- the S-box
unfoldable pub sub_byte : ℕ → ℕ
sub_byte b = affine (inverse b)

-- the byte that the S-box takes to c
unfoldable pub inverse_sub_byte : ℕ → ℕ
inverse_sub_byte c = unwrap_or (find (λ b. sub_byte b == c) (range_with_len 0 256)) 0

unfoldable pub sub_bytes : List ℕ → List ℕ
sub_bytes s = state_of (λ r c. sub_byte (entry s r c))

unfoldable pub inverse_sub_bytes : List ℕ → List ℕ
inverse_sub_bytes s = state_of (λ r c. inverse_sub_byte (entry s r c))
