-- Bytes as elements of GF(2^8): a byte is the polynomial of degree below 8 whose coefficients are
-- its bits (FIPS 197 section 4). The sum of two bytes is their exclusive or (section 4.1).
use Rattle.std.specs.Prelude.{ℕ, zero, suc, ◌*◌, ◌/◌, ◌%◌, ◌==◌, nat_lt, bit_xor, unwrap_or, find, if◌then◌else◌}
use Rattle.std.specs.List.{range_with_len}

-- b times x, modulo x^8 + x^4 + x^3 + x + 1 (section 4.2)
unfoldable pub xtime : ℕ → ℕ
xtime b = if nat_lt b 128 then 2 * b else bit_xor (2 * b) 0x11b

-- the sum of b * x^i over each bit i that is set among the low n bits of a
unfoldable pub product_bits : ℕ → ℕ → ℕ → ℕ
product_bits zero a b = 0
product_bits (suc n) a b = bit_xor (if a % 2 == 1 then b else 0) (product_bits n (a / 2) (xtime b))

-- the product of two bytes (section 4.2)
unfoldable pub product : ℕ → ℕ → ℕ
product a b = product_bits 8 a b

-- the byte whose product with b is 1 (section 4.4 of the edition of 2023); 0 has none, and goes to 0
unfoldable pub inverse : ℕ → ℕ
inverse b = unwrap_or (find (λ c. product b c == 1) (range_with_len 0 256)) 0
