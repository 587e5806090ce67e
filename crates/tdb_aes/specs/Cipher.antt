-- Cipher (FIPS 197 section 5.1) and InvCipher (section 5.3). A key has 16 or 32 bytes, and a block 16.
use Rattle.std.specs.Prelude.{ℕ, zero, suc, ◌-◌, List}
use Rattle.tdb_aes.specs.KeyExpansion.{key_schedule, round_count, round_key}
use Rattle.tdb_aes.specs.MixColumns.{inverse_mix_columns, mix_columns}
use Rattle.tdb_aes.specs.ShiftRows.{inverse_shift_rows, shift_rows}
use Rattle.tdb_aes.specs.State.{add_round_key}
use Rattle.tdb_aes.specs.SubBytes.{inverse_sub_bytes, sub_bytes}

-- the state after the first key addition and n whole rounds, with the words w
unfoldable pub after_rounds : List ℕ → List ℕ → ℕ → List ℕ
after_rounds w block zero = add_round_key block (round_key w 0)
after_rounds w block (suc n) =
    add_round_key (mix_columns (shift_rows (sub_bytes (after_rounds w block n)))) (round_key w (suc n))

-- the cipher with the words w and `rounds` rounds, the last of which has no MixColumns
unfoldable pub cipher_with : List ℕ → ℕ → List ℕ → List ℕ
cipher_with w rounds block =
    add_round_key (shift_rows (sub_bytes (after_rounds w block (rounds - 1)))) (round_key w rounds)

-- the state of the inverse after the first key addition and n whole rounds
unfoldable pub after_inverse_rounds : List ℕ → ℕ → List ℕ → ℕ → List ℕ
after_inverse_rounds w rounds block zero = add_round_key block (round_key w rounds)
after_inverse_rounds w rounds block (suc n) =
    inverse_mix_columns
    (add_round_key (inverse_sub_bytes (inverse_shift_rows (after_inverse_rounds w rounds block n)))
    (round_key w (rounds - suc n)))

-- the inverse cipher with the words w and `rounds` rounds
unfoldable pub inverse_cipher_with : List ℕ → ℕ → List ℕ → List ℕ
inverse_cipher_with w rounds block =
    add_round_key (inverse_sub_bytes (inverse_shift_rows (after_inverse_rounds w rounds block (rounds - 1))))
    (round_key w 0)

-- a block enciphered under a key
abbrev pub cipher : List ℕ → List ℕ → List ℕ
cipher key block = cipher_with (key_schedule key) (round_count key) block

-- a block deciphered under a key
abbrev pub inverse_cipher : List ℕ → List ℕ → List ℕ
inverse_cipher key block = inverse_cipher_with (key_schedule key) (round_count key) block
