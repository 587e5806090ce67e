-- Each step of the cipher keeps a state a state, and is undone by its inverse.
use Rattle.std.proofs.Common.{◌≡◌, ℕ, zero, suc, ◌+◌, ◌-◌, ◌*◌, ◌/◌, ◌%◌, ◌^◌, ◌<◌, List, [], ◌∷◌, length, bit_xor, slice_index, refl, sym, ◌∙◌, arith, mod-lt}
use Rattle.std.proofs.lemmas.Nat.{xor_of_8}
use Rattle.std.specs.Int.{byte_at}
use Rattle.tdb_aes.specs.KeyExpansion.{round_key}
use Rattle.tdb_aes.specs.MixColumns.{coefficient, inverse_mix_columns, inverse_mix_polynomial, mix_columns, mix_polynomial}
use Rattle.tdb_aes.specs.ShiftRows.{inverse_shift_rows, shift_rows}
use Rattle.tdb_aes.specs.State.{add_round_key, bytes_of_words, entry, state_of}
use Rattle.tdb_aes.specs.SubBytes.{inverse_sub_byte, inverse_sub_bytes, sub_byte, sub_bytes}
use Rattle.tdb_aes.proofs.Products.{coefficient-lt, coefficient-xor, inverse_mix_undone, mix_undone}
use Rattle.tdb_aes.proofs.SBox.{inverse_sub_byte-lt, inverse_sub_byte-sub_byte, sub_byte-inverse_sub_byte, sub_byte-lt}
use Rattle.tdb_aes.proofs.Sixteen.{sixteen}
use Rattle.tdb_aes.proofs.Sums.{xor-xor_same}

-- 16 bytes
pub record IsState (s : List ℕ) : Type 0 where
  pub whole : s ≡ state_of (entry s)
  pub small : (k : ℕ) → slice_index s k < 256

small-state_of : (f : ℕ → ℕ → ℕ) → ((r c : ℕ) → f r c < 256) → (k : ℕ) → slice_index (state_of f) k < 256
small-state_of f h zero = h 0 0
small-state_of f h (suc zero) = h 1 0
small-state_of f h (suc (suc zero)) = h 2 0
small-state_of f h (suc (suc (suc zero))) = h 3 0
small-state_of f h (suc (suc (suc (suc zero)))) = h 0 1
small-state_of f h (suc (suc (suc (suc (suc zero))))) = h 1 1
small-state_of f h (suc (suc (suc (suc (suc (suc zero)))))) = h 2 1
small-state_of f h (suc (suc (suc (suc (suc (suc (suc zero))))))) = h 3 1
small-state_of f h (suc (suc (suc (suc (suc (suc (suc (suc zero)))))))) = h 0 2
small-state_of f h (suc (suc (suc (suc (suc (suc (suc (suc (suc zero))))))))) = h 1 2
small-state_of f h (suc (suc (suc (suc (suc (suc (suc (suc (suc (suc zero)))))))))) = h 2 2
small-state_of f h (suc (suc (suc (suc (suc (suc (suc (suc (suc (suc (suc zero))))))))))) = h 3 2
small-state_of f h (suc (suc (suc (suc (suc (suc (suc (suc (suc (suc (suc (suc zero)))))))))))) = h 0 3
small-state_of f h (suc (suc (suc (suc (suc (suc (suc (suc (suc (suc (suc (suc (suc zero))))))))))))) = h 1 3
small-state_of f h (suc (suc (suc (suc (suc (suc (suc (suc (suc (suc (suc (suc (suc (suc zero)))))))))))))) = h 2 3
small-state_of f h (suc (suc (suc (suc (suc (suc (suc (suc (suc (suc (suc (suc (suc (suc (suc zero))))))))))))))) = h 3 3
small-state_of f h (suc (suc (suc (suc (suc (suc (suc (suc (suc (suc (suc (suc (suc (suc (suc (suc k)))))))))))))))) = omega arith

pub IsState-state_of : (f : ℕ → ℕ → ℕ) → ((r c : ℕ) → f r c < 256) → IsState (state_of f)
IsState-state_of f h = record { whole = refl; small = small-state_of f h }

pub IsState-from_bytes : (s : List ℕ) → length s ≡ 16 → ((k : ℕ) → slice_index s k < 256) → IsState s
IsState-from_bytes s long h = record { whole = sixteen s long; small = h }

state_of-same : (f g : ℕ → ℕ → ℕ) → ((r c : ℕ) → r < 4 → f r c ≡ g r c) → state_of f ≡ state_of g
state_of-same f g h =
    let h0 = λ (c : ℕ). h 0 c (omega arith) in
    let h1 = λ (c : ℕ). h 1 c (omega arith) in
    let h2 = λ (c : ℕ). h 2 c (omega arith) in
    let h3 = λ (c : ℕ). h 3 c (omega arith) in
    λ i. h0 0 i ∷ h1 0 i ∷ h2 0 i ∷ h3 0 i ∷ h0 1 i ∷ h1 1 i ∷ h2 1 i ∷ h3 1 i
    ∷ h0 2 i ∷ h1 2 i ∷ h2 2 i ∷ h3 2 i ∷ h0 3 i ∷ h1 3 i ∷ h2 3 i ∷ h3 3 i ∷ []

-- ---- each step makes a state

pub IsState-sub_bytes : (s : List ℕ) → IsState s → IsState (sub_bytes s)
unfolding sub_bytes
IsState-sub_bytes s h = IsState-state_of (λ r c. sub_byte (entry s r c)) (λ r c. sub_byte-lt _ (h.small (r + 4 * c)))

pub IsState-inverse_sub_bytes : (s : List ℕ) → IsState s → IsState (inverse_sub_bytes s)
unfolding inverse_sub_bytes
IsState-inverse_sub_bytes s h = IsState-state_of (λ r c. inverse_sub_byte (entry s r c)) (λ r c. inverse_sub_byte-lt _ (h.small (r + 4 * c)))

pub IsState-shift_rows : (s : List ℕ) → IsState s → IsState (shift_rows s)
unfolding shift_rows
IsState-shift_rows s h = IsState-state_of (λ r c. entry s r ((c + r) % 4)) (λ r c. h.small (r + 4 * ((c + r) % 4)))

pub IsState-inverse_shift_rows : (s : List ℕ) → IsState s → IsState (inverse_shift_rows s)
unfolding inverse_shift_rows
IsState-inverse_shift_rows s h = IsState-state_of (λ r c. entry s r ((c + 4 - r) % 4)) (λ r c. h.small (r + 4 * ((c + 4 - r) % 4)))

pub IsState-mix_columns : (s : List ℕ) → IsState s → IsState (mix_columns s)
unfolding mix_columns
IsState-mix_columns s h =
    IsState-state_of (λ r c. coefficient mix_polynomial (λ j. entry s j c) r)
    (λ r c. coefficient-lt mix_polynomial (λ j. entry s j c) r (λ j. h.small (j + 4 * c)))

pub IsState-inverse_mix_columns : (s : List ℕ) → IsState s → IsState (inverse_mix_columns s)
unfolding inverse_mix_columns
IsState-inverse_mix_columns s h =
    IsState-state_of (λ r c. coefficient inverse_mix_polynomial (λ j. entry s j c) r)
    (λ r c. coefficient-lt inverse_mix_polynomial (λ j. entry s j c) r (λ j. h.small (j + 4 * c)))

pub IsState-add_round_key : (s k : List ℕ) → IsState s → IsState k → IsState (add_round_key s k)
unfolding add_round_key
IsState-add_round_key s k h hk =
    IsState-state_of (λ r c. bit_xor (entry s r c) (entry k r c))
    (λ r c. xor_of_8 _ _ (h.small (r + 4 * c)) (hk.small (r + 4 * c)))

pub byte_at-lt : (i n : ℕ) → byte_at i n < 256
byte_at-lt zero n = mod-lt n (omega arith)
byte_at-lt (suc i) n = mod-lt (n / 256 ^ suc i) (omega arith)

pub IsState-bytes_of_words : (a b c d : ℕ) → IsState (bytes_of_words a b c d)
unfolding bytes_of_words
IsState-bytes_of_words a b c d =
    IsState-state_of (λ r k. byte_at (3 - r) (slice_index (a ∷ b ∷ c ∷ d ∷ []) k)) (λ r k. byte_at-lt (3 - r) _)

pub IsState-round_key : (w : List ℕ) (n : ℕ) → IsState (round_key w n)
IsState-round_key w n = IsState-bytes_of_words _ _ _ _

-- ---- each step is undone

pub inverse_sub_bytes-sub_bytes : (s : List ℕ) → IsState s → inverse_sub_bytes (sub_bytes s) ≡ s
unfolding inverse_sub_bytes sub_bytes
inverse_sub_bytes-sub_bytes s h =
    state_of-same (λ r c. inverse_sub_byte (sub_byte (entry s r c))) (entry s)
    (λ r c _. inverse_sub_byte-sub_byte (entry s r c) (h.small (r + 4 * c)))
    ∙ sym h.whole

pub sub_bytes-inverse_sub_bytes : (s : List ℕ) → IsState s → sub_bytes (inverse_sub_bytes s) ≡ s
unfolding inverse_sub_bytes sub_bytes
sub_bytes-inverse_sub_bytes s h =
    state_of-same (λ r c. sub_byte (inverse_sub_byte (entry s r c))) (entry s)
    (λ r c _. sub_byte-inverse_sub_byte (entry s r c) (h.small (r + 4 * c)))
    ∙ sym h.whole

pub inverse_shift_rows-shift_rows : (s : List ℕ) → IsState s → inverse_shift_rows (shift_rows s) ≡ s
unfolding inverse_shift_rows shift_rows
inverse_shift_rows-shift_rows s h = sym h.whole

pub shift_rows-inverse_shift_rows : (s : List ℕ) → IsState s → shift_rows (inverse_shift_rows s) ≡ s
unfolding inverse_shift_rows shift_rows
shift_rows-inverse_shift_rows s h = sym h.whole

pub inverse_mix_columns-mix_columns : (s : List ℕ) → IsState s → inverse_mix_columns (mix_columns s) ≡ s
unfolding inverse_mix_columns mix_columns
inverse_mix_columns-mix_columns s h =
    state_of-same (λ r c. coefficient inverse_mix_polynomial (coefficient mix_polynomial (λ k. entry s k c)) r) (entry s)
    (λ r c low. mix_undone (λ k. entry s k c) r low (λ k. h.small (k + 4 * c)))
    ∙ sym h.whole

pub mix_columns-inverse_mix_columns : (s : List ℕ) → IsState s → mix_columns (inverse_mix_columns s) ≡ s
unfolding inverse_mix_columns mix_columns
mix_columns-inverse_mix_columns s h =
    state_of-same (λ r c. coefficient mix_polynomial (coefficient inverse_mix_polynomial (λ k. entry s k c)) r) (entry s)
    (λ r c low. inverse_mix_undone (λ k. entry s k c) r low (λ k. h.small (k + 4 * c)))
    ∙ sym h.whole

pub add_round_key-add_round_key : (s k : List ℕ) → IsState s → add_round_key (add_round_key s k) k ≡ s
unfolding add_round_key
add_round_key-add_round_key s k h =
    state_of-same (λ r c. bit_xor (bit_xor (entry s r c) (entry k r c)) (entry k r c)) (entry s)
    (λ r c _. xor-xor_same (entry s r c) (entry k r c))
    ∙ sym h.whole

-- InvMixColumns goes through the addition of a key
pub inverse_mix_columns-add_round_key : (s k : List ℕ) → IsState s → IsState k
    → inverse_mix_columns (add_round_key s k) ≡ add_round_key (inverse_mix_columns s) (inverse_mix_columns k)
unfolding inverse_mix_columns add_round_key
inverse_mix_columns-add_round_key s k h hk =
    state_of-same (λ r c. coefficient inverse_mix_polynomial (λ j. bit_xor (entry s j c) (entry k j c)) r)
    (λ r c. bit_xor (coefficient inverse_mix_polynomial (λ j. entry s j c) r) (coefficient inverse_mix_polynomial (λ j. entry k j c) r))
    (λ r c _. coefficient-xor inverse_mix_polynomial (λ j. entry s j c) (λ j. entry k j c) r (λ j. h.small (j + 4 * c)) (λ j. hk.small (j + 4 * c)))
