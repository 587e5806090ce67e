-- The cipher and its inverse undo each other, whatever the words of the schedule are.
use Rattle.std.proofs.Common.{◌≡◌, ℕ, zero, suc, ◌+◌, ◌-◌, ◌<◌, ◌≤◌, List, ap, sym, ◌∙◌, arith}
use Rattle.tdb_aes.specs.Cipher.{after_inverse_rounds, after_rounds, cipher, cipher_with, inverse_cipher, inverse_cipher_with}
use Rattle.tdb_aes.specs.EquivalentInverse.{IsInverseSchedule}
use Rattle.tdb_aes.specs.KeyExpansion.{key_schedule, round_count, round_key}
use Rattle.tdb_aes.specs.MixColumns.{inverse_mix_columns, mix_columns}
use Rattle.tdb_aes.specs.ShiftRows.{inverse_shift_rows, shift_rows}
use Rattle.tdb_aes.specs.State.{add_round_key}
use Rattle.tdb_aes.specs.SubBytes.{inverse_sub_bytes, sub_bytes}
use Rattle.tdb_aes.proofs.StateLaws.{IsState, IsState-add_round_key, IsState-inverse_mix_columns, IsState-inverse_shift_rows, IsState-inverse_sub_bytes, IsState-mix_columns, IsState-round_key, IsState-shift_rows, IsState-sub_bytes, add_round_key-add_round_key, inverse_mix_columns-add_round_key, inverse_mix_columns-mix_columns, inverse_shift_rows-shift_rows, inverse_sub_bytes-sub_bytes, mix_columns-inverse_mix_columns, shift_rows-inverse_shift_rows, sub_bytes-inverse_sub_bytes}

-- SubBytes and ShiftRows
abbrev pub forward : List ℕ → List ℕ
forward s = shift_rows (sub_bytes s)

-- InvShiftRows and InvSubBytes
abbrev pub backward : List ℕ → List ℕ
backward s = inverse_sub_bytes (inverse_shift_rows s)

IsState-forward : (s : List ℕ) → IsState s → IsState (forward s)
IsState-forward s h = IsState-shift_rows (sub_bytes s) (IsState-sub_bytes s h)

IsState-backward : (s : List ℕ) → IsState s → IsState (backward s)
IsState-backward s h = IsState-inverse_sub_bytes (inverse_shift_rows s) (IsState-inverse_shift_rows s h)

backward-forward : (s : List ℕ) → IsState s → backward (forward s) ≡ s
backward-forward s h =
    ap inverse_sub_bytes (inverse_shift_rows-shift_rows (sub_bytes s) (IsState-sub_bytes s h)) ∙ inverse_sub_bytes-sub_bytes s h

forward-backward : (s : List ℕ) → IsState s → forward (backward s) ≡ s
forward-backward s h =
    ap shift_rows (sub_bytes-inverse_sub_bytes (inverse_shift_rows s) (IsState-inverse_shift_rows s h)) ∙ shift_rows-inverse_shift_rows s h

pub IsState-after_rounds : (w s : List ℕ) (n : ℕ) → IsState s → IsState (after_rounds w s n)
unfolding after_rounds
IsState-after_rounds w s zero h = IsState-add_round_key s (round_key w 0) h (IsState-round_key w 0)
IsState-after_rounds w s (suc n) h =
    IsState-add_round_key (mix_columns (forward (after_rounds w s n))) (round_key w (suc n))
    (IsState-mix_columns (forward (after_rounds w s n)) (IsState-forward (after_rounds w s n) (IsState-after_rounds w s n h)))
    (IsState-round_key w (suc n))

pub IsState-after_inverse_rounds : (w : List ℕ) (rounds : ℕ) (s : List ℕ) (n : ℕ) → IsState s → IsState (after_inverse_rounds w rounds s n)
unfolding after_inverse_rounds
IsState-after_inverse_rounds w rounds s zero h = IsState-add_round_key s (round_key w rounds) h (IsState-round_key w rounds)
IsState-after_inverse_rounds w rounds s (suc n) h =
    IsState-inverse_mix_columns (add_round_key (backward (after_inverse_rounds w rounds s n)) (round_key w (rounds - suc n)))
    (IsState-add_round_key (backward (after_inverse_rounds w rounds s n)) (round_key w (rounds - suc n))
    (IsState-backward (after_inverse_rounds w rounds s n) (IsState-after_inverse_rounds w rounds s n h))
    (IsState-round_key w (rounds - suc n)))

-- ---- deciphering what was enciphered

-- after n rounds back, the state is that of the cipher n rounds before its last
unwound : (w s : List ℕ) (k n m : ℕ) → n + m ≡ k → IsState s
    → after_inverse_rounds w (suc k) (cipher_with w (suc k) s) n ≡ forward (after_rounds w s m)
unfolding after_inverse_rounds after_rounds cipher_with
unwound w s k zero m e h =
    let last : suc k - 1 ≡ m = omega arith in
    ap (λ (j : ℕ). add_round_key (add_round_key (forward (after_rounds w s j)) (round_key w (suc k))) (round_key w (suc k))) last
    ∙ add_round_key-add_round_key (forward (after_rounds w s m)) (round_key w (suc k))
    (IsState-forward (after_rounds w s m) (IsState-after_rounds w s m h))
unwound w s k (suc n) m e h =
    let before = unwound w s k n (suc m) (omega arith) h in
    let place : suc k - suc n ≡ suc m = omega arith in
    let mixed : List ℕ = mix_columns (forward (after_rounds w s m)) in
    let is_mixed : IsState mixed =
    IsState-mix_columns (forward (after_rounds w s m)) (IsState-forward (after_rounds w s m) (IsState-after_rounds w s m h)) in
    ap (λ t. inverse_mix_columns (add_round_key (backward t) (round_key w (suc k - suc n)))) before
    ∙ ap (λ (j : ℕ). inverse_mix_columns (add_round_key (backward (forward (after_rounds w s (suc m)))) (round_key w j))) place
    ∙ ap (λ t. inverse_mix_columns (add_round_key t (round_key w (suc m))))
    (backward-forward (after_rounds w s (suc m)) (IsState-after_rounds w s (suc m) h))
    ∙ ap inverse_mix_columns (add_round_key-add_round_key mixed (round_key w (suc m)) is_mixed)
    ∙ inverse_mix_columns-mix_columns (forward (after_rounds w s m)) (IsState-forward (after_rounds w s m) (IsState-after_rounds w s m h))

pub inverse_cipher_with-cipher_with : (w s : List ℕ) (k : ℕ) → IsState s
    → inverse_cipher_with w (suc k) (cipher_with w (suc k) s) ≡ s
unfolding inverse_cipher_with after_rounds
inverse_cipher_with-cipher_with w s k h =
    let last : suc k - 1 ≡ k = omega arith in
    ap (λ (j : ℕ). add_round_key (backward (after_inverse_rounds w (suc k) (cipher_with w (suc k) s) j)) (round_key w 0)) last
    ∙ ap (λ t. add_round_key (backward t) (round_key w 0)) (unwound w s k k 0 (omega arith) h)
    ∙ ap (λ t. add_round_key t (round_key w 0)) (backward-forward (after_rounds w s 0) (IsState-after_rounds w s 0 h))
    ∙ add_round_key-add_round_key s (round_key w 0) h

-- ---- enciphering what was deciphered

rewound : (w s : List ℕ) (k n m : ℕ) → n + m ≡ k → IsState s
    → after_rounds w (inverse_cipher_with w (suc k) s) n ≡ backward (after_inverse_rounds w (suc k) s m)
unfolding after_inverse_rounds after_rounds inverse_cipher_with
rewound w s k zero m e h =
    let last : suc k - 1 ≡ m = omega arith in
    ap (λ (j : ℕ). add_round_key (add_round_key (backward (after_inverse_rounds w (suc k) s j)) (round_key w 0)) (round_key w 0)) last
    ∙ add_round_key-add_round_key (backward (after_inverse_rounds w (suc k) s m)) (round_key w 0)
    (IsState-backward (after_inverse_rounds w (suc k) s m) (IsState-after_inverse_rounds w (suc k) s m h))
rewound w s k (suc n) m e h =
    let before = rewound w s k n (suc m) (omega arith) h in
    let place : suc k - suc m ≡ suc n = omega arith in
    let back : List ℕ = backward (after_inverse_rounds w (suc k) s m) in
    let is_back : IsState back =
    IsState-backward (after_inverse_rounds w (suc k) s m) (IsState-after_inverse_rounds w (suc k) s m h) in
    ap (λ t. add_round_key (mix_columns (forward t)) (round_key w (suc n))) before
    ∙ ap (λ t. add_round_key (mix_columns t) (round_key w (suc n)))
    (forward-backward (after_inverse_rounds w (suc k) s (suc m)) (IsState-after_inverse_rounds w (suc k) s (suc m) h))
    ∙ ap (λ t. add_round_key t (round_key w (suc n)))
    (mix_columns-inverse_mix_columns (add_round_key back (round_key w (suc k - suc m)))
    (IsState-add_round_key back (round_key w (suc k - suc m)) is_back (IsState-round_key w (suc k - suc m))))
    ∙ ap (λ (j : ℕ). add_round_key (add_round_key back (round_key w j)) (round_key w (suc n))) place
    ∙ add_round_key-add_round_key back (round_key w (suc n)) is_back

pub cipher_with-inverse_cipher_with : (w s : List ℕ) (k : ℕ) → IsState s
    → cipher_with w (suc k) (inverse_cipher_with w (suc k) s) ≡ s
unfolding cipher_with after_inverse_rounds
cipher_with-inverse_cipher_with w s k h =
    let last : suc k - 1 ≡ k = omega arith in
    ap (λ (j : ℕ). add_round_key (forward (after_rounds w (inverse_cipher_with w (suc k) s) j)) (round_key w (suc k))) last
    ∙ ap (λ t. add_round_key (forward t) (round_key w (suc k))) (rewound w s k k 0 (omega arith) h)
    ∙ ap (λ t. add_round_key t (round_key w (suc k)))
    (forward-backward (after_inverse_rounds w (suc k) s 0) (IsState-after_inverse_rounds w (suc k) s 0 h))
    ∙ add_round_key-add_round_key s (round_key w (suc k)) h

-- ---- one round of a loop

pub after_rounds_more : (w s : List ℕ) (n : ℕ) (b next : List ℕ) → 1 ≤ n → b ≡ after_rounds w s (n - 1)
    → next ≡ add_round_key (mix_columns (shift_rows (sub_bytes b))) (round_key w n) → next ≡ after_rounds w s (n + 1 - 1)
unfolding after_rounds
after_rounds_more w s zero b next low eb en = absurd (omega arith)
after_rounds_more w s (suc k) b next low eb en =
    let here : suc k - 1 ≡ k = omega arith in
    let there : suc k + 1 - 1 ≡ suc k = omega arith in
    rw there (en ∙ ap (λ t. add_round_key (mix_columns (shift_rows (sub_bytes t))) (round_key w (suc k))) (eb ∙ ap (λ (j : ℕ). after_rounds w s j) here))

pub after_inverse_rounds_more : (w d : List ℕ) (rounds : ℕ) (s : List ℕ) (n : ℕ) (b next : List ℕ) → IsInverseSchedule w d rounds
    → IsState s → 1 ≤ n → n < rounds → b ≡ after_inverse_rounds w rounds s (n - 1)
    → next ≡ add_round_key (inverse_mix_columns (inverse_sub_bytes (inverse_shift_rows b))) (round_key d (rounds - n))
    → next ≡ after_inverse_rounds w rounds s (n + 1 - 1)
unfolding after_inverse_rounds
after_inverse_rounds_more w d rounds s zero b next held h low high eb en = absurd (omega arith)
after_inverse_rounds_more w d rounds s (suc k) b next held h low high eb en =
    let here : suc k - 1 ≡ k = omega arith in
    let there : suc k + 1 - 1 ≡ suc k = omega arith in
    let back : List ℕ = backward (after_inverse_rounds w rounds s k) in
    let is_back : IsState back = IsState-backward (after_inverse_rounds w rounds s k) (IsState-after_inverse_rounds w rounds s k h) in
    let key = round_key w (rounds - suc k) in
    rw there
    (en
    ∙ ap (λ t. add_round_key (inverse_mix_columns (backward t)) (round_key d (rounds - suc k))) (eb ∙ ap (λ (j : ℕ). after_inverse_rounds w rounds s j) here)
    ∙ ap (add_round_key (inverse_mix_columns back)) (held.between (rounds - suc k) (omega arith) (omega arith))
    ∙ sym (inverse_mix_columns-add_round_key back key is_back (IsState-round_key w (rounds - suc k))))

-- ---- the schedule's words alone count

after_rounds-same : (v w s : List ℕ) (n : ℕ) → ((k : ℕ) → k ≤ n → round_key v k ≡ round_key w k) → after_rounds v s n ≡ after_rounds w s n
unfolding after_rounds
after_rounds-same v w s zero same = ap (add_round_key s) (same 0 (omega arith))
after_rounds-same v w s (suc n) same =
    let before = after_rounds-same v w s n (λ k h. same k (omega arith)) in
    let key = same (suc n) (omega arith) in
    λ i. add_round_key (mix_columns (forward (before i))) (key i)

pub cipher_with-same : (v w : List ℕ) (rounds : ℕ) (s : List ℕ) → ((k : ℕ) → k ≤ rounds → round_key v k ≡ round_key w k)
    → cipher_with v rounds s ≡ cipher_with w rounds s
unfolding cipher_with
cipher_with-same v w rounds s same =
    let before = after_rounds-same v w s (rounds - 1) (λ k h. same k (omega arith)) in
    let key = same rounds (omega arith) in
    λ i. add_round_key (forward (before i)) (key i)

after_inverse_rounds-same : (v w : List ℕ) (rounds : ℕ) (s : List ℕ) (n : ℕ) → ((k : ℕ) → k ≤ rounds → round_key v k ≡ round_key w k)
    → after_inverse_rounds v rounds s n ≡ after_inverse_rounds w rounds s n
unfolding after_inverse_rounds
after_inverse_rounds-same v w rounds s zero same = ap (add_round_key s) (same rounds (omega arith))
after_inverse_rounds-same v w rounds s (suc n) same =
    let before = after_inverse_rounds-same v w rounds s n same in
    let key = same (rounds - suc n) (omega arith) in
    λ i. inverse_mix_columns (add_round_key (backward (before i)) (key i))

pub inverse_cipher_with-same : (v w : List ℕ) (rounds : ℕ) (s : List ℕ) → ((k : ℕ) → k ≤ rounds → round_key v k ≡ round_key w k)
    → inverse_cipher_with v rounds s ≡ inverse_cipher_with w rounds s
unfolding inverse_cipher_with
inverse_cipher_with-same v w rounds s same =
    let before = after_inverse_rounds-same v w rounds s (rounds - 1) same in
    let key = same 0 (omega arith) in
    λ i. add_round_key (backward (before i)) (key i)

-- ---- under a key

undone_back : (w s : List ℕ) (rounds : ℕ) → 0 < rounds → IsState s → inverse_cipher_with w rounds (cipher_with w rounds s) ≡ s
undone_back w s zero some h = absurd (omega arith)
undone_back w s (suc k) some h = inverse_cipher_with-cipher_with w s k h

undone_forth : (w s : List ℕ) (rounds : ℕ) → 0 < rounds → IsState s → cipher_with w rounds (inverse_cipher_with w rounds s) ≡ s
undone_forth w s zero some h = absurd (omega arith)
undone_forth w s (suc k) some h = cipher_with-inverse_cipher_with w s k h

pub inverse_cipher-cipher : (key s : List ℕ) → IsState s → inverse_cipher key (cipher key s) ≡ s
inverse_cipher-cipher key s h = undone_back (key_schedule key) s (round_count key) (omega arith) h

pub cipher-inverse_cipher : (key s : List ℕ) → IsState s → cipher key (inverse_cipher key s) ≡ s
cipher-inverse_cipher key s h = undone_forth (key_schedule key) s (round_count key) (omega arith) h

-- ---- what comes out is a state

pub IsState-cipher : (key s : List ℕ) → IsState s → IsState (cipher key s)
unfolding cipher_with
IsState-cipher key s h =
    let w = key_schedule key in
    let rounds : ℕ = round_count key in
    IsState-add_round_key (forward (after_rounds w s (rounds - 1))) (round_key w rounds)
    (IsState-forward (after_rounds w s (rounds - 1)) (IsState-after_rounds w s (rounds - 1) h))
    (IsState-round_key w rounds)

pub IsState-inverse_cipher : (key s : List ℕ) → IsState s → IsState (inverse_cipher key s)
unfolding inverse_cipher_with
IsState-inverse_cipher key s h =
    let w = key_schedule key in
    let rounds : ℕ = round_count key in
    IsState-add_round_key (backward (after_inverse_rounds w rounds s (rounds - 1))) (round_key w 0)
    (IsState-backward (after_inverse_rounds w rounds s (rounds - 1)) (IsState-after_inverse_rounds w rounds s (rounds - 1) h))
    (IsState-round_key w 0)
