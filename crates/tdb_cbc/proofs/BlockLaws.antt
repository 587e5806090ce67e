-- Blocks of 16 bytes and texts made of them.
use Rattle.std.proofs.Common.{◌≡◌, ℕ, zero, suc, ◌+◌, ◌*◌, ◌<◌, ◌≤◌, List, [], ◌∷◌, ◌++◌, length, take, drop, replicate, bit_xor, get_or, refl, ap, sym, ◌∙◌, inl, inr, arith}
use Rattle.std.proofs.lemmas.Bool.{cases_lt}
use Rattle.std.proofs.lemmas.List.{drop-append-le, drop_at, length-append, length-drop, length-take-le, take-append-le, take_all, take-append-drop, take-take, drop-take}
use Rattle.tdb_aes.proofs.Sixteen.{sixteen}
use Rattle.tdb_aes.proofs.StateLaws.{IsState, IsState-add_round_key, IsState-from_bytes, add_round_key-add_round_key}
use Rattle.tdb_aes.specs.State.{add_round_key}
use Rattle.tdb_cbc.specs.Blocks.{block, joined, xor_bytes}

-- ---- the exclusive or of blocks

pub xor_bytes-from : (a b s : List ℕ) → length a ≡ 16 → length b ≡ 16 → length s ≡ 16
    → ((k : ℕ) → k < 16 → get_or s k 0 ≡ bit_xor (get_or a k 0) (get_or b k 0)) → s ≡ xor_bytes a b
unfolding xor_bytes
xor_bytes-from a b s la lb ls each =
    let ea = sixteen a la in
    let eb = sixteen b lb in
    sixteen s ls
    ∙ (λ i. each 0 (omega arith) i ∷ each 1 (omega arith) i ∷ each 2 (omega arith) i ∷ each 3 (omega arith) i
    ∷ each 4 (omega arith) i ∷ each 5 (omega arith) i ∷ each 6 (omega arith) i ∷ each 7 (omega arith) i
    ∷ each 8 (omega arith) i ∷ each 9 (omega arith) i ∷ each 10 (omega arith) i ∷ each 11 (omega arith) i
    ∷ each 12 (omega arith) i ∷ each 13 (omega arith) i ∷ each 14 (omega arith) i ∷ each 15 (omega arith) i ∷ [])
    ∙ sym (λ i. xor_bytes (ea i) (eb i))

xor_bytes-add_round_key : (a b : List ℕ) → IsState a → IsState b → xor_bytes a b ≡ add_round_key a b
unfolding xor_bytes add_round_key
xor_bytes-add_round_key a b ha hb =
    let ea = ha.whole in
    let eb = hb.whole in
    λ i. xor_bytes (ea i) (eb i)

pub IsState-xor_bytes : (a b : List ℕ) → IsState a → IsState b → IsState (xor_bytes a b)
IsState-xor_bytes a b ha hb = rw (xor_bytes-add_round_key a b ha hb) (IsState-add_round_key a b ha hb)

pub xor_bytes-xor_bytes : (a b : List ℕ) → IsState a → IsState b → xor_bytes (xor_bytes a b) b ≡ a
xor_bytes-xor_bytes a b ha hb =
    xor_bytes-add_round_key (xor_bytes a b) b (IsState-xor_bytes a b ha hb) hb
    ∙ ap (λ s. add_round_key s b) (xor_bytes-add_round_key a b ha hb)
    ∙ add_round_key-add_round_key a b ha

pub length-IsState : (s : List ℕ) → IsState s → length s ≡ 16
length-IsState s h = ap length h.whole

-- ---- bytes

-- each element is a byte
abbrev pub AreBytes : List ℕ → Type 0
AreBytes s = (k : ℕ) → get_or s k 0 < 256

pub AreBytes-take : (n : ℕ) (s : List ℕ) → AreBytes s → AreBytes (take n s)
AreBytes-take zero s h k = omega arith
AreBytes-take (suc n) [] h k = omega arith
AreBytes-take (suc n) (x ∷ xs) h zero = h zero
AreBytes-take (suc n) (x ∷ xs) h (suc k) = AreBytes-take n xs (λ j. h (suc j)) k

pub AreBytes-drop : (n : ℕ) (s : List ℕ) → AreBytes s → AreBytes (drop n s)
AreBytes-drop zero s h k = h k
AreBytes-drop (suc n) [] h k = omega arith
AreBytes-drop (suc n) (x ∷ xs) h k = AreBytes-drop n xs (λ j. h (suc j)) k

pub AreBytes-append : (s t : List ℕ) → AreBytes s → AreBytes t → AreBytes (s ++ t)
AreBytes-append [] t hs ht k = ht k
AreBytes-append (x ∷ xs) t hs ht zero = hs zero
AreBytes-append (x ∷ xs) t hs ht (suc k) = AreBytes-append xs t (λ j. hs (suc j)) ht k

pub AreBytes-replicate : (n x : ℕ) → x < 256 → AreBytes (replicate n x)
AreBytes-replicate zero x h k = omega arith
AreBytes-replicate (suc n) x h zero = h
AreBytes-replicate (suc n) x h (suc k) = AreBytes-replicate n x h k

pub IsState-block : (text : List ℕ) (j : ℕ) → 16 * j + 16 ≤ length text → AreBytes text → IsState (block text j)
IsState-block text j room h =
    IsState-from_bytes (block text j)
    (length-take-le 16 (drop (16 * j) text) (omega (arith, length-drop (16 * j) text)))
    (AreBytes-take 16 (drop (16 * j) text) (AreBytes-drop (16 * j) text h))

-- ---- blocks end to end

pub length-joined : (f : ℕ → List ℕ) (n : ℕ) → ((j : ℕ) → j < n → length (f j) ≡ 16) → length (joined f n) ≡ 16 * n
unfolding joined
length-joined f zero h = refl
length-joined f (suc n) h =
    let before = length-joined f n (λ j low. h j (omega arith)) in
    let here = h n (omega arith) in
    omega (arith, length-append (joined f n) (f n))

pub joined-same : (f g : ℕ → List ℕ) (n : ℕ) → ((j : ℕ) → j < n → f j ≡ g j) → joined f n ≡ joined g n
unfolding joined
joined-same f g zero h = refl
joined-same f g (suc n) h =
    let before = joined-same f g n (λ j low. h j (omega arith)) in
    let here = h n (omega arith) in
    λ i. before i ++ here i

-- a block of a text with more behind it
pub block-append : (s t : List ℕ) (j : ℕ) → 16 * j + 16 ≤ length s → block (s ++ t) j ≡ block s j
block-append s t j room =
    ap (take 16) (drop-append-le (16 * j) s t (omega arith))
    ∙ take-append-le 16 (drop (16 * j) s) t (omega (arith, length-drop (16 * j) s))

-- the block behind n blocks
pub block-behind : (s t : List ℕ) (n : ℕ) → length s ≡ 16 * n → length t ≡ 16 → block (s ++ t) n ≡ t
block-behind s t n ls lt = ap (take 16) (drop_at s t (16 * n) ls) ∙ take_all 16 t (omega arith)

pub block-joined : (f : ℕ → List ℕ) (n j : ℕ) → j < n → ((k : ℕ) → k < n → length (f k) ≡ 16) → block (joined f n) j ≡ f j
unfolding joined
block-joined f zero j low h = absurd (omega arith)
block-joined f (suc n) j low h =
    let long = length-joined f n (λ k less. h k (omega arith)) in
    elim (cases_lt j n) [
      | inl before ↦
          block-append (joined f n) (f n) j (omega arith) ∙ block-joined f n j before (λ k less. h k (omega arith))
      | inr after ↦
          let same : j ≡ n = omega arith in
          rw same (block-behind (joined f n) (f n) n long (h n (omega arith)))
    ]

joined-take : (text : List ℕ) (n : ℕ) → 16 * n ≤ length text → joined (block text) n ≡ take (16 * n) text
unfolding joined
joined-take text zero h = refl
joined-take text (suc n) h =
    let before = joined-take text n (omega arith) in
    let next : 16 * suc n ≡ 16 * n + 16 = omega arith in
    let fronts = sym (take-take (16 * n) (16 * n + 16) text (omega arith)) in
    let backs = sym (drop-take (16 * n) 16 text) in
    ap (λ s. s ++ block text n) before
    ∙ (λ i. fronts i ++ backs i)
    ∙ take-append-drop (16 * n) (take (16 * n + 16) text)
    ∙ ap (λ (k : ℕ). take k text) (sym next)

-- a text of whole blocks is its blocks end to end
pub joined-block : (text : List ℕ) (n : ℕ) → length text ≡ 16 * n → joined (block text) n ≡ text
joined-block text n long = joined-take text n (omega arith) ∙ take_all (16 * n) text (omega arith)
