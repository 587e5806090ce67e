-- What a padding determines.
use Rattle.std.proofs.Common.{◌≡◌, ℕ, zero, suc, ◌+◌, ◌-◌, ◌*◌, ◌<◌, ◌≤◌, List, ◌∷◌, ◌++◌, length, take, drop, replicate, get_or, refl, ap, sym, ◌∙◌, arith}
use Rattle.std.proofs.Math.Seq.{drop-append-add}
use Rattle.std.proofs.lemmas.List.{append_assoc, drop_at, get_or-append_right, get_or-drop, get_or-replicate, length-append, length-replicate, length-take-le, take_at, take-append-drop}
use Rattle.tdb_aes.proofs.Sixteen.{drop-elements_from, elements_from}
use Rattle.tdb_cbc.specs.LastBlock.{EndsInPadding}
use Rattle.tdb_cbc.specs.Padding.{padded, padding_length}

-- ---- the end of a block

elements_from-replicate : (s : List ℕ) (i n x : ℕ) → ((k : ℕ) → i ≤ k → k < i + n → get_or s k 0 ≡ x) → elements_from s i n ≡ replicate n x
elements_from-replicate s i zero x h = refl
elements_from-replicate s i (suc n) x h =
    let first = h i (omega arith) (omega arith) in
    let others = elements_from-replicate s (suc i) n x (λ k low high. h k (omega arith) (omega arith)) in
    λ j. first j ∷ others j

pub ends_from : (block : List ℕ) (n : ℕ) → length block ≡ 16 → 1 ≤ n → n ≤ 16
    → ((k : ℕ) → 16 - n ≤ k → k < 16 → get_or block k 0 ≡ n) → EndsInPadding block n
ends_from block n long some within each = record {
  some = some;
  within = within;
  bytes = drop-elements_from block (16 - n) n (omega arith)
      ∙ elements_from-replicate block (16 - n) n n (λ k low high. each k low (omega arith));
}

pub ends_at : (block : List ℕ) (n k : ℕ) → EndsInPadding block n → 16 - n ≤ k → k < 16 → get_or block k 0 ≡ n
ends_at block n k h low high =
    let some = h.some in
    let within = h.within in
    let place : k ≡ 16 - n + (k - (16 - n)) = omega arith in
    ap (λ (j : ℕ). get_or block j 0) place
    ∙ sym (get_or-drop (16 - n) block (k - (16 - n)) 0)
    ∙ ap (λ l. get_or l (k - (16 - n)) 0) h.bytes
    ∙ get_or-replicate n (k - (16 - n)) n 0 (omega arith)

-- the last byte says how long the padding is
pub ends_last : (block : List ℕ) (n : ℕ) → EndsInPadding block n → get_or block 15 0 ≡ n
ends_last block n h =
    let some = h.some in
    ends_at block n 15 h (omega arith) (omega arith)

-- ---- a padded text

pub padding_length-bounds : (text : List ℕ) → (1 ≤ padding_length text) × (padding_length text ≤ 16)
padding_length-bounds text = (omega arith, omega arith)

pub length-padded : (text : List ℕ) → length (padded text) ≡ length text + padding_length text
unfolding padded
length-padded text =
    length-append text (replicate (padding_length text) (padding_length text))
    ∙ ap (λ (n : ℕ). length text + n) (length-replicate (padding_length text) (padding_length text))

last-padded : (text : List ℕ) → get_or (padded text) (length (padded text) - 1) 0 ≡ padding_length text
unfolding padded
last-padded text =
    let p : ℕ = padding_length text in
    let long = length-padded text in
    get_or-append_right text (replicate p p) (length text) (length (padded text) - 1) 0 refl (omega arith)
    ∙ get_or-replicate p (length (padded text) - 1 - length text) p 0 (omega arith)

pub take-padded : (text : List ℕ) → take (length text) (padded text) ≡ text
unfolding padded
take-padded text = take_at text (replicate (padding_length text) (padding_length text)) (length text) refl

-- two texts with one padded form are one
pub padded-injective : (s t : List ℕ) → padded s ≡ padded t → s ≡ t
padded-injective s t e =
    let long_s = length-padded s in
    let long_t = length-padded t in
    let longs = ap length e in
    let pads : padding_length s ≡ padding_length t =
    sym (last-padded s) ∙ (λ i. get_or (e i) (length (e i) - 1) 0) ∙ last-padded t in
    let lengths : length s ≡ length t = omega arith in
    sym (take-padded s) ∙ (λ i. take (lengths i) (e i)) ∙ take-padded t

-- ---- a text of whole blocks and a last one

-- without the padding at its end, the text has it again when it is padded
pub padded-cut : (front end : List ℕ) (m n : ℕ) → length front ≡ 16 * m → length end ≡ 16 → EndsInPadding end n
    → padded (front ++ take (16 - n) end) ≡ front ++ end
unfolding padded
padded-cut front end m n lf le h =
    let some = h.some in
    let within = h.within in
    let cut : List ℕ = take (16 - n) end in
    let short : length cut ≡ 16 - n = length-take-le (16 - n) end (omega arith) in
    let long = length-append front cut in
    let pad : padding_length (front ++ cut) ≡ n = omega arith in
    ap (λ (k : ℕ). (front ++ cut) ++ replicate k k) pad
    ∙ ap (λ l. (front ++ cut) ++ l) (sym h.bytes)
    ∙ append_assoc front cut (drop (16 - n) end)
    ∙ ap (λ l. front ++ l) (take-append-drop (16 - n) end)

-- a padded text of whole blocks ends in a padding
pub padded-ends : (text front end : List ℕ) (m : ℕ) → length front ≡ 16 * m → length end ≡ 16 → front ++ end ≡ padded text
    → EndsInPadding end (padding_length text)
unfolding padded
padded-ends text front end m lf le e =
    let p : ℕ = padding_length text in
    let some : 1 ≤ p = (padding_length-bounds text).0 in
    let within : p ≤ 16 = (padding_length-bounds text).1 in
    let longs = sym (length-append front end) ∙ ap length e ∙ length-padded text in
    let place : length front + (16 - p) ≡ length text = omega arith in
    record {
      some = some;
      within = within;
      bytes =
          sym (drop-append-add front end (16 - p))
          ∙ (λ i. drop (place i) (e i))
          ∙ drop_at text (replicate p p) (length text) refl;
    }
