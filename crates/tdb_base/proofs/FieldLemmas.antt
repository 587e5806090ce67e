-- The fields of a text that is written one behind another. Give the text as what stands in front, and prove what stands at each place.
use Rattle.std.proofs.Common.{◌≡◌, ℕ, ◌+◌, ◌-◌, ◌<◌, ◌≤◌, ◌^◌, ◌==◌, cond, lit<, List, [], ◌++◌, length, take, drop, replicate, Option, Some, None, IfSome, refl, sym, ◌∙◌, ap, append_assoc, append-nil, length-append, arith}
use Rattle.std.specs.Int.{w32, w64, to_be_bytes, from_be_bytes}
use Rattle.std.proofs.lemmas.Nat.{from_be_bytes-to_be_bytes_4, from_be_bytes-to_be_bytes_8}
use Rattle.std.proofs.lemmas.List.{take_at, drop_at, drop-drop}
use Rattle.tdb_base.specs.declared.piece.Piece.{Piece}
use Rattle.tdb_base.specs.PieceBytes.{IsPieceValue, piece_bytes, entry_bytes, piece_from, entry_from}

-- the text begins with these bytes
pub record Begins (text front : List ℕ) : Type 0 where
  pub rest : List ℕ
  pub is : text ≡ front ++ rest

pub begins_whole : (text : List ℕ) → Begins text text
begins_whole text = record { rest = []; is = sym (append-nil text) }

-- what begins with a front and a field begins with the front
pub begins_before : (text front field : List ℕ) → Begins text (front ++ field) → Begins text front
begins_before text front field b = record { rest = field ++ b.rest; is = b.is ∙ append_assoc front field b.rest }

-- the field stands behind the front
pub field_at : (text front field : List ℕ) (at n : ℕ) → Begins text (front ++ field) → length front ≡ at → length field ≡ n → take n (drop at text) ≡ field
field_at text front field at n b here long =
    ap (λ (t : List ℕ). take n (drop at t)) (b.is ∙ append_assoc front field b.rest)
    ∙ ap (λ (t : List ℕ). take n t) (drop_at front (field ++ b.rest) at here)
    ∙ take_at field b.rest n long

pub u32_again : (text front : List ℕ) (at n : ℕ) → Begins text (front ++ to_be_bytes w32 n) → length front ≡ at → n < 2 ^ 32 → from_be_bytes w32 (take 4 (drop at text)) ≡ n
u32_again text front at n b here small =
    ap (λ (l : List ℕ). from_be_bytes w32 l) (field_at text front (to_be_bytes w32 n) at 4 b here refl) ∙ from_be_bytes-to_be_bytes_4 n small

pub u64_again : (text front : List ℕ) (at n : ℕ) → Begins text (front ++ to_be_bytes w64 n) → length front ≡ at → n < 2 ^ 64 → from_be_bytes w64 (take 8 (drop at text)) ≡ n
u64_again text front at n b here small =
    ap (λ (l : List ℕ). from_be_bytes w64 l) (field_at text front (to_be_bytes w64 n) at 8 b here refl) ∙ from_be_bytes-to_be_bytes_8 n small

pub length_more : (front field : List ℕ) (at n : ℕ) → length front ≡ at → length field ≡ n → length (front ++ field) ≡ at + n
length_more front field at n e h = omega (arith, length-append front field)

piece_is : (place long : ℕ) (digest : List ℕ) (p : Piece) → place ≡ p.place.0 → long ≡ p.length → digest ≡ p.digest.0
    → ◌≡◌ {A = Piece} (record { place = record { 0 = place }; length = long; digest = record { 0 = digest } }) p
piece_is place long digest p e f g =
    ap (λ (x : ℕ). let q : Piece = record { place = record { 0 = x }; length = long; digest = record { 0 = digest } } in q) e
    ∙ ap (λ (x : ℕ). let q : Piece = record { place = p.place; length = x; digest = record { 0 = digest } } in q) f
    ∙ ap (λ (x : List ℕ). let q : Piece = record { place = p.place; length = p.length; digest = record { 0 = x } } in q) g

-- the piece that is read where one was written
pub piece_again : (text front : List ℕ) (at : ℕ) (p : Piece) → Begins text (front ++ piece_bytes p) → length front ≡ at → IsPieceValue p → piece_from text at ≡ p
piece_again text front at p b here is =
    let size = to_be_bytes w32 p.length in
    let place = to_be_bytes w64 p.place.0 in
    let whole : Begins text (((front ++ size) ++ place) ++ p.digest.0) =
    record { rest = b.rest; is = b.is ∙ ap (λ (t : List ℕ). t ++ b.rest) (sym (append_assoc (front ++ size) place p.digest.0 ∙ append_assoc front size (place ++ p.digest.0) ∙ ap (λ (t : List ℕ). front ++ t) (sym (append_assoc size place p.digest.0)))) } in
    let at_place = begins_before text ((front ++ size) ++ place) p.digest.0 whole in
    let at_size = begins_before text (front ++ size) place at_place in
    let four = length_more front size at 4 here refl in
    let twelve : length ((front ++ size) ++ place) ≡ at + 12 = omega (arith, length_more (front ++ size) place (at + 4) 8 four refl) in
    piece_is _ _ _ p
    (u64_again text (front ++ size) (at + 4) p.place.0 at_place four is.place)
    (u32_again text front at p.length at_size here is.size)
    (field_at text ((front ++ size) ++ place) p.digest.0 (at + 12) 32 whole twelve is.digest)

begins_regroup : (text front field more : List ℕ) → Begins text (front ++ (field ++ more)) → Begins text ((front ++ field) ++ more)
begins_regroup text front field more b = record { rest = b.rest; is = b.is ∙ ap (λ (t : List ℕ). t ++ b.rest) (sym (append_assoc front field more)) }

-- the entry that is read where one was written
pub entry_again : (text front : List ℕ) (at : ℕ) (o : Option Piece) → Begins text (front ++ entry_bytes o) → length front ≡ at → IfSome o IsPieceValue → entry_from text at ≡ o
entry_again text front at None b here is =
    let zeros = begins_regroup text front (to_be_bytes w32 0) (replicate 44 0) b in
    let tag = u32_again text front at 0 (begins_before text (front ++ to_be_bytes w32 0) (replicate 44 0) zeros) here (lit< tt) in
    ap (λ (n : ℕ). cond (n == 1) (Some (piece_from text (at + 4))) None) tag
entry_again text front at (Some p) b here is =
    let one = begins_regroup text front (to_be_bytes w32 1) (piece_bytes p) b in
    let tag = u32_again text front at 1 (begins_before text (front ++ to_be_bytes w32 1) (piece_bytes p) one) here (lit< tt) in
    let piece = piece_again text (front ++ to_be_bytes w32 1) (at + 4) p one (length_more front (to_be_bytes w32 1) at 4 here refl) is in
    ap (λ (n : ℕ). cond (n == 1) (Some (piece_from text (at + 4))) None) tag ∙ ap (λ (q : Piece). Some q) piece

-- what is alike from one place on is alike from a later one on
pub drop_alike : (i k : ℕ) (s t : List ℕ) → i ≤ k → drop i s ≡ drop i t → drop k s ≡ drop k t
drop_alike i k s t le alike =
    let far : k ≡ i + (k - i) = omega arith in
    ap (λ (n : ℕ). drop n s) far ∙ sym (drop-drop (k - i) i s) ∙ ap (λ (l : List ℕ). drop (k - i) l) alike ∙ drop-drop (k - i) i t ∙ ap (λ (n : ℕ). drop n t) (sym far)

pub length-piece_bytes : (p : Piece) → IsPieceValue p → length (piece_bytes p) ≡ 44
length-piece_bytes p is = length_more (to_be_bytes w32 p.length ++ to_be_bytes w64 p.place.0) p.digest.0 12 32 refl is.digest

pub length-entry_bytes : (o : Option Piece) → IfSome o IsPieceValue → length (entry_bytes o) ≡ 48
length-entry_bytes None is = refl
length-entry_bytes (Some p) is = length_more (to_be_bytes w32 1) (piece_bytes p) 4 44 refl (length-piece_bytes p is)
