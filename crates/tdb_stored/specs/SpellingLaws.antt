-- Items of which none begins another, one after another, are one list of items.
use Rattle.std.specs.Prelude.{◌≡◌, ℕ, ◌<◌, ◌^◌, List, [], ◌∷◌, ◌++◌, length}
use Rattle.std.proofs.Common.{refl, sym, ◌∙◌, arith, append_assoc}
use Rattle.std.specs.List.{flat_map, AllByRecursion}
use Rattle.std.specs.Int.{w32, to_be_bytes}
use Rattle.tdb_base.proofs.SameFields.{same_u32}
use Rattle.tdb_stored.specs.Spelling.{counted_bytes, IsList}

pub one_rank : (x y : ℕ) (r s : List ℕ) → x < 2 ^ 32 → y < 2 ^ 32 → to_be_bytes w32 x ++ r ≡ to_be_bytes w32 y ++ s → (x ≡ y) × (r ≡ s)
one_rank = same_u32

-- one item stands at the front of bytes
pub record IsPrefixFree {T : Type 0} (IsItem : T → Type 0) (spelling : T → List ℕ) : Type 0 where
  pub one : (x y : T) (r s : List ℕ) → IsItem x → IsItem y → spelling x ++ r ≡ spelling y ++ s → (x ≡ y) × (r ≡ s)

module _ {T : Type 0} {IsItem : T → Type 0} {spelling : T → List ℕ} (free : IsPrefixFree IsItem spelling) where
  apart : (x y : T) (xs ys : List T) (r s : List ℕ) → IsItem x → IsItem y
      → flat_map spelling (x ∷ xs) ++ r ≡ flat_map spelling (y ∷ ys) ++ s
      → (x ≡ y) × (flat_map spelling xs ++ r ≡ flat_map spelling ys ++ s)
  apart x y xs ys r s is_x is_y e =
      free.one x y (flat_map spelling xs ++ r) (flat_map spelling ys ++ s) is_x is_y
      (sym (append_assoc (spelling x) (flat_map spelling xs) r) ∙ e ∙ append_assoc (spelling y) (flat_map spelling ys) s)

  pub same_items : (xs ys : List T) (r s : List ℕ) → AllByRecursion IsItem xs → AllByRecursion IsItem ys → length xs ≡ length ys
      → flat_map spelling xs ++ r ≡ flat_map spelling ys ++ s → (xs ≡ ys) × (r ≡ s)
  same_items [] [] r s is_xs is_ys same e = (refl, e)
  same_items [] (y ∷ ys) r s is_xs is_ys same e = absurd (omega arith)
  same_items (x ∷ xs) [] r s is_xs is_ys same e = absurd (omega arith)
  same_items (x ∷ xs) (y ∷ ys) r s is_xs is_ys same e =
      let first = apart x y xs ys r s is_xs.0 is_ys.0 e in
      let rest = same_items xs ys r s is_xs.1 is_ys.1 (omega arith) first.1 in
      (cc (first.0, rest.0), rest.1)

  -- where fewer items were taken than there are, one more stands there
  pub next_item : (done ys : List T) (rest s : List ℕ) → AllByRecursion IsItem done → AllByRecursion IsItem ys → length done < length ys
      → flat_map spelling done ++ rest ≡ flat_map spelling ys ++ s → (y : T) × (tail : List ℕ) × IsItem y × (rest ≡ spelling y ++ tail)
  next_item [] [] rest s is_done is_ys fewer e = absurd (omega arith)
  next_item [] (y ∷ ys) rest s is_done is_ys fewer e =
      (y, flat_map spelling ys ++ s, is_ys.0, e ∙ append_assoc (spelling y) (flat_map spelling ys) s)
  next_item (x ∷ xs) [] rest s is_done is_ys fewer e = absurd (omega arith)
  next_item (x ∷ xs) (y ∷ ys) rest s is_done is_ys fewer e =
      next_item xs ys rest s is_done.1 is_ys.1 (omega arith) (apart x y xs ys rest s is_done.0 is_ys.0 e).1

  -- one list stands behind its number
  pub same_counted : (limit : ℕ) (xs ys : List T) (r s : List ℕ) → limit < 2 ^ 32 → IsList IsItem limit xs → IsList IsItem limit ys
      → counted_bytes spelling xs ++ r ≡ counted_bytes spelling ys ++ s → (xs ≡ ys) × (r ≡ s)
  same_counted limit xs ys r s fits is_xs is_ys e =
      let count = same_u32 (length xs) (length ys) (flat_map spelling xs ++ r) (flat_map spelling ys ++ s)
      (omega (arith, is_xs.1)) (omega (arith, is_ys.1)) e in
      same_items xs ys r s is_xs.0 is_ys.0 count.0 count.1
