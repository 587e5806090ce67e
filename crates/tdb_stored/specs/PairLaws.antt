-- Entries are in a total order, and the bytes of no entry begin those of another.
use Rattle.std.specs.Prelude.{◌≡◌, ℕ, List, ◌++◌, length, drop}
use Rattle.std.proofs.Common.{sym, ap, ◌∙◌, append_assoc}
use Rattle.std.specs.Int.{w32, to_be_bytes}
use Rattle.std.specs.Cmp.{IsTotalOrder, on_total, then_total, nat_cmp_total}
use Rattle.tdb_base.proofs.SameFields.{same_front, same_u32, same_u64}
use Rattle.tdb_class.specs.declared.field.Field.{Field}
use Rattle.tdb_class.specs.declared.field.Field.TheVariants.{Num, Text}
use Rattle.tdb_class.specs.FieldOrderLaws.{field_cmp_total}
use Rattle.tdb_stored.specs.declared.pair.Pair.{Pair}
use Rattle.tdb_stored.specs.Pair.{pair_cmp, key_bytes, pair_bytes, IsKey, IsPair}

pub pair_cmp_total : IsTotalOrder pair_cmp
pair_cmp_total = then_total (on_total (λ (p : Pair). p.key) field_cmp_total) (on_total (λ (p : Pair). p.id) nat_cmp_total)

same_key : (a b : Field) (x y : List ℕ) → IsKey a → IsKey b → key_bytes a ++ x ≡ key_bytes b ++ y → (a ≡ b) × (x ≡ y)
same_key (Num m) (Num n) x y is_a is_b e =
    let number = same_u64 m n x y is_a is_b (ap (λ (l : List ℕ). drop 1 l) e) in
    (ap Num number.0, number.1)
same_key (Num m) (Text t) x y is_a is_b e = cc
same_key (Text s) (Num n) x y is_a is_b e = cc
same_key (Text s) (Text t) x y is_a is_b e =
    let size : length s ≡ length t = cc in
    let text = same_front s t x y size (ap (λ (l : List ℕ). drop 2 l) e) in
    (ap Text text.0, text.1)

pair_of : Field → ℕ → Pair
pair_of key id = record { key = key; id = id }

pub one_pair : (a b : Pair) (r s : List ℕ) → IsPair a → IsPair b → pair_bytes a ++ r ≡ pair_bytes b ++ s → (a ≡ b) × (r ≡ s)
unfolding pair_of
one_pair a b r s is_a is_b e =
    let key = same_key a.key b.key (to_be_bytes w32 a.id ++ r) (to_be_bytes w32 b.id ++ s) is_a.key is_b.key
    (sym (append_assoc (key_bytes a.key) (to_be_bytes w32 a.id) r) ∙ e ∙ append_assoc (key_bytes b.key) (to_be_bytes w32 b.id) s) in
    let id = same_u32 a.id b.id r s is_a.id is_b.id key.1 in
    let same : pair_of a.key a.id ≡ pair_of b.key b.id = cc (key.0, id.0) in
    (same, id.1)
