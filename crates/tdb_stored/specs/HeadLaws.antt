-- The bytes of no index in a head begin those of another.
use Rattle.std.specs.Prelude.{◌≡◌, ℕ, List, ◌++◌}
use Rattle.tdb_base.proofs.SameFields.{same_u32}
use Rattle.tdb_stored.specs.Head.{indexed_bytes, IsIndexed}
use Rattle.tdb_stored.specs.declared.head.Indexed.{Indexed}

indexed_of : ℕ → ℕ → ℕ → ℕ → Indexed
indexed_of number field kind root = record { number = number; field = field; kind = kind; root = root }

pub one_indexed : (a b : Indexed) (r s : List ℕ) → IsIndexed a → IsIndexed b → indexed_bytes a ++ r ≡ indexed_bytes b ++ s
    → (a ≡ b) × (r ≡ s)
unfolding indexed_of
one_indexed a b r s is_a is_b e =
    let number = same_u32 a.number b.number _ _ is_a.number is_b.number e in
    let field = same_u32 a.field b.field _ _ is_a.field is_b.field number.1 in
    let kind = same_u32 a.kind b.kind _ _ is_a.kind is_b.kind field.1 in
    let root = same_u32 a.root b.root r s is_a.root is_b.root kind.1 in
    let same : indexed_of a.number a.field a.kind a.root ≡ indexed_of b.number b.field b.kind b.root =
    cc (number.0, field.0, kind.0, root.0) in
    (same, root.1)
