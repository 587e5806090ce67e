-- An entry of an index: its order, and its bytes.
use Rattle.std.specs.Prelude.{ℕ, ◌^◌, ◌<◌, ◌≤◌, List, ◌∷◌, ◌++◌, length}
use Rattle.std.specs.Int.{w32, w64, to_be_bytes}
use Rattle.std.specs.declared.cmp.Ordering.{Ordering}
use Rattle.std.specs.Ordering.{nat_cmp, ordering_then}
use Rattle.tdb_class.specs.declared.field.Field.{Field}
use Rattle.tdb_class.specs.declared.field.Field.TheVariants.{Num, Text}
use Rattle.tdb_class.specs.FieldOrder.{field_cmp}
use Rattle.tdb_stored.specs.declared.pair.Pair.{Pair}

-- by key and then by id
abbrev pub pair_cmp : Pair → Pair → Ordering
pair_cmp a b = ordering_then (field_cmp a.key b.key) (nat_cmp a.id b.id)

-- the byte 0 and a number in eight bytes, or the byte 1, a byte with the length, and a text
abbrev pub key_bytes : Field → List ℕ
key_bytes (Num number) = 0 ∷ to_be_bytes w64 number
key_bytes (Text text) = 1 ∷ length text ∷ text

-- what each key meets
abbrev pub IsKey : Field → Type 0
IsKey (Num number) = number < 2 ^ 64
IsKey (Text text) = length text ≤ 32

-- a key, and an id in four bytes
abbrev pub pair_bytes : Pair → List ℕ
pair_bytes pair = key_bytes pair.key ++ to_be_bytes w32 pair.id

-- what each entry meets
pub record IsPair (pair : Pair) : Type 0 where
  pub key : IsKey pair.key
  pub id : pair.id < 2 ^ 32
