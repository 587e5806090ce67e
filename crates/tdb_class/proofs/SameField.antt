-- Fields that the order ties are one.
use Rattle.std.proofs.Common.{◌≡◌, ap, sym}
use Rattle.std.specs.declared.cmp.Ordering.TheVariants.{Equal}
use Rattle.std.proofs.lemmas.Cmp.{ranked}
use Rattle.std.proofs.lemmas.Map.Lookups.{exact_bytes}
use Rattle.tdb_class.specs.declared.field.Field.{Field}
use Rattle.tdb_class.specs.declared.field.Field.TheVariants.{Num, Text}
use Rattle.tdb_class.specs.FieldOrder.{field_cmp}

pub same_field : (x y : Field) → field_cmp x y ≡ Equal → x ≡ y
same_field (Num m) (Num n) tied = ap Num (ranked m n Equal (sym tied))
same_field (Num m) (Text t) tied = cc
same_field (Text s) (Num n) tied = cc
same_field (Text s) (Text t) tied = ap Text (exact_bytes s t tied)
