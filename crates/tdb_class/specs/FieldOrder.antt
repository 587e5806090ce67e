-- The order of fields: numbers before texts, numbers by value, texts by bytes.
use Rattle.std.specs.declared.cmp.Ordering.{Ordering}
use Rattle.std.specs.declared.cmp.Ordering.TheVariants.{Less, Greater}
use Rattle.std.specs.Ordering.{nat_cmp}
use Rattle.std.specs.Cmp.Lexicographic.{slice_cmp}
use Rattle.tdb_class.specs.declared.field.Field.{Field}
use Rattle.tdb_class.specs.declared.field.Field.TheVariants.{Num, Text}

abbrev pub field_cmp : Field → Field → Ordering
field_cmp (Num m) (Num n) = nat_cmp m n
field_cmp (Num m) (Text t) = Less
field_cmp (Text s) (Num n) = Greater
field_cmp (Text s) (Text t) = slice_cmp nat_cmp s t
