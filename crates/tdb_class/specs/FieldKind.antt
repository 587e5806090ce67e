-- Whether a field is a number or a text.
use Rattle.tdb_class.specs.declared.field.Field.{Field}
use Rattle.tdb_class.specs.declared.field.Field.TheVariants as field
use Rattle.tdb_class.specs.declared.field.FieldKind.{FieldKind}
use Rattle.tdb_class.specs.declared.field.FieldKind.TheVariants as kind

abbrev pub kind_of_field : Field → FieldKind
kind_of_field (field.Num n) = kind.Num
kind_of_field (field.Text t) = kind.Text
