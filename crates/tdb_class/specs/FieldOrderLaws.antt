-- The order of fields is a total one.
use Rattle.std.proofs.Common.{◌≡◌, refl}
use Rattle.std.specs.declared.cmp.Ordering.TheVariants.{Less, Equal}
use Rattle.std.specs.Ordering.{ordering_reverse}
use Rattle.std.specs.Cmp.{IsTotalOrder}
use Rattle.std.specs.Cmp.Lexicographic.{nat_list_cmp_total}
use Rattle.std.proofs.lemmas.Cmp.{nat_cmp_total}
use Rattle.tdb_class.specs.declared.field.Field.{Field}
use Rattle.tdb_class.specs.declared.field.Field.TheVariants.{Num, Text}
use Rattle.tdb_class.specs.FieldOrder.{field_cmp}

field_antisymm : (x y : Field) → field_cmp x y ≡ ordering_reverse (field_cmp y x)
field_antisymm (Num m) (Num n) = nat_cmp_total.antisymm m n
field_antisymm (Num m) (Text t) = refl
field_antisymm (Text s) (Num n) = refl
field_antisymm (Text s) (Text t) = nat_list_cmp_total.antisymm s t

field_trans : (x y z : Field) → field_cmp x y ≡ Less → field_cmp y z ≡ Less → field_cmp x z ≡ Less
field_trans (Num l) (Num m) (Num n) p q = nat_cmp_total.trans l m n p q
field_trans (Num l) (Num m) (Text t) p q = refl
field_trans (Num l) (Text s) (Num n) p q = cc
field_trans (Num l) (Text s) (Text t) p q = refl
field_trans (Text r) (Num m) z p q = cc
field_trans (Text r) (Text s) (Num n) p q = cc
field_trans (Text r) (Text s) (Text t) p q = nat_list_cmp_total.trans r s t p q

field_congr : (x y z : Field) → field_cmp x y ≡ Equal → field_cmp x z ≡ field_cmp y z
field_congr (Num l) (Num m) (Num n) p = nat_cmp_total.congr l m n p
field_congr (Num l) (Num m) (Text t) p = refl
field_congr (Num l) (Text s) z p = cc
field_congr (Text r) (Num m) z p = cc
field_congr (Text r) (Text s) (Num n) p = refl
field_congr (Text r) (Text s) (Text t) p = nat_list_cmp_total.congr r s t p

pub field_cmp_total : IsTotalOrder field_cmp
field_cmp_total = record { antisymm = field_antisymm; trans = field_trans; congr = field_congr }
