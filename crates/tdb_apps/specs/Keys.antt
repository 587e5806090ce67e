-- The fields of each class, and their values in an object.
use Rattle.std.specs.Prelude.{ℕ, ◌==◌, List, take, Option, Some, None, if◌then◌else◌}
use Rattle.tdb_class.specs.declared.field.Field.{Field}
use Rattle.tdb_class.specs.declared.field.Field.TheVariants as field
use Rattle.tdb_class.specs.declared.field.FieldKind.{FieldKind}
use Rattle.tdb_class.specs.declared.field.FieldKind.TheVariants as kind
use Rattle.tdb_apps.specs.Objects.{AccountFields, LicenceFields}
use Rattle.tdb_apps.specs.declared.app.App.{App}
use Rattle.tdb_apps.specs.declared.app.App.TheVariants.{Note, Account, Licence}

-- a note has the first 32 bytes of its text
abbrev pub note_key : List ℕ → ℕ → Option Field
note_key text number = if number == 0 then Some (field.Text (take 32 text)) else None

-- an account has its owner and its balance
abbrev pub account_key : AccountFields → ℕ → Option Field
account_key account number =
    if number == 0 then Some (field.Text account.owner) else (if number == 1 then Some (field.Num account.balance) else None)

-- a licence has its title, its limit, and how often it was played
abbrev pub licence_key : LicenceFields → ℕ → Option Field
licence_key licence number =
    if number == 0 then Some (field.Text licence.title)
    else (if number == 1 then Some (field.Num licence.limit) else (if number == 2 then Some (field.Num licence.played) else None))

abbrev pub app_key : App → ℕ → Option Field
app_key (Note text) number = note_key text number
app_key (Account account) number = account_key account number
app_key (Licence licence) number = licence_key licence number

-- the first field of each class is a text, and each further one a number
abbrev pub app_field_kind : ℕ → ℕ → Option FieldKind
app_field_kind class number =
    if class == 1 then (if number == 0 then Some kind.Text else None)
    else (if class == 2 then (if number == 0 then Some kind.Text else (if number == 1 then Some kind.Num else None))
    else (if class == 3 then
    (if number == 0 then Some kind.Text else (if number == 1 then Some kind.Num else (if number == 2 then Some kind.Num else None)))
    else None))
