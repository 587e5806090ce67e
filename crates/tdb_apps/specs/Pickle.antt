-- The pickle of an object: its class, the version of that class, and what it holds.
use Rattle.std.specs.Prelude.{◌≡◌, ℕ, List, ◌++◌, take, drop}
use Rattle.std.specs.Int.{w32, w64, to_be_bytes}
use Rattle.tdb_class.specs.TextBytes.{text_bytes}
use Rattle.tdb_apps.specs.Objects.{IsNote, IsAccount, IsLicence}
use Rattle.tdb_apps.specs.declared.app.App.{App}
use Rattle.tdb_apps.specs.declared.app.App.TheVariants.{Note, Account, Licence}

-- the number of the object's class
abbrev pub app_class : App → ℕ
app_class (Note text) = 1
app_class (Account account) = 2
app_class (Licence licence) = 3

-- the fields of the object are in range
abbrev pub IsApp : App → Type 0
IsApp (Note text) = IsNote text
IsApp (Account account) = IsAccount account
IsApp (Licence licence) = IsLicence licence

-- what stands behind the class and the version; numbers are big-endian, and a text stands behind its length
abbrev pub body_bytes : App → List ℕ
body_bytes (Note text) = text_bytes text
body_bytes (Account account) = text_bytes account.owner ++ to_be_bytes w64 account.balance
body_bytes (Licence licence) = text_bytes licence.title ++ to_be_bytes w32 licence.limit ++ to_be_bytes w32 licence.played

-- version 1 of each class is its newest
abbrev pub app_pickle : App → List ℕ
app_pickle object = to_be_bytes w32 (app_class object) ++ to_be_bytes w32 1 ++ body_bytes object

-- the bytes stand for the object
pub record ReadsAs (bytes : List ℕ) (object : App) : Type 0 where
  pub in_range : IsApp object
  pub spelled : bytes ≡ app_pickle object

-- the version that stands behind the class is the newest one of that class
abbrev pub IsNewest : List ℕ → Type 0
IsNewest bytes = take 4 (drop 4 bytes) ≡ to_be_bytes w32 1
