-- What the objects of each class are.
use Rattle.std.specs.Prelude.{ℕ, ◌^◌, ◌<◌, ◌≤◌, List, length, All}
use Rattle.tdb_class.specs.Word.{IsWord}

-- one printable ASCII character, a space among them
abbrev pub IsPrintable : ℕ → Type 0
IsPrintable byte = (0x20 ≤ byte) × (byte ≤ 0x7e)

-- a note is a text of 1 to 2,000 printable characters
abbrev pub IsNote : List ℕ → Type 0
IsNote text = (1 ≤ length text) × (length text ≤ 2000) × All IsPrintable text

pub record AccountFields : Type 0 where
  pub owner : List ℕ
  pub balance : ℕ

pub record IsAccount (account : AccountFields) : Type 0 where
  pub owner : IsWord account.owner
  pub balance : account.balance < 2 ^ 64

pub record LicenceFields : Type 0 where
  pub title : List ℕ
  pub limit : ℕ
  pub played : ℕ

-- no more was played than the limit allows
pub record IsLicence (licence : LicenceFields) : Type 0 where
  pub title : IsWord licence.title
  pub limit : licence.limit < 2 ^ 32
  pub played : licence.played ≤ licence.limit
