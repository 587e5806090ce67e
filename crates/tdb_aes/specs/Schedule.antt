-- A prepared key.
use Rattle.std.specs.Prelude.{◌≡◌, ℕ, ◌-◌, List, ◌⊎◌}
use Rattle.tdb_aes.specs.declared.schedule.Schedule.TheInside.{Inside}
use Rattle.tdb_aes.specs.EquivalentInverse.{IsInverseSchedule}
use Rattle.tdb_aes.specs.KeyExpansion.{BeginsWithSchedule, bytes_of_first}

-- the key that was expanded
abbrev pub key_of : Inside → List ℕ
key_of s = bytes_of_first s.encryption (s.rounds - 6)

-- the words are those of the key
pub record IsExpanded (s : Inside) : Type 0 where
  pub size : (s.rounds ≡ 10) ⊎ (s.rounds ≡ 14)
  pub forward : BeginsWithSchedule (key_of s) s.encryption
  pub backward : IsInverseSchedule s.encryption s.decryption s.rounds
