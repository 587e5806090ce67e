-- The words for the equivalent inverse cipher (FIPS 197 section 5.3.5).
use Rattle.std.specs.Prelude.{◌≡◌, ℕ, ◌<◌, List}
use Rattle.tdb_aes.specs.KeyExpansion.{round_key}
use Rattle.tdb_aes.specs.MixColumns.{inverse_mix_columns}

-- the round keys of d are those of w, with InvMixColumns on each but the first and the last
pub record IsInverseSchedule (w d : List ℕ) (rounds : ℕ) : Type 0 where
  pub first : round_key d 0 ≡ round_key w 0
  pub last : round_key d rounds ≡ round_key w rounds
  pub between : (n : ℕ) → 0 < n → n < rounds → round_key d n ≡ inverse_mix_columns (round_key w n)
