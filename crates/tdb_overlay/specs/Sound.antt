-- What is taken for granted of a platform, under a secret: it tells its trace, in which no two pieces have one digest and no text was
-- forged.
use Rattle.std.specs.Prelude.{ℕ, List, IsTrue}
use Rattle.tdb_mark.specs.CommitText.{commit_key_of, commit_of}
use Rattle.tdb_mark.specs.Unforged.{IsUnforged}
use Rattle.tdb_platform.specs.Outside.{Outside}

pub record IsSound (secret : List ℕ) (o : Outside) : Type 0 where
  pub tells : IsTrue o.tells
  pub unforged : IsUnforged o.trace (commit_of (commit_key_of secret))
