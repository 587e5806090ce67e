-- A record's key, and the suite that it is used under.
use Rattle.std.specs.Prelude.{ℕ, List}
use Rattle.tdb_base.specs.declared.suite.Suite.{Suite}

pub record SuiteKey : Type 0 where
  pub suite : Suite
  pub bytes : List ℕ
