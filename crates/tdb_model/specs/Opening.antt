-- The commit with which a database begins.
use Rattle.std.specs.Prelude.{List, [], ◌∷◌}
use Rattle.tdb_base.specs.declared.suite.Suite.{Suite}
use Rattle.tdb_model.specs.declared.change.Change.{Change}
use Rattle.tdb_model.specs.declared.change.Change.TheVariants.{Make}

-- It makes partitions 1 and 2, in the suite of the store.
abbrev pub opening_changes : Suite → List Change
opening_changes suite = Make (record { 0 = 1 }) suite ∷ Make (record { 0 = 2 }) suite ∷ []
