-- What the records of a store are called.
use Rattle.tdb_base.specs.declared.suite.Suite.{Suite}
use Rattle.tdb_seal.specs.declared.record.Name.{Name}

-- the segment table of a checkpoint
abbrev pub table_name : Suite → Name
table_name suite = record { kind = 4; suite = suite; home = 0; rank = 0 }

-- the list of changes of a commit
abbrev pub list_name : Suite → Name
list_name suite = record { kind = 5; suite = suite; home = 0; rank = 0 }
