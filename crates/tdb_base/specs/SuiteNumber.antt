-- What stands for a suite in the formats, and in commands.
use Rattle.std.specs.Prelude.{ℕ, ◌==◌, List, codes, Option, Some, None, if◌then◌else◌}
use Rattle.tdb_base.specs.declared.suite.Suite.{Suite}
use Rattle.tdb_base.specs.declared.suite.Suite.TheVariants.{Plain, Aes128, Aes256}

abbrev pub suite_number : Suite → ℕ
suite_number Plain = 0
suite_number Aes128 = 1
suite_number Aes256 = 2

abbrev pub suite_of_number : ℕ → Option Suite
suite_of_number n = if n == 0 then Some Plain else (if n == 1 then Some Aes128 else (if n == 2 then Some Aes256 else None))

abbrev pub suite_word : Suite → List ℕ
suite_word Plain = codes "plain"
suite_word Aes128 = codes "aes128"
suite_word Aes256 = codes "aes256"
