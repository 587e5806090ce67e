-- What a reply that wasn't put whole leaves.
use Rattle.std.specs.Prelude.{◌≡◌, ℕ, List, IsTrue}
use Rattle.tdb_base.specs.Rose.{Rose}
use Rattle.tdb_stream.specs.AddsPrefix.{AddsPrefix}
use Rattle.tdb_stream.specs.SinkContent.{SinkContent}
use Rattle.tdb_serve.specs.declared.script_end.NotPut.{NotPut}
use Rattle.tdb_serve.specs.declared.script_end.NotPut.TheVariants.{NoMemory, SinkFailed}

abbrev pub IsPutFor : List ℕ → SinkContent → SinkContent → NotPut → Type 0
IsPutFor piece before after NoMemory = (IsTrue before.tells → after.held ≡ before.held) × (after.faults ≡ before.faults)
IsPutFor piece before after SinkFailed = (IsTrue before.tells → AddsPrefix piece before.held after.held) × Rose before.faults after.faults
