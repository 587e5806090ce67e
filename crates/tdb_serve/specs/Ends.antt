-- How a script ends, by what halts it.
use Rattle.tdb_serve.specs.declared.script_end.Halt.{Halt}
use Rattle.tdb_serve.specs.declared.script_end.Halt.TheVariants.{Out, Stopped, Cut}
use Rattle.tdb_serve.specs.declared.script_end.NoLine.TheVariants.{NoMore, SourceFailed}
use Rattle.tdb_serve.specs.declared.script_end.NotPut.TheVariants.{NoMemory, SinkFailed}
use Rattle.tdb_serve.specs.declared.script_end.ScriptEnd.{ScriptEnd}
use Rattle.tdb_serve.specs.declared.script_end.ScriptEnd.TheVariants.{End, SourceFault, SinkFault, PlatformFault, Memory}
use Rattle.tdb_serve.specs.declared.script_end.Stop.TheVariants as stops

abbrev pub end_of : Halt → ScriptEnd
end_of (Out NoMore) = End
end_of (Out SourceFailed) = SourceFault
end_of (Stopped stops.PlatformFault) = PlatformFault
end_of (Stopped stops.Memory) = Memory
end_of (Cut NoMemory) = Memory
end_of (Cut SinkFailed) = SinkFault
