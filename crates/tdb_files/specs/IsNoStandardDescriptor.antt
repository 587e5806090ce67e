-- Descriptors 0, 1 and 2 are standard input, output and errors. A file of the database is none of them.
use Rattle.std.specs.Prelude.{pos, ◌<ℤ◌}
use Rattle.std.specs.Fd.{file_raw_fd}
use Rattle.std.specs.declared.fs.File.{File}

abbrev pub IsNoStandardDescriptor : File → Type 0
IsNoStandardDescriptor file = pos 2 <ℤ file_raw_fd file
