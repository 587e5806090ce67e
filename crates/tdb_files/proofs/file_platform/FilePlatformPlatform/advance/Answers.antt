use Rattle.std.proofs.Common.{inl, refl}
use Rattle.tdb_files.proofs.file_platform.FilePlatformPlatform.advance.Goals as goal

-- whatever a stop may leave, it might have left before
pub returns-clause-now : goal.returns-clause-now
returns-clause-now c image anchor left = (anchor, tt, inl refl)
