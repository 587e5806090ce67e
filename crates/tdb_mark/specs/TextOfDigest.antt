-- Which written piece has a digest.
use Rattle.std.specs.Prelude.{ℕ, List, [], ◌∷◌, Option, Some, None, if◌then◌else◌}
use Rattle.std.specs.Str.{bytes_eq}
use Rattle.sha2.specs.Sha256.{sha256}
use Rattle.tdb_base.specs.Trace.{WrittenPiece}

-- the first of them
abbrev pub text_of_digest : List WrittenPiece → List ℕ → Option (List ℕ)
text_of_digest [] d = None
text_of_digest (w ∷ ws) d = if bytes_eq (sha256 w.bytes) d then Some w.bytes else text_of_digest ws d
