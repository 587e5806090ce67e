-- The text that the anchor names, as the first read of an opening shows it.
use Rattle.std.specs.Prelude.{◌≡◌, ◌∷◌, ◌++◌, List, ℕ, Some}
use Rattle.sha2.specs.Sha256.{sha256}
use Rattle.tdb_append.specs.Put.{slot_place}
use Rattle.tdb_base.specs.Trace.{ReadPiece}
use Rattle.tdb_mark.specs.declared.commit.Commit.{Commit}
use Rattle.tdb_mark.specs.CommitText.{commit_key_of, commit_of}
use Rattle.tdb_platform.specs.Outside.{Anchor, Outside}

-- It has the anchor's mark and count, and was written under the secret: it is accepted under its commit key.
pub record HasFirstText (secret : List ℕ) (anchor : Anchor) (old new : Outside) : Type 0 where
  pub first : ReadPiece
  pub later : List ReadPiece
  pub in_order : new.trace.read ≡ old.trace.read ++ first ∷ later
  pub place : first.place ≡ slot_place anchor.0
  pub mark : sha256 first.bytes ≡ anchor.1
  pub commit : Commit
  pub accepted : commit_of (commit_key_of secret) first.bytes ≡ Some commit
  pub count : commit.count ≡ anchor.0
