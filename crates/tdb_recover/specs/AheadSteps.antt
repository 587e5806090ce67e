-- The steps of reading ahead.
use Rattle.std.specs.Prelude.{◌≡◌, ◌+◌, ℕ, List, [], ◌∷◌, Option, Some, None}
use Rattle.sha2.specs.Sha256.{sha256}
use Rattle.tdb_append.specs.Put.{slot_place}
use Rattle.tdb_base.specs.Trace.{ReadPiece}
use Rattle.tdb_mark.specs.declared.commit.Commit.{Commit}
use Rattle.tdb_overlay.specs.declared.recovered.Recovered.{Recovered}
use Rattle.tdb_recover.specs.Ahead.{IsMember}
use Rattle.tdb_recover.specs.declared.ahead.Member.{Member}

-- one read, of these bytes
abbrev pub IsOneRead : ℕ → ℕ → List ℕ → List ReadPiece → Type 0
IsOneRead at size bytes reads = (call : ℕ) × (reads ≡ record { bytes = bytes; place = at; call = call; asked = size } ∷ [])

-- what was found in these bytes: a commit that follows, with the digest of its text, or none
abbrev pub IsFoundIn : List ℕ → Recovered → List ℕ → Option Member → Type 0
IsFoundIn secret log bytes None = (c : Commit) → IsMember secret log bytes c → ⊥
IsFoundIn secret log bytes (Some m) = IsMember secret log bytes m.commit × (m.mark.0 ≡ sha256 bytes)

-- one read, of the next slot, and what was found there
abbrev pub IsFoundBy : List ℕ → Recovered → List ReadPiece → Option Member → Type 0
IsFoundBy secret log reads found = (bytes : List ℕ) × IsOneRead (slot_place (log.head.count + 1)) 256 bytes reads
    × IsFoundIn secret log bytes found
