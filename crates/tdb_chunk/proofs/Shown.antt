-- A chunk that is read: its record, as the store knows it, and as the device showed it.
use Rattle.std.proofs.Common.{◌≡◌, ◌≢◌, ◌+◌, ℕ, List, [], ◌∷◌, Option, Some, IsTrue, refl, sym, ap, subst}
use Rattle.sha2.specs.Sha256.{sha256}
use Rattle.tdb_base.specs.declared.piece.Damage.{Damage}
use Rattle.tdb_base.specs.declared.piece.Digest.{Digest}
use Rattle.tdb_base.specs.declared.piece.Piece.{Piece}
use Rattle.tdb_base.specs.Trace.{ReadPiece, Trace, WrittenPiece, calls_in, with_read}
use Rattle.tdb_mark.specs.declared.commit.Commit.{Commit}
use Rattle.tdb_mark.specs.Unforged.{IsUnforged}
use Rattle.tdb_platform.specs.Outside.{Outside}
use Rattle.tdb_seal.specs.SealedRecord.{IsSealedRecord}
use Rattle.tdb_seal.proofs.RecordSpelling.{same_plain}
use Rattle.tdb_overlay.specs.Found.{Finds, in_trace}
use Rattle.tdb_overlay.specs.Keys.{partition_key}
use Rattle.tdb_overlay.specs.declared.overlay.Leader.{Leader}
use Rattle.tdb_overlay.proofs.Unmistaken.{read_is_piece, was_read}
use Rattle.tdb_chunk.specs.Reading.{IsDamageOf, name_of}

-- what a fetch tells of a damaged record
pub damage_is : (piece : Piece) (old new : Outside) (damage : Damage) → damage.place ≡ piece.place → damage.expected ≡ piece.digest
    → (IsTrue old.tells → (bytes : List ℕ) × (new.trace ≡ with_read old.trace piece.place.0 piece.length bytes) × (sha256 bytes ≡ damage.found.0) × (damage.found ≢ piece.digest)) → IsDamageOf piece old new damage
damage_is piece old new damage place expected shown = record {
  place = place;
  expected = expected;
  read = λ tells.
      let s = shown tells in
      let one : ReadPiece = record { bytes = s.0; place = piece.place.0; call = calls_in old.trace + 1; asked = piece.length } in (
        record { more = one ∷ []; read = ap (λ (t : Trace). t.read) s.1 },
        record {
          earlier = [];
          last = one;
          later = [];
          in_order = refl;
          of_piece = (refl, refl);
          no_later = tt;
          digest = s.2;
          differs = λ same. s.3 (ap (λ (l : List ℕ). let d : Digest = record { 0 = l } in d) same);
        },
      );
}

-- what was read with the piece's digest is its record
pub read_is : (old new : Trace) (grammar : List ℕ → Option Commit) (piece : Piece) (bytes sealed : List ℕ) → IsUnforged new grammar → new ≡ with_read old piece.place.0 piece.length bytes → in_trace old.written piece sealed → sha256 bytes ≡ piece.digest.0 → bytes ≡ sealed
read_is old new grammar piece bytes sealed unforged wrote found digest =
    read_is_piece new grammar unforged bytes (was_read old new piece.place.0 piece.length bytes wrote) piece sealed
    (subst (λ (ws : List WrittenPiece). in_trace ws piece sealed) (sym (ap (λ (t : Trace). t.written) wrote)) found) digest

-- and the bytes in it are the chunk's
pub opened_is : (key : List ℕ) (leader : Leader) (rank : ℕ) (plain given bytes sealed : List ℕ) → bytes ≡ sealed → IsSealedRecord key (name_of leader rank) plain sealed → IsSealedRecord key (name_of leader rank) given bytes → given ≡ plain
opened_is key leader rank plain given bytes sealed same is found = same_plain key (name_of leader rank) given plain sealed (subst (IsSealedRecord key (name_of leader rank) given) same found) is

-- the chunk that the store knows, with its record
pub record KnownChunk (finds : Finds) (secret : List ℕ) (leader : Leader) (rank : ℕ) (piece : Piece) (chunk : Option (List ℕ)) : Type 0 where
  pub bytes : List ℕ
  pub is_there : chunk ≡ Some bytes
  pub sealed : List ℕ
  pub found : finds piece sealed
  pub opened : IsSealedRecord (partition_key secret leader.home leader.birth) (name_of leader rank) bytes sealed
