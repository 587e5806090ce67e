-- Why an update failed, put together from why its steps did.
use Rattle.std.proofs.Common.{◌≡◌, ℕ, ◌+◌, ◌/◌, ◌^◌, ◌<◌, nat_eq, Bool, true, false, cond, [], ◌∷◌, Option, None, Some, Err, refl, arith}
use Rattle.std.proofs.lemmas.Bool.Decides.{nat_tests}
use Rattle.std.specs.Map.{lookup}
use Rattle.tdb_base.specs.declared.piece.Piece.{Piece}
use Rattle.tdb_base.specs.declared.piece.Place.{Place}
use Rattle.tdb_base.specs.declared.piece.NoRoom.{NoRoom}
use Rattle.tdb_seg.specs.SegmentSpace.{SegmentSpace, placed, place_in, next_place}
use Rattle.tdb_map.specs.declared.pieces.PieceError.{PieceError}
use Rattle.tdb_map.specs.declared.pieces.PieceError.TheVariants as piece_error
use Rattle.tdb_map.specs.declared.layer.UpdateError.{UpdateError}
use Rattle.tdb_map.specs.declared.layer.UpdateError.TheVariants as errors
use Rattle.tdb_map.specs.Edits.{Edits, HasEdit, edits_in, is_within}
use Rattle.tdb_map.specs.UpdateCause.{update_error, IsUpdateCause}
use Rattle.tdb_map.proofs.NumberLemmas.{within_of}

pub cause_of : (full : NoRoom → Type 0) (cause : PieceError → Type 0) (error : PieceError) → cause error → IsUpdateCause full cause (update_error error)
cause_of full cause (piece_error.Tampered damage) h = (λ e. absurd (cc e), h)
cause_of full cause (piece_error.Form place) h = (λ e. absurd (cc e), h)
cause_of full cause piece_error.Fault h = (λ e. absurd (cc e), h)
cause_of full cause piece_error.Memory h = tt

pub cause_more : (full : NoRoom → Type 0) (some more : PieceError → Type 0) → ((e : PieceError) → some e → more e) → (e : UpdateError) → IsUpdateCause full some e → IsUpdateCause full more e
cause_more full some more f (errors.Piece e) h = (h.0, f e h.1)
cause_more full some more f (errors.Room refusal) h = h
cause_more full some more f errors.Memory h = h

pub full_more : (some more : NoRoom → Type 0) (cause : PieceError → Type 0) → ((e : NoRoom) → some e → more e) → (e : UpdateError) → IsUpdateCause some cause e → IsUpdateCause more cause e
full_more some more cause f (errors.Piece e) h = h
full_more some more cause f (errors.Room refusal) h = f refusal h
full_more some more cause f errors.Memory h = h

need_of : (space : SegmentSpace) (n : ℕ) (place : Option Place) (refusal : NoRoom) → placed space n place ≡ Err refusal → refusal.need ≡ n
need_of space n None refusal h = cc h
need_of space n (Some place) refusal h = absurd (cc h)

-- a refusal needs the bytes that were to be placed
pub refused_need : (space : SegmentSpace) (n keep : ℕ) (refusal : NoRoom) → place_in space n keep ≡ Err refusal → refusal.need ≡ n
unfolding place_in
refused_need space n keep refusal h = need_of space n (next_place space n keep) refusal h

itself : (n : ℕ) → nat_eq n n ≡ true
itself n = grind (arith, nat_tests)

first_edit : (test : Bool) (edit : Option Piece) (rest : Option (Option Piece)) → test ≡ true → cond test (Some edit) rest ≡ None → ⊥
first_edit true edit rest is h = cc h
first_edit false edit rest is h = cc is

later_edit : (test : Bool) (edit : Option Piece) (rest : Option (Option Piece)) → cond test (Some edit) rest ≡ None → rest ≡ None
later_edit true edit rest h = absurd (cc h)
later_edit false edit rest h = h

one_of : (height number : ℕ) (e : ℕ × Option Piece) (es : Edits) (n : ℕ) (test : Bool) → is_within height number (number + 1) e.0 ≡ test → 0 < cond test (1 + n) n → (0 < n → HasEdit height number es) → HasEdit height number (e ∷ es)
one_of height number e es n true is some f =
    let w = within_of (e.0 / 64 ^ height) number (number + 1) is in
    (e.0, omega (arith, w.0, w.1), first_edit (nat_eq e.0 e.0) e.1 (lookup (nat_eq e.0) es) (itself e.0))
one_of height number e es n false is some f =
    let found = f some in
    (found.0, found.1, λ none. found.2 (later_edit (nat_eq found.0 e.0) e.1 (lookup (nat_eq found.0) es) none))

pub some_edit : (height number : ℕ) (edits : Edits) → 0 < edits_in height number (number + 1) edits → HasEdit height number edits
some_edit height number [] some = absurd (omega (arith, some))
some_edit height number (e ∷ es) some = one_of height number e es (edits_in height number (number + 1) es) (is_within height number (number + 1) e.0) refl some (some_edit height number es)
