-- The 48 bytes of an entry are those of one entry.
use Rattle.std.proofs.Common.{◌≡◌, ℕ, ◌^◌, ◌<◌, List, [], ◌++◌, replicate, Option, Some, None, refl, sym, ap, subst, ◌∙◌, arith}
use Rattle.std.specs.Int.{w32, to_be_bytes}
use Rattle.tdb_base.specs.declared.piece.Piece.{Piece}
use Rattle.tdb_base.specs.PieceBytes.{IsPieceValue, piece_bytes, entry_bytes, entry_from}
use Rattle.tdb_base.specs.Segment.{LiesInOneSegment}
use Rattle.tdb_base.proofs.SameFields.{same_front, same_u32}
use Rattle.tdb_base.proofs.FieldLemmas.{begins_whole, entry_again, length-entry_bytes}
use Rattle.tdb_node.specs.Node.{IsEntry, IsEntryValue}

entry_is : (o : Option Piece) → IsEntryValue o → entry_from (entry_bytes o) 0 ≡ o
entry_is o value = entry_again (entry_bytes o) [] 0 o (begins_whole (entry_bytes o)) refl value

pub same_entry_bytes : (a b : Option Piece) → IsEntryValue a → IsEntryValue b → entry_bytes a ≡ entry_bytes b → a ≡ b
same_entry_bytes a b is_a is_b e = sym (entry_is a is_a) ∙ ap (λ (l : List ℕ). entry_from l 0) e ∙ entry_is b is_b

-- entries in front of a rest
pub same_entry : (a b : Option Piece) (x y : List ℕ) → IsEntryValue a → IsEntryValue b → entry_bytes a ++ x ≡ entry_bytes b ++ y → (a ≡ b) × (x ≡ y)
same_entry a b x y is_a is_b e =
    let parts = same_front (entry_bytes a) (entry_bytes b) x y (length-entry_bytes a is_a ∙ sym (length-entry_bytes b is_b)) e in
    (same_entry_bytes a b is_a is_b parts.0, parts.1)

pub same_piece : (a b : Piece) → IsPieceValue a → IsPieceValue b → piece_bytes a ≡ piece_bytes b → a ≡ b
same_piece a b is_a is_b e =
    let same : ◌≡◌ {A = Option Piece} (Some a) (Some b) = same_entry_bytes (Some a) (Some b) is_a is_b (ap (λ (l : List ℕ). to_be_bytes w32 1 ++ l) e) in cc same

-- what the number in front is not 0 before zeros, and not 1 before a piece in one segment, is no entry
pub no_entry : (number : ℕ) (rest bytes : List ℕ) (piece : Piece) → number < 2 ^ 32 → IsPieceValue piece → bytes ≡ to_be_bytes w32 number ++ rest → rest ≡ piece_bytes piece
    → (number ≡ 0 → rest ≡ replicate 44 0 → ⊥) → (number ≡ 1 → LiesInOneSegment piece → ⊥)
    → (entry : Option Piece) → IsEntryValue entry → IsEntry entry → bytes ≡ entry_bytes entry → ⊥
no_entry number rest bytes piece small value is spelled zeros one None is_entry_value is_entry e =
    let parts = same_u32 number 0 rest (replicate 44 0) small (omega arith) (sym is ∙ e) in zeros parts.0 parts.1
no_entry number rest bytes piece small value is spelled zeros one (Some p) is_entry_value is_entry e =
    let parts = same_u32 number 1 rest (piece_bytes p) small (omega arith) (sym is ∙ e) in
    let same : p ≡ piece = same_piece p piece is_entry_value value (sym parts.1 ∙ spelled) in
    one parts.0 (subst LiesInOneSegment same is_entry)
