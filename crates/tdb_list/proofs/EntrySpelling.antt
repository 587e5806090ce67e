-- The bytes of an entry are those of one entry, whatever follows them.
use Rattle.std.proofs.Common.{◌≡◌, ℕ, List, ◌++◌, length, refl, sym, ◌∙◌, arith, append_assoc}
use Rattle.std.specs.Int.{w32, w64, to_be_bytes}
use Rattle.tdb_base.proofs.SameFields.{same_front, same_u32, same_u64}
use Rattle.tdb_base.specs.declared.piece.Piece.{Piece}
use Rattle.tdb_list.specs.declared.entry.Entry.{Entry}
use Rattle.tdb_list.specs.Entry.{entry_bytes, IsEntryValue}

-- nine fields put behind b one after another
pub regroup : (b f1 f2 f3 f4 f5 f6 f7 f8 f9 : List ℕ)
    → b ++ f1 ++ f2 ++ f3 ++ f4 ++ f5 ++ f6 ++ f7 ++ f8 ++ f9 ≡ b ++ (f1 ++ f2 ++ f3 ++ f4 ++ f5 ++ f6 ++ f7 ++ f8 ++ f9)
regroup b f1 f2 f3 f4 f5 f6 f7 f8 f9 = simp append_assoc

pub length-entry_bytes : (e : Entry) → IsEntryValue e → length (entry_bytes e) ≡ 72
unfolding entry_bytes
length-entry_bytes e is = omega (arith, is.digest)

-- the fields of an entry in front of a rest
abbrev pub fields : ℕ → ℕ → ℕ → ℕ → ℕ → ℕ → ℕ → ℕ → List ℕ → List ℕ → List ℕ
fields kind part rank suite home size birth place digest rest =
    to_be_bytes w32 kind ++ (to_be_bytes w32 part ++ (to_be_bytes w32 rank ++ (to_be_bytes w32 suite ++ (to_be_bytes w32 home
    ++ (to_be_bytes w32 size ++ (to_be_bytes w64 birth ++ (to_be_bytes w64 place ++ (digest ++ rest))))))))

pub entry_bytes-fields : (e : Entry) (rest : List ℕ)
    → entry_bytes e ++ rest ≡ fields e.kind e.part e.rank e.suite e.home e.piece.length e.birth e.piece.place.0 e.piece.digest.0 rest
unfolding entry_bytes
entry_bytes-fields e rest = refl

-- the entry of these fields
entry_of : (kind part rank suite home size birth place : ℕ) (digest : List ℕ) → Entry
entry_of kind part rank suite home size birth place digest =
    let piece : Piece = record { place = record { 0 = place }; length = size; digest = record { 0 = digest } } in
    record { kind = kind; part = part; rank = rank; suite = suite; home = home; birth = birth; piece = piece }

entry_of-fields : (e : Entry) → entry_of e.kind e.part e.rank e.suite e.home e.piece.length e.birth e.piece.place.0 e.piece.digest.0 ≡ e
unfolding entry_of
entry_of-fields e = refl

-- entries with the same fields are one
from_fields : (a b : Entry) → a.kind ≡ b.kind → a.part ≡ b.part → a.rank ≡ b.rank → a.suite ≡ b.suite → a.home ≡ b.home
    → a.piece.length ≡ b.piece.length → a.birth ≡ b.birth → a.piece.place.0 ≡ b.piece.place.0 → a.piece.digest.0 ≡ b.piece.digest.0 → a ≡ b
from_fields a b kind part rank suite home size birth place digest = cc (entry_of-fields a, entry_of-fields b)

pub same_entry : (a b : Entry) (x y : List ℕ) → IsEntryValue a → IsEntryValue b → entry_bytes a ++ x ≡ entry_bytes b ++ y → (a ≡ b) × (x ≡ y)
unfolding entry_bytes
same_entry a b x y is_a is_b e =
    let kind = same_u32 a.kind b.kind _ _ is_a.kind is_b.kind e in
    let part = same_u32 a.part b.part _ _ is_a.part is_b.part kind.1 in
    let rank = same_u32 a.rank b.rank _ _ is_a.rank is_b.rank part.1 in
    let suite = same_u32 a.suite b.suite _ _ is_a.suite is_b.suite rank.1 in
    let home = same_u32 a.home b.home _ _ is_a.home is_b.home suite.1 in
    let size = same_u32 a.piece.length b.piece.length _ _ is_a.size is_b.size home.1 in
    let birth = same_u64 a.birth b.birth _ _ is_a.birth is_b.birth size.1 in
    let place = same_u64 a.piece.place.0 b.piece.place.0 _ _ is_a.place is_b.place birth.1 in
    let digest = same_front a.piece.digest.0 b.piece.digest.0 x y (is_a.digest ∙ sym is_b.digest) place.1 in
    (from_fields a b kind.0 part.0 rank.0 suite.0 home.0 size.0 birth.0 place.0 digest.0, digest.1)
