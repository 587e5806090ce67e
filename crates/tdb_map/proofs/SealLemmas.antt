-- How long the record of a node is, and what it is for pieces and entries to be the same.
use Rattle.std.proofs.Common.{◌≡◌, ℕ, suc, ◌<◌, ◌≤◌, lit≤, List, [], ◌∷◌, length, get_or, Option, None, refl, ap, arith}
use Rattle.tdb_base.specs.declared.piece.Piece.{Piece}
use Rattle.tdb_base.specs.declared.suite.Suite.{Suite}
use Rattle.tdb_base.specs.declared.suite.Suite.TheVariants.{Plain, Aes128, Aes256}
use Rattle.tdb_seal.specs.declared.record.Name.{Name}
use Rattle.tdb_seal.specs.SealedRecord.{IsSealedRecord, body_length}
use Rattle.tdb_seal.proofs.RecordSpelling.{length-sealed_record}

body_small : (suite : Suite) → body_length suite 3072 ≤ 3088
body_small Plain = lit≤ tt
body_small Aes128 = lit≤ tt
body_small Aes256 = lit≤ tt

pub record_size : (key : List ℕ) (name : Name) (plain bytes : List ℕ) → length plain ≡ 3072 → IsSealedRecord key name plain bytes → (1 ≤ length bytes) × (length bytes ≤ 262144)
record_size key name plain bytes long is =
    let whole = length-sealed_record key name plain bytes is in
    let body : body_length name.suite (length plain) ≡ body_length name.suite 3072 = ap (λ (n : ℕ). body_length name.suite n) long in
    (omega (arith, whole), omega (arith, whole, body, body_small name.suite))

made : ℕ → ℕ → List ℕ → Piece
made place size digest = record { place = record { 0 = place }; length = size; digest = record { 0 = digest } }

made_is : (p : Piece) → made p.place.0 p.length p.digest.0 ≡ p
unfolding made
made_is p = refl

pub piece_is : (a b : Piece) → a.length ≡ b.length → a.place.0 ≡ b.place.0 → a.digest.0 ≡ b.digest.0 → a ≡ b
piece_is a b size place digest = cc (made_is a, made_is b)

-- lists of one length with the same entries are one
pub same_entries : (a b : List (Option Piece)) → length a ≡ length b → ((k : ℕ) → k < length a → get_or a k None ≡ get_or b k None) → a ≡ b
same_entries [] [] long each = refl
same_entries [] (y ∷ ys) long each = absurd (omega (arith, long))
same_entries (x ∷ xs) [] long each = absurd (omega (arith, long))
same_entries (x ∷ xs) (y ∷ ys) long each =
    let first : x ≡ y = each 0 (omega arith) in
    let rest = same_entries xs ys (omega (arith, long)) (λ k below. each (suc k) (omega (arith, below))) in
    cc (first, rest)
