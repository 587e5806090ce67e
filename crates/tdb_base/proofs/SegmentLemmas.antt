-- The test of a piece's place decides that it lies in one segment.
use Rattle.std.proofs.Common.{◌≡◌, ℕ, inl, inr, ◌+◌, ◌-◌, ◌*◌, ◌/◌, ◌%◌, ◌<◌, ◌≤◌, nat_le, nat_lt, true, Decides, arith}
use Rattle.std.proofs.lemmas.Bool.Decides.{leb_tells, Decides-and, Decides-like, Decides-ltb}
use Rattle.tdb_base.specs.declared.piece.Piece.{Piece}
use Rattle.tdb_base.specs.Segment.{LiesInSegment, LiesInOneSegment, lies_in_one_segment}

pub Decides-nat_le : (a b : ℕ) → Decides (nat_le a b) (a ≤ b)
Decides-nat_le a b = elim (leb_tells a b) [ inl t ↦ (λ _. t.1, λ _. t.0) | inr f ↦ (λ yes. absurd (cc (yes, f.0)), λ le. absurd (omega (arith, f.1))) ]

-- the segment that the quotient of the place names
pub lies : (p n : ℕ) → 262144 ≤ p → p < 1074003968 → 1 ≤ n → p % 262144 + n ≤ 262144 → (k : ℕ) × (k < 4096) × LiesInSegment p n k
lies p n from below some fits =
    let q : p ≡ 262144 * (p / 262144) + p % 262144 = omega arith in
    (p / 262144 - 1, omega arith, record { some = some; begins = omega arith; ends = omega arith })

pub fits : (p n k : ℕ) → LiesInSegment p n k → p % 262144 + n ≤ 262144
fits p n k lies =
    let q : p ≡ 262144 * (p / 262144) + p % 262144 = omega arith in
    let r : p % 262144 < 262144 = omega arith in
    let s : p / 262144 ≡ k + 1 = omega arith in
    omega arith

pub Decides-lies_in_one_segment : (p : Piece) → Decides (lies_in_one_segment p) (LiesInOneSegment p)
Decides-lies_in_one_segment p =
    let place : ℕ = p.place.0 in
    let size : ℕ = p.length in
    Decides-like _
    (λ (h : ((262144 ≤ place × place < 1074003968) × 1 ≤ size) × (place % 262144 + size ≤ 262144)). lies place size h.0.0.0 h.0.0.1 h.0.1 h.1)
    (λ (l : LiesInOneSegment p). (((omega (arith, l.2.begins), omega (arith, l.1, l.2.some, l.2.ends)), l.2.some), fits place size l.0 l.2))
    (Decides-and _ _ (Decides-and _ _ (Decides-and _ _ (Decides-nat_le 262144 place) (Decides-ltb place 1074003968)) (Decides-nat_le 1 size)) (Decides-nat_le (place % 262144 + size) 262144))
