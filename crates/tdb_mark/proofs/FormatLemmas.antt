-- The test of the ranges decides them.
use Rattle.std.proofs.Common.{◌≡◌, ◌⊎◌, inl, inr, ◌<◌, ◌≤◌, Option, Some, None, IsNone, is_none, IfSome, Decides, refl}
use Rattle.std.proofs.lemmas.Bool.Decides.{Decides-eqb, Decides-ltb, Decides-and, Decides-or, Decides-like}
use Rattle.tdb_base.specs.declared.piece.Piece.{Piece}
use Rattle.tdb_base.specs.Segment.{LiesInOneSegment}
use Rattle.tdb_base.proofs.SegmentLemmas.{Decides-nat_le, Decides-lies_in_one_segment}
use Rattle.tdb_mark.specs.declared.commit.Commit.{Commit}
use Rattle.tdb_mark.specs.CommitFormat.{IsInFormat, is_in_format, kind_fits, root_lies}

Decides-is_none : (o : Option Piece) → Decides (is_none o) (IsNone o)
Decides-is_none None = (λ _. refl, λ _. refl)
Decides-is_none (Some p) = (λ yes. absurd (cc yes), λ none. absurd (cc none))

Decides-root_lies : (o : Option Piece) → Decides (root_lies o) (IfSome o LiesInOneSegment)
Decides-root_lies None = (λ _. tt, λ _. refl)
Decides-root_lies (Some p) = Decides-lies_in_one_segment p

Decides-kind_fits : (c : Commit) → Decides (kind_fits c) (((c.kind ≡ 1) × (c.base < c.count) × IsNone c.root) ⊎ ((c.kind ≡ 2) × (c.base ≡ c.count)))
Decides-kind_fits c =
    Decides-like _
    (λ (h : (((c.kind ≡ 1) × (c.base < c.count)) × IsNone c.root) ⊎ ((c.kind ≡ 2) × (c.base ≡ c.count))). elim h [ inl a ↦ inl (a.0.0, a.0.1, a.1) | inr b ↦ inr b ])
    (λ (h : ((c.kind ≡ 1) × (c.base < c.count) × IsNone c.root) ⊎ ((c.kind ≡ 2) × (c.base ≡ c.count))). elim h [ inl a ↦ inl ((a.0, a.1), a.2) | inr b ↦ inr b ])
    (Decides-or _ _
    (Decides-and _ _ (Decides-and _ _ (Decides-eqb c.kind 1) (Decides-ltb c.base c.count)) (Decides-is_none c.root))
    (Decides-and _ _ (Decides-eqb c.kind 2) (Decides-eqb c.base c.count)))

pub Decides-is_in_format : (c : Commit) → Decides (is_in_format c) (IsInFormat c)
Decides-is_in_format c =
    let Kind : Type 0 = ((c.kind ≡ 1) × (c.base < c.count) × IsNone c.root) ⊎ ((c.kind ≡ 2) × (c.base ≡ c.count)) in
    Decides-like _
    (λ (h : ((((1 ≤ c.base × Kind) × 16 ≤ c.segments) × c.segments ≤ 4096) × LiesInOneSegment c.first) × IfSome c.root LiesInOneSegment).
    record { base = h.0.0.0.0.0; kind = h.0.0.0.0.1; fewest = h.0.0.0.1; most = h.0.0.1; first = h.0.1; root = h.1 })
    (λ (f : IsInFormat c). (((((f.base, f.kind), f.fewest), f.most), f.first), f.root))
    (Decides-and _ _
    (Decides-and _ _
    (Decides-and _ _
    (Decides-and _ _
    (Decides-and _ _ (Decides-nat_le 1 c.base) (Decides-kind_fits c))
    (Decides-nat_le 16 c.segments))
    (Decides-nat_le c.segments 4096))
    (Decides-lies_in_one_segment c.first))
    (Decides-root_lies c.root))
