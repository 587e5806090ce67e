-- The partitions that ordered maps in memory stand for.
use Rattle.std.specs.Prelude.{ℕ, List, Option, refl}
use Rattle.std.specs.BTreeMap.{BTreeMap}
use Rattle.std.specs.Coded.{Coded, coded_ℕ, coded_list, coded_option, coded×, code_by}
use Rattle.std.specs.FinMap.{code}
use Rattle.tdb_base.specs.declared.piece.Piece.{Piece}
use Rattle.tdb_base.specs.declared.suite.Suite.{Suite}
use Rattle.tdb_model.specs.Memory.{seen_as, coded_suite}
use Rattle.tdb_overlay.specs.Covering.{Covered, Covers, Edits}
use Rattle.tdb_overlay.specs.declared.kept.KeptPartition.{KeptPartition}

-- what a partition in memory tells
abbrev pub covered_of : KeptPartition → Covered
covered_of p = record {
  suite = p.leader.suite;
  home = p.leader.home;
  birth = p.leader.birth;
  next = p.leader.next;
  parent = p.leader.parent;
  born = p.leader.born;
  root = p.leader.root;
  edits = seen_as (λ piece. piece) p.edits;
}

-- what all of them tell
abbrev pub covers_in : BTreeMap ℕ KeptPartition → Covers
covers_in partitions = seen_as covered_of partitions

-- how the prover tells two of these apart: each is stored as the tuple of its fields
abbrev pub coded_piece : Coded Piece
coded_piece = code_by (ℕ × (ℕ × List ℕ)) (coded× coded_ℕ (coded× coded_ℕ (coded_list coded_ℕ)))
    (λ p. (p.place.0, (p.length, p.digest.0)))
    (λ t. record { place = record { 0 = t.0 }; length = t.1.0; digest = record { 0 = t.1.1 } })
    (λ _. refl)

abbrev pub coded_edits : Coded Edits
coded_edits = code coded_ℕ (coded_option coded_piece)

abbrev pub coded_covered : Coded Covered
coded_covered = code_by (Suite × ((ℕ × ℕ) × ((ℕ × ℕ) × (ℕ × (Option Piece × Edits)))))
    (coded× coded_suite (coded× (coded× coded_ℕ coded_ℕ) (coded× (coded× coded_ℕ coded_ℕ) (coded× coded_ℕ (coded× (coded_option coded_piece)
    coded_edits)))))
    (λ p. (p.suite, ((p.home, p.birth), ((p.next, p.parent), (p.born, (p.root, p.edits))))))
    (λ t. record {
      suite = t.0;
      home = t.1.0.0;
      birth = t.1.0.1;
      next = t.1.1.0.0;
      parent = t.1.1.0.1;
      born = t.1.1.1.0;
      root = t.1.1.1.1.0;
      edits = t.1.1.1.1.1;
    })
    (λ _. refl)

abbrev pub coded_covers : Coded Covers
coded_covers = code coded_ℕ coded_covered
