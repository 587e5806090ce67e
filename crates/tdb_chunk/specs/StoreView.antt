-- A store that owns its platform, as its callers see it.
use Rattle.std.specs.Prelude.{ℕ, Bool, List, Option, refl}
use Rattle.std.specs.Coded.{Coded, coded_ℕ, coded_bool, coded_list, coded_option, coded×, code_by}
use Rattle.tdb_append.specs.declared.head.Head.{Head}
use Rattle.tdb_base.specs.Trace.{WrittenPiece}
use Rattle.tdb_platform.specs.Outside.{Anchor, Outside}
use Rattle.tdb_base.specs.declared.piece.Piece.{Piece}
use Rattle.tdb_base.specs.declared.suite.Suite.{Suite}
use Rattle.tdb_model.specs.Memory.{coded_suite}
use Rattle.tdb_seg.specs.SegmentSpace.{SegmentSpace}
use Rattle.tdb_seg.specs.SpaceCode.{space_code}
use Rattle.tdb_overlay.specs.Covering.{Covers}
use Rattle.tdb_overlay.specs.Found.{Store}
use Rattle.tdb_overlay.specs.Memory.{coded_covers, coded_piece}
use Rattle.tdb_overlay.specs.declared.recovered.BaseTree.{BaseTree}
use Rattle.tdb_overlay.specs.declared.recovered.Recovered.{Recovered}

pub record StoreView (P : Type 0) : Type 0 where
  pub platform : P
  pub secret : List ℕ
  -- what is kept in memory of the log
  pub log : Recovered
  -- an earlier call that writes met a fault
  pub stopped : Bool

-- which store it is
abbrev pub store_in : {P : Type 0} → StoreView P → Store
store_in s = record { secret = s.secret; suite = s.log.suite }

-- its last text, as an anchor names it
abbrev pub head_in : {P : Type 0} → StoreView P → Anchor
head_in s = (s.log.head.count, s.log.head.mark.0)

-- all that was ever written to its device
abbrev pub written_in : {P : Type 0} → (P → Outside) → StoreView P → List WrittenPiece
written_in outside s = (outside s.platform).trace.written

-- how the prover tells two of these apart: each is stored as the tuple of its fields
abbrev coded_head : Coded Head
coded_head = code_by (ℕ × (List ℕ × ℕ)) (coded× coded_ℕ (coded× (coded_list coded_ℕ) coded_ℕ))
    (λ h. (h.count, (h.mark.0, h.base))) (λ t. record { count = t.0; mark = record { 0 = t.1.0 }; base = t.1.1 }) (λ _. refl)

abbrev coded_tree : Coded BaseTree
coded_tree = code_by (Option Piece × Covers) (coded× (coded_option coded_piece) coded_covers) (λ t. (t.root, t.leaders))
    (λ t. record { root = t.0; leaders = t.1 }) (λ _. refl)

abbrev coded_log : Coded Recovered
coded_log = code_by ((Suite × Head) × (SegmentSpace × (Covers × BaseTree)))
    (coded× (coded× coded_suite coded_head) (coded× space_code (coded× coded_covers coded_tree)))
    (λ r. ((r.suite, r.head), (r.segments, (r.overlay, r.tree))))
    (λ t. record { suite = t.0.0; head = t.0.1; segments = t.1.0; overlay = t.1.1.0; tree = t.1.1.1 }) (λ _. refl)

abbrev pub store_code : {P : Type 0} → Coded P → Coded (StoreView P)
store_code {P} code = code_by (P × (List ℕ × (Recovered × Bool))) (coded× code (coded× (coded_list coded_ℕ) (coded× coded_log coded_bool)))
    (λ s. (s.platform, (s.secret, (s.log, s.stopped))))
    (λ t. record { platform = t.0; secret = t.1.0; log = t.1.1.0; stopped = t.1.1.1 })
    (λ _. refl)
