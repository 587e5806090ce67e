-- Partitions 1 and 2, which a run makes where neither is there.
use Rattle.std.specs.Prelude.{◌≡◌, ◌⊎◌, ℕ, List, [], ◌∷◌, Option, Some, None}
use Rattle.std.specs.FinMap.{get}
use Rattle.tdb_base.specs.declared.suite.Suite.{Suite}
use Rattle.tdb_base.specs.Trace.{WrittenPiece}
use Rattle.tdb_model.specs.Apply.{History, apply_all}
use Rattle.tdb_model.specs.Opening.{opening_changes}
use Rattle.tdb_model.specs.State.{Partition, State}
use Rattle.tdb_model.specs.declared.change.PartInfo.{PartInfo}
use Rattle.tdb_overlay.specs.WellFormedLog.{EachText}

-- a partition that was made, and is no copy
abbrev pub IsMade : Option Partition → Type 0
IsMade None = ⊥
IsMade (Some p) = p.parent ≡ 0

-- so it is told of one
abbrev pub IsToldMade : Option PartInfo → Type 0
IsToldMade None = ⊥
IsToldMade (Some info) = info.parent.0 ≡ 0

-- both were made
abbrev pub HasBoth : State → Type 0
HasBoth state = IsMade (get state 1) × IsMade (get state 2)

-- neither is there
abbrev pub HasNone : State → Type 0
HasNone state = (get state 1 ≡ None) × (get state 2 ≡ None)

-- as the runs of this program leave a store
abbrev pub HasUserPartitions : State → Type 0
HasUserPartitions state = HasBoth state ⊎ HasNone state

-- so is each state that a text of a trace leads to
abbrev pub IsOpened : List ℕ → List WrittenPiece → Type 0
IsOpened secret written = EachText written secret (λ last. HasUserPartitions last.chunks)

-- What a run commits before its script, from one state of the database to another: where neither is there, the commit that makes
-- both, in the suite of the store.
abbrev pub Opens : Suite → State → History → State → Type 0
Opens suite before opening after =
    (HasBoth before × (opening ≡ []) × (after ≡ before))
    ⊎ (HasNone before × ((count : ℕ) × (opening ≡ (count, opening_changes suite) ∷ [])
    × (after ≡ apply_all count before (opening_changes suite))))

-- that commit may have been made
abbrev pub MayOpen : Suite → State → History → Type 0
MayOpen suite before maybe = (maybe ≡ []) ⊎ ((after : State) × Opens suite before maybe after)
