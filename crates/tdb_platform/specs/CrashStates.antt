-- What a stop may leave: the pairs of an image and an anchor that it may leave at some moment since a given one.
use Rattle.std.specs.Prelude.{◌⊎◌, ℕ, ◌≤◌, List}
use Rattle.tdb_platform.specs.Outside.{Outside, Anchor}

-- whether a pair of an image and an anchor belongs
abbrev pub Pairs : Type 1
Pairs = List ℕ → Anchor → Type 0

-- the pairs that a stop since a moment may leave
abbrev pub CrashStates : Type 1
CrashStates = ℕ → List ℕ → Anchor → Type 0

-- Time goes on: what a stop since an earlier moment may leave is what one could leave before, and what one may leave now.
pub record Elapses (old new : Outside) (past since : CrashStates) : Type 0 where
  pub later : old.clock ≤ new.clock
  pub nothing_else : (t : ℕ) (i : List ℕ) (a : Anchor) → t ≤ old.clock → since t i a → past t i a ⊎ since new.clock i a
  pub keeps : (t : ℕ) (i : List ℕ) (a : Anchor) → t ≤ old.clock → past t i a → since t i a

-- the pairs that a stop may leave now
abbrev pub now : {D : Type 0} → (D → Outside) → (D → CrashStates) → D → Pairs
now outside crash_states p = crash_states p (outside p).clock

-- A stop now leaves nothing that one could not leave before.
abbrev pub LeavesNoMore : {D : Type 0} → (D → Outside) → (D → CrashStates) → D → D → Type 0
LeavesNoMore outside crash_states old new = (i : List ℕ) (a : Anchor) → now outside crash_states new i a → now outside crash_states old i a

-- Since the start of a call a stop leaves only pairs that have P.
pub record LeavesOnly {D : Type 0} (outside : D → Outside) (crash_states : D → CrashStates) (old new : D) (P : Pairs) : Type 0 where
  pub later : (outside old).clock ≤ (outside new).clock
  pub each : (i : List ℕ) (a : Anchor) → crash_states new (outside old).clock i a → P i a
  -- for a caller that began earlier
  pub before : (t : ℕ) (i : List ℕ) (a : Anchor) → t ≤ (outside old).clock → crash_states new t i a
      → crash_states old t i a ⊎ crash_states new (outside old).clock i a
  pub keeps : (t : ℕ) (i : List ℕ) (a : Anchor) → t ≤ (outside old).clock → crash_states old t i a → crash_states new t i a

-- Since the start of a call a stop leaves nothing that one could not leave at the start.
abbrev pub LeavesNothing : {D : Type 0} → (D → Outside) → (D → CrashStates) → D → D → Type 0
LeavesNothing outside crash_states old new = (i : List ℕ) (a : Anchor) → crash_states new (outside old).clock i a
    → now outside crash_states old i a

-- There is a moment up to which a stop leaves nothing that one could not leave at the start, and from which on it
-- leaves only pairs that have P.
pub record Settles {D : Type 0} (outside : D → Outside) (crash_states : D → CrashStates) (old new : D) (P : Pairs) : Type 0 where
  pub moment : ℕ
  pub later : ((outside old).clock ≤ moment) × (moment ≤ (outside new).clock)
  pub first : (i : List ℕ) (a : Anchor) → crash_states new (outside old).clock i a
      → now outside crash_states old i a ⊎ crash_states new moment i a
  pub rest : (i : List ℕ) (a : Anchor) → crash_states new moment i a → P i a
