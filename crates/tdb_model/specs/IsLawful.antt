-- The laws of what a store of chunks tells.
use Rattle.std.specs.Prelude.{ℕ, ◌≤◌, ◌⊎◌, [], ◌++◌}
use Rattle.tdb_base.specs.declared.names.PartId.{PartId}
use Rattle.tdb_base.specs.declared.names.Rank.{Rank}
use Rattle.tdb_base.specs.declared.piece.Damage.{Damage}
use Rattle.tdb_base.specs.declared.piece.Place.{Place}
use Rattle.tdb_model.specs.Apply.{History}
use Rattle.tdb_model.specs.Meanings.{Meanings, Target}
use Rattle.tdb_model.specs.State.{State}

pub record IsLawful {C : Type 0} (m : Meanings C) : Type 0 where
  -- of itself
  pub itself : (a : C) → m.ran a [] [] a
  -- of two, one after another
  pub joined : (a b c : C) (xs ys maybe : History) → m.ran a xs [] b → m.ran b ys maybe c → m.ran a (xs ++ ys) maybe c
  -- Behind a commit that was begun and not answered Ok, calls that begin none leave it the last.
  pub behind_fault : (a b c : C) (xs maybe : History) → m.ran a xs maybe b → m.ran b [] [] c → m.ran a xs maybe c
  -- At most these were begun: none is fewer.
  pub wider : (a b : C) (xs maybe : History) → m.ran a xs [] b → m.ran a xs maybe b
  -- What is told was told before.
  pub told_before : (a b : C) (xs maybe : History) → m.ran a xs maybe b → m.told b → m.told a
  pub verifies_before : (a b : C) (xs maybe : History) → m.ran a xs maybe b → m.verifies b → m.verifies a
  -- No call lowers these numbers.
  pub count_stays : (a b : C) (xs maybe : History) → m.ran a xs maybe b → m.count a ≤ m.count b
  pub base_stays : (a b : C) (xs maybe : History) → m.ran a xs maybe b → m.base a ≤ m.base b
  pub faults_stay : (a b : C) (xs maybe : History) → m.ran a xs maybe b → m.faults a ≤ m.faults b
  pub clock_stays : (a b : C) (xs maybe : History) → m.ran a xs maybe b → m.clock a ≤ m.clock b
  -- What a stop since a later moment may leave, one since an earlier moment may leave too.
  pub left_since : (a : C) (t u : ℕ) (s : State) → t ≤ u → u ≤ m.clock a → m.left a u s → m.left a t s
  -- What a stop since an earlier moment may leave is what one could leave before, and what one may leave since.
  pub left_before : (a b : C) (xs maybe : History) (t : ℕ) (s : State) → m.ran a xs maybe b → m.told b → t ≤ m.clock a → m.left b t s
      → m.left a t s ⊎ m.left b (m.clock a) s
  -- Damage that was shown later was shown since before, and stays shown.
  pub damage_before : (a b c : C) (xs maybe : History) (d : Damage) (of : Target) → m.ran a xs maybe b → m.damage_seen b c d of
      → m.damage_seen a c d of
  pub damage_stays : (a b c : C) (xs maybe : History) (d : Damage) (of : Target) → m.damage_seen a b d of → m.ran b xs maybe c
      → m.damage_seen a c d of
  -- so do reads that were verified
  pub verified_before : (a b c : C) (xs maybe : History) (part : PartId) (rank : Rank) → m.ran a xs maybe b
      → m.verified_reads b c part rank → m.verified_reads a c part rank
  pub verified_stays : (a b c : C) (xs maybe : History) (part : PartId) (rank : Rank) → m.verified_reads a b part rank
      → m.ran b xs maybe c → m.verified_reads a c part rank
  -- and pieces outside every format
  pub malformed_before : (a b c : C) (xs maybe : History) (place : Place) → m.ran a xs maybe b → m.malformed_seen b c place
      → m.malformed_seen a c place
  pub malformed_stays : (a b c : C) (xs maybe : History) (place : Place) → m.malformed_seen a b place → m.ran b xs maybe c
      → m.malformed_seen a c place
