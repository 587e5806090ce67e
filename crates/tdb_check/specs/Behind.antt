-- What stands before the put of a checkpoint, and behind it.
use Rattle.std.specs.Prelude.{◌≡◌, ◌++◌, IsTrue, List, [], ◌∷◌, ℕ, Some}
use Rattle.tdb_append.specs.Placed.{Placed, with_all_written}
use Rattle.tdb_mark.specs.declared.commit.Commit.{Commit}
use Rattle.tdb_mark.specs.CommitText.{commit_key_of, commit_of}
use Rattle.tdb_platform.specs.Outside.{Outside}
use Rattle.tdb_seg.specs.SegmentSpace.{SegmentSpace}
use Rattle.tdb_overlay.specs.Covering.{Covers}
use Rattle.tdb_overlay.specs.Sound.{IsSound}
use Rattle.tdb_overlay.specs.Text.{anchor_of, text_in_slot, text_of}
use Rattle.tdb_overlay.specs.declared.recovered.Recovered.{Recovered}

-- Nothing was written, and the anchor stayed.
pub record IsUnwritten (old new : Outside) : Type 0 where
  pub tells : new.tells ≡ old.tells
  pub written : IsTrue old.tells → new.trace.written ≡ old.trace.written
  pub anchor : IsTrue old.tells → new.anchor ≡ old.anchor

-- The pieces were written and then the text, which the anchor names.
pub record IsPut (old new : Outside) (secret : List ℕ) (c : Commit) (pieces : List Placed) : Type 0 where
  pub sound : IsSound secret new
  pub wrote : new.trace ≡ with_all_written old.trace (pieces ++ text_in_slot secret c ∷ [])
  pub anchor : new.anchor ≡ anchor_of secret c
  pub reads : commit_of (commit_key_of secret) (text_of secret c) ≡ Some c

-- What is kept in memory then: the text is the head and the base, and what is told is in the tree.
pub record IsKeptBehind (was now_is : Recovered) (c : Commit) (space : SegmentSpace) (told : Covers) : Type 0 where
  pub suite : now_is.suite ≡ was.suite
  pub count : now_is.head.count ≡ c.count
  pub base : now_is.head.base ≡ c.count
  pub segments : now_is.segments ≡ space
  pub overlay : now_is.overlay ≡ told
  pub tree : now_is.tree ≡ record { root = c.root; leaders = told }
