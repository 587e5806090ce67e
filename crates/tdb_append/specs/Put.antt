-- What a put does to the device and the anchor, and what a stop may leave of it.
use Rattle.std.specs.Prelude.{◌≡◌, ◌⊎◌, ℕ, Bool, IsTrue, ◌+◌, ◌-◌, ◌*◌, ◌%◌, ◌≤◌, List, [], ◌∷◌, ◌++◌, Result, IsErr, IsOk}
use Rattle.sha2.specs.Sha256.{sha256}
use Rattle.tdb_platform.specs.Outside.{Anchor, Outside, Rose}
use Rattle.tdb_platform.specs.CrashStates.{CrashStates, Pairs, now, LeavesOnly}
use Rattle.tdb_append.specs.declared.head.Head.{Head}
use Rattle.tdb_append.specs.declared.laid.Laid.{Laid}
use Rattle.tdb_append.specs.Placed.{Placed, placed, EachHolds, SameExceptAt, with_all_written}

-- where the commit text with this count stands, counted from 1: 1,024 slots of 256 bytes, used in turn
abbrev pub slot_place : ℕ → ℕ
slot_place count = (count - 1) % 1024 * 256

-- the pieces in order, and then the text in its slot
abbrev pub writes_of : Head → List Laid → List ℕ → List Placed
writes_of head pieces text = placed pieces ++ record { place = slot_place (head.count + 1); bytes = text } ∷ []

-- the anchor that names the text
abbrev pub next_anchor : Head → List ℕ → Anchor
next_anchor head text = (head.count + 1, sha256 text)

-- These pieces were written in order, and nothing else was.
pub record Wrote (old new : Outside) (done : List Placed) : Type 0 where
  pub trace : IsTrue old.tells → new.trace ≡ with_all_written old.trace done
  pub image : IsTrue old.honest → SameExceptAt done old.image new.image

-- the pair is one of these earlier ones, with the image changed at most where the pieces went
pub record IsOld (honest : Bool) (done : List Placed) (earlier : Pairs) (image : List ℕ) (anchor : Anchor) : Type 0 where
  pub before : List ℕ
  pub left : earlier before anchor
  pub same : IsTrue honest → SameExceptAt done before image

-- the anchor is the next one, everything was written, and it stands in an image that is otherwise an earlier one
pub record IsNext (honest : Bool) (done rest : List Placed) (next : Anchor) (earlier : Pairs) (image : List ℕ) (anchor : Anchor)
    : Type 0 where
  pub is_next : anchor ≡ next
  pub complete : rest ≡ []
  pub holds : IsTrue honest → EachHolds image done
  pub old_anchor : Anchor
  pub over : IsOld honest done earlier image old_anchor

-- A front of the writes was done, on Ok all of them. A stop since the start leaves the old anchors.
pub record WritesSome {D T E : Type 0} (outside : D → Outside) (crash_states : D → CrashStates) (old new : D)
    (writes : List Placed) (result : Result T E) : Type 0 where
  pub done : List Placed
  pub rest : List Placed
  pub in_order : writes ≡ done ++ rest
  pub complete : IsOk result → rest ≡ []
  pub wrote : Wrote (outside old) (outside new) done
  pub any_moment : LeavesOnly outside crash_states old new (IsOld (outside old).honest done (now outside crash_states old))
  pub tells : (outside new).tells ≡ (outside old).tells
  pub honest : (outside new).honest ≡ (outside old).honest
  pub ticks : IsErr result → Rose (outside old).clock (outside new).clock
  pub no_fewer_faults : (outside old).faults ≤ (outside new).faults
  pub cause : IsErr result → Rose (outside old).faults (outside new).faults

-- A front of the writes was done, on Ok all of them. The anchor is the old one, or the next one once all were done. A
-- stop since the start leaves the same.
pub record Puts {D T E : Type 0} (outside : D → Outside) (crash_states : D → CrashStates) (old new : D)
    (writes : List Placed) (next : Anchor) (result : Result T E) : Type 0 where
  pub done : List Placed
  pub rest : List Placed
  pub in_order : writes ≡ done ++ rest
  pub complete : IsOk result → rest ≡ []
  pub wrote : Wrote (outside old) (outside new) done
  pub anchor : IsTrue (outside old).tells → ((outside new).anchor ≡ (outside old).anchor) ⊎ (((outside new).anchor ≡ next) × (rest ≡ []))
  pub any_moment : LeavesOnly outside crash_states old new (λ i a. IsOld (outside old).honest done (now outside crash_states old) i a
      ⊎ IsNext (outside old).honest done rest next (now outside crash_states old) i a)
