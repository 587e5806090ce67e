-- Once a checkpoint is made, no rank has changed since it.
use Rattle.std.proofs.Common.{◌≡◌, List, ℕ, None, Option, Some, ap, sym, ◌∙◌}
use Rattle.std.specs.FinMap.{empty, get}
use Rattle.tdb_append.specs.Placed.{Placed}
use Rattle.tdb_base.specs.declared.piece.Piece.{Piece}
use Rattle.tdb_map.specs.Edits.{edit_at}
use Rattle.tdb_platform.specs.Outside.{Outside}
use Rattle.tdb_overlay.specs.Covering.{Covered, Covers}
use Rattle.tdb_overlay.specs.Found.{Store}
use Rattle.tdb_check.specs.NewCheckpoint.{HasNoChange}
use Rattle.tdb_check.specs.NewMap.{IsNewMap, IsNewPart, told_with}

same_cover : (a b : Covered) → ◌≡◌ {A = Option Covered} (Some a) (Some b) → a ≡ b
same_cover a b same = cc

none_told : (told : Option Covered) (c : Covered) → told ≡ None → told ≡ Some c → ⊥
none_told told c none is = cc (none, is)

new_part : (store : Store) (o : Outside) (ps : List Placed) (part : ℕ) (cover base : Option Covered) (edit : Option (Option Piece))
    (told : Option Covered) → IsNewPart store o ps part cover base edit told → (c : Covered) → told ≡ Some c → c.edits ≡ empty
new_part store o ps part None None edit told new c is = absurd (none_told told c new.1 is)
new_part store o ps part None (Some base) edit told new c is = absurd (none_told told c new.1 is)
new_part store o ps part (Some cover) base edit told new c is =
    ap (λ (x : Covered). x.edits) (same_cover c (told_with cover new.0) (sym is ∙ new.2))

pub new_map_unchanged : (store : Store) (o : Outside) (ps : List Placed) (covers base told : Covers) (old root : Option Piece)
    → IsNewMap store o ps covers base old root told → HasNoChange told
new_map_unchanged store o ps covers base told old root new part c is =
    new_part store o ps part (get covers part) (get base part) (edit_at new.edits part) (get told part) (new.parts part) c is
