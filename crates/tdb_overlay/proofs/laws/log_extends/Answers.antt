use Rattle.std.proofs.Common.{◌∷◌, [], ◌++◌, List, refl, sym, append-nil}
use Rattle.tdb_append.specs.Placed.{Placed}
use Rattle.tdb_append.specs.Put.{slot_place}
use Rattle.tdb_overlay.proofs.KeptLaws.{kept_next, kept_still, next_log, records_keep}
use Rattle.tdb_overlay.proofs.laws.log_extends.Goals as goal

pub returns-clause-records : goal.returns-clause-records
returns-clause-records c secret trace anchor pieces kept records = records_keep secret trace pieces anchor records kept

pub returns-clause-text : goal.returns-clause-text
returns-clause-text c store trace later anchor text commit pieces added kept laid goes wrote unforged =
    let all : List Placed = pieces ++ record { place = slot_place commit.count; bytes = text } ∷ [] in (
      kept_still store trace later anchor text commit pieces laid all [] (sym (append-nil all)) wrote unforged added goes kept anchor kept,
      kept_next store trace later anchor text commit pieces laid all [] (sym (append-nil all)) wrote unforged added goes kept refl,
      λ before from is.
          let on = goes store refl before from is in
          (on.1.0, next_log store trace later anchor text commit pieces laid wrote unforged before added from on.1.0 on.0 on.1.1),
    )
