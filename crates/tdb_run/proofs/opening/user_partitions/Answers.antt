use Rattle.std.proofs.Common.{⊎_elim, refl}
use Rattle.std.specs.FinMap.{get}
use Rattle.tdb_run.proofs.OpeningLaws.{made_there, none_there, none_told, told_there}
use Rattle.tdb_run.proofs.opening.user_partitions.Goals as goal

pub returns-clause-made : goal.returns-clause-made
returns-clause-made g c is sound history last stands =
    let told = c.told_partitions.ensures.made is in (
      made_there (record { 0 = 1 }) (get last.chunks 1) c.info.result (c.info.ensures.info sound last.chunks (history, last, stands, refl)) told.0,
      made_there (record { 0 = 2 }) (get last.chunks 2) c.info-2.result (c.info-2.ensures.info sound last.chunks (history, last, stands, refl)) told.1,
    )

pub returns-clause-missing : goal.returns-clause-missing
returns-clause-missing g c is sound history last stands =
    let told = c.told_partitions.ensures.missing is in (
      none_there (record { 0 = 1 }) (get last.chunks 1) c.info.result (c.info.ensures.info sound last.chunks (history, last, stands, refl)) told.0,
      none_there (record { 0 = 2 }) (get last.chunks 2) c.info-2.result (c.info-2.ensures.info sound last.chunks (history, last, stands, refl)) told.1,
    )

pub returns-clause-other : goal.returns-clause-other
returns-clause-other g c is sound history last stands has =
    let first = c.info.ensures.info sound last.chunks (history, last, stands, refl) in
    let second = c.info-2.ensures.info sound last.chunks (history, last, stands, refl) in
    ⊎_elim
    (λ both. c.told_partitions.ensures.other_made is
    (told_there (record { 0 = 1 }) (get last.chunks 1) c.info.result first both.0)
    (told_there (record { 0 = 2 }) (get last.chunks 2) c.info-2.result second both.1))
    (λ none. c.told_partitions.ensures.other_missing is
    (none_told (record { 0 = 1 }) (get last.chunks 1) c.info.result first none.0)
    (none_told (record { 0 = 2 }) (get last.chunks 2) c.info-2.result second none.1)) has
