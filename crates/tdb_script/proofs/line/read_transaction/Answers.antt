use Rattle.std.proofs.Common.{◌≡◌, sym, ◌∙◌, arith, rules}
use Rattle.std.proofs.lemmas.Fmt.{decimal_injective}
use Rattle.std.proofs.lemmas.Grind.{common_steps}
use Rattle.tdb_script.proofs.LineLaws.{fits_64}
use Rattle.tdb_script.proofs.line.read_transaction.Goals as goal

pub returns-else-contains-clause-none : goal.returns-else-contains-clause-none
returns-else-contains-clause-none c number within spelled =
    let same : c.in_ok-number.number ≡ number = decimal_injective _ number (search rules) (fits_64 number within) (sym c.in_ok-number.ensures.found ∙ spelled) in
    grind (arith, common_steps, within.0, within.1)
