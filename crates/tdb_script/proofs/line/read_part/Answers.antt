use Rattle.std.proofs.Common.{◌≡◌, sym, ◌∙◌, arith, rules}
use Rattle.std.proofs.lemmas.Fmt.{decimal_injective}
use Rattle.std.proofs.lemmas.Grind.{common_steps}
use Rattle.tdb_script.proofs.LineLaws.{part_fits_64}
use Rattle.tdb_script.proofs.line.read_part.Goals as goal

pub returns-else-number-le-MAX_PART-clause-none : goal.returns-else-number-le-MAX_PART-clause-none
returns-else-number-le-MAX_PART-clause-none c number within spelled =
    let same : c.in_ok-number.number ≡ number = decimal_injective _ number (search rules) (part_fits_64 number within) (sym c.in_ok-number.ensures.found ∙ spelled) in
    grind (arith, common_steps, within)
