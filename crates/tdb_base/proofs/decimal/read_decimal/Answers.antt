use Rattle.std.proofs.Common.{◌≡◌, decimal, true, subst, sym, ap, ◌∙◌}
use Rattle.std.specs.Str.{IsUtf8}
use Rattle.std.proofs.lemmas.Bool.Decides.{Decides-eqb}
use Rattle.std.proofs.lemmas.Fmt.{parse-decimal, IsAscii-decimal}
use Rattle.std.proofs.lemmas.Slice.Eq.{slice_eq-Decides}
use Rattle.std.proofs.lemmas.Str.{IsUtf8-from_ascii}
use Rattle.tdb_base.proofs.decimal.read_decimal.Goals as goal

-- what isn't text isn't digits
pub returns-in_default-clause-none : goal.returns-in_default-clause-none
returns-in_default-clause-none c n small spelled =
    c.in_default.ensures.cases.0 (subst IsUtf8 (sym spelled) (IsUtf8-from_ascii _ (IsAscii-decimal n small)))

-- the text of a number is read as that number
pub returns-in_default-parse-clause-none : goal.returns-in_default-parse-clause-none
returns-in_default-parse-clause-none c n small spelled =
    let text : c.in-Ok.text.now ≡ decimal n = c.in-Ok.ensures.cases.0 ∙ spelled in
    let parsed = parse-decimal 64 n _ _ small small text c.parse.ensures.value.0 in
    absurd (cc parsed)

pub returns-else-eq-clause-none : goal.returns-else-eq-clause-none
returns-else-eq-clause-none c n small spelled =
    let text : c.in-Ok.text.now ≡ decimal n = c.in-Ok.ensures.cases.0 ∙ spelled in
    let parsed = parse-decimal 64 n _ _ small small text c.parse.ensures.value.0 in
    let number : c.in-Ok-parse.number ≡ n = cc parsed in
    let alike = c.format.ensures.text ∙ ap decimal number ∙ sym text in
    let equal : c.eq.result ≡ true = (slice_eq-Decides Decides-eqb _ _ _ c.eq.ensures).1 alike in
    absurd (cc (equal, c.if-eq.false))
