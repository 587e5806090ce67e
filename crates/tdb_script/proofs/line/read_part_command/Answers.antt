use Rattle.std.proofs.Common.{◌++◌, List, ℕ, decimal, None, Some, ap, ◌∙◌}
use Rattle.std.proofs.lemmas.Bool.Decides.{Decides-eqb}
use Rattle.std.proofs.lemmas.Option.{IfSome_then}
use Rattle.std.proofs.lemmas.Slice.Eq.{strip_prefix_is}
use Rattle.tdb_script.proofs.line.read_part_command.Goals as goal

pub returns-in_err-number-clause-none : goal.returns-in_err-number-clause-none
returns-in_err-number-clause-none c =
    rw c.from_residual.ensures (λ number _ spelled. strip_prefix_is Decides-eqb c.args.bytes.now c.args.command.now None c.in_err-number.ensures.cases (decimal number) spelled)

pub returns-clause-found : goal.returns-clause-found
returns-clause-found c =
    let behind = strip_prefix_is Decides-eqb c.args.bytes.now c.args.command.now (Some c.in_ok-number.number) c.in_ok-number.ensures.cases in
    IfSome_then c.read_part.result c.read_part.ensures.found (λ _ h. (h.0, behind ∙ ap (λ (l : List ℕ). c.args.command.now ++ l) h.1))
