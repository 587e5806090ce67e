use Rattle.std.proofs.Common.{◌++◌, ◌∷◌, ◌+◌, ℕ, List, take, sym, ap, ◌∙◌}
use Rattle.std.proofs.lemmas.List.{take_rest}
use Rattle.tdb_script.proofs.Fields.{split_at_space, space_has_place}
use Rattle.tdb_script.proofs.line.split_field.Goals as goal

pub returns-in_err-length-clause-none : goal.returns-in_err-length-clause-none
returns-in_err-length-clause-none c =
    rw c.from_residual.ensures (λ field rest is. space_has_place c.args.fields.now field rest is (sym c.in_err-length.ensures))

pub returns-clause-found : goal.returns-clause-found
returns-clause-found c =
    let fields = c.args.fields.now in
    let i = c.in_ok-length.length in
    let parts = split_at_space fields i (sym c.in_ok-length.ensures) in
    (parts.0, parts.1 ∙ ap (λ (l : List ℕ). take i fields ++ 32 ∷ l) (sym (take_rest fields (i + 1))))
