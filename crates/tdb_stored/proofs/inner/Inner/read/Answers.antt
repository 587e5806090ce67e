use Rattle.std.proofs.Common.{List, length, sym, ap, ◌∙◌, arith}
use Rattle.std.proofs.lemmas.Result.{err_from_is_err_and}
use Rattle.std.specs.List.{flat_map}
use Rattle.std.specs.Int.{w32, to_be_bytes}
use Rattle.tdb_stored.specs.BodyLaws.{same_entries}
use Rattle.tdb_stored.specs.declared.pair.Pair.{Pair}
use Rattle.tdb_stored.proofs.inner.Inner.read.Goals as goal

pub returns-in_err-children-clause-form : goal.returns-in_err-children-clause-form
returns-in_err-children-clause-form c e node is spelled =
    let p = err_from_is_err_and c.from_residual-in_err-children.result c.from_residual-in_err-children.ensures.1 in
    let found = c.in_ok-separators.ensures.found in
    let same = same_entries 32 c.in_ok-separators.separators node.separators c.in_ok-separators.rest.now (flat_map (to_be_bytes w32) node.children) (omega arith) found.0 is.separators (sym found.1 ∙ spelled) in
    let sizes = ap (λ (l : List Pair). length l) same.0 in
    c.in_err-children.ensures.form (cc (p.1, p.2, e)) node.children is.children (omega (arith, is.count, sizes)) same.1
