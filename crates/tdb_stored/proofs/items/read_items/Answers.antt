use Rattle.std.proofs.Common.{◌==◌, List, ℕ, [], length, sym, ap, ◌∙◌, append-nil}
use Rattle.std.specs.List.{flat_map}
use Rattle.std.proofs.lemmas.Bool.{false≢true}
use Rattle.std.proofs.lemmas.Result.{err_from_is_err_and}
use Rattle.tdb_stored.specs.SpellingLaws.{IsPrefixFree, same_items}
use Rattle.tdb_stored.proofs.items.read_items.Goals as goal

pub returns-in_err-items-clause-form : goal.returns-in_err-items-clause-form
returns-in_err-items-clause-form g c e items each count spelled =
    let p = err_from_is_err_and c.from_residual.result c.from_residual.ensures.1 in
    c.in_err-items.ensures.form (cc (p.1, p.2, e)) items [] each count (spelled ∙ sym (append-nil (flat_map g.T.Spelled.spelling items)))

pub returns-else-is_empty-clause-form : goal.returns-else-is_empty-clause-form
returns-else-is_empty-clause-form g c e items each count spelled =
    let free : IsPrefixFree g.T.Spelled.is_item g.T.Spelled.spelling = record { one = g.met.T.Spelled.one_item } in
    let found = c.in_ok-items.ensures.found in
    let same = same_items free c.in_ok-items.items.items items c.in_ok-items.rest.now [] found.0 each (found.1 ∙ sym count)
    (sym found.2 ∙ spelled ∙ sym (append-nil (flat_map g.T.Spelled.spelling items))) in
    false≢true (sym c.if-is_empty.false ∙ c.is_empty.ensures ∙ ap (λ (l : List ℕ). length l == 0) same.1)
