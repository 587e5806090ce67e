use Rattle.std.proofs.Common.{◌==◌, List, ℕ, [], length, sym, ap, ◌∙◌, append-nil}
use Rattle.std.proofs.lemmas.Bool.{false≢true}
use Rattle.std.proofs.lemmas.Result.{err_from_is_err_and}
use Rattle.tdb_stored.specs.Spelling.{counted_bytes}
use Rattle.tdb_stored.specs.SpellingLaws.{IsPrefixFree, same_counted}
use Rattle.tdb_stored.proofs.items.read_counted.Goals as goal

pub returns-in_err-items-clause-form : goal.returns-in_err-items-clause-form
returns-in_err-items-clause-form g c e items is spelled =
    let p = err_from_is_err_and c.from_residual.result c.from_residual.ensures.1 in
    c.in_err-items.ensures.form (cc (p.1, p.2, e)) items [] is (spelled ∙ sym (append-nil (counted_bytes g.T.Spelled.spelling items)))

pub returns-then-is_empty-clause-only : goal.returns-then-is_empty-clause-only
returns-then-is_empty-clause-only g c items is spelled =
    let free : IsPrefixFree g.T.Spelled.is_item g.T.Spelled.spelling = record { one = g.met.T.Spelled.one_item } in
    let found = c.in_ok-items.ensures.found in
    (same_counted free c.args.limit c.in_ok-items.items.items items c.in_ok-items.rest.now [] c.requires found.0 is
    (sym found.1 ∙ spelled ∙ sym (append-nil (counted_bytes g.T.Spelled.spelling items)))).0

pub returns-else-is_empty-clause-form : goal.returns-else-is_empty-clause-form
returns-else-is_empty-clause-form g c e items is spelled =
    let free : IsPrefixFree g.T.Spelled.is_item g.T.Spelled.spelling = record { one = g.met.T.Spelled.one_item } in
    let found = c.in_ok-items.ensures.found in
    let same = same_counted free c.args.limit c.in_ok-items.items.items items c.in_ok-items.rest.now [] c.requires found.0 is
    (sym found.1 ∙ spelled ∙ sym (append-nil (counted_bytes g.T.Spelled.spelling items))) in
    false≢true (sym c.if-is_empty.false ∙ c.is_empty.ensures ∙ ap (λ (l : List ℕ). length l == 0) same.1)
