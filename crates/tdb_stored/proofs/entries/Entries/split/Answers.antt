use Rattle.std.proofs.Common.{◌≤◌, List, length, sym, ◌∙◌, subst}
use Rattle.std.proofs.lemmas.Bool.{false≢true}
use Rattle.tdb_stored.specs.BodyLaws.{pairs_free}
use Rattle.tdb_stored.specs.Entries.{IsAscending}
use Rattle.tdb_stored.specs.SpellingLaws.{same_counted}
use Rattle.tdb_stored.specs.declared.pair.Pair.{Pair}
use Rattle.tdb_stored.proofs.entries.Entries.split.Goals as goal

pub returns-in-None-clause-form : goal.returns-in-None-clause-form
returns-in-None-clause-form g c e entries rest is spelled =
    let found = c.in_ok-pairs.ensures.found in
    let same = same_counted pairs_free g.row.LIMIT c.in_ok-pairs.pairs.items entries c.in_ok-pairs.rest.now rest c.requires found.0 (is.values, is.size) (sym found.1 ∙ spelled) in
    false≢true (c.in-None.ensures.some.1 (subst (λ (l : List Pair). (length l ≤ g.row.LIMIT) × IsAscending l) (sym same.0) (is.size, is.ascending)))
