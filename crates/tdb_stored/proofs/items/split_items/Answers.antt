use Rattle.std.proofs.Common.{sym, ◌∙◌, arith}
use Rattle.tdb_stored.specs.SpellingLaws.{IsPrefixFree, next_item}
use Rattle.tdb_stored.proofs.items.split_items.Goals as goal

pub returns-in-None-clause-form : goal.returns-in-None-clause-form
returns-in-None-clause-form g c e items rest each count spelled =
    let free : IsPrefixFree g.T.Spelled.is_item g.T.Spelled.spelling = record { one = g.met.T.Spelled.one_item } in
    let loop = c.loop.invariant in
    let next = next_item free c.loop.items.items items c.loop.rest.now rest loop.each each (omega (arith, loop.count, count)) (sym loop.spelled ∙ spelled) in
    c.in-None.ensures.none next.0 next.1 next.2 next.3
