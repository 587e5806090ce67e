use Rattle.std.proofs.Common.{◌≡◌, ℕ, ◌^◌, List, length, sym, ap, ◌∙◌, arith}
use Rattle.tdb_base.proofs.SameFields.{same_u32}
use Rattle.tdb_stored.specs.BodyLaws.{split_fits}
use Rattle.tdb_stored.proofs.Ranks.{length_ranks}
use Rattle.tdb_stored.proofs.directory.Directory.read.Goals as goal

pub returns-then-rest-count-clause-form : goal.returns-then-rest-count-clause-form
returns-then-rest-count-clause-form c e d is spelled =
    let first = c.split_u32-level.result in
    let second = c.split_u32-split.result in
    let third = c.split_u32-entries.result in
    let level = same_u32 first.0 d.level first.1.now _ (omega arith) (omega (arith, is.count.level_small)) (sym c.split_u32-level.ensures ∙ spelled) in
    let split = same_u32 second.0 d.split second.1.now _ (omega arith) (split_fits d is) (sym c.split_u32-split.ensures ∙ level.1) in
    let entries = same_u32 third.0 d.entries third.1.now _ (omega arith) is.entries (sym c.split_u32-entries.ensures ∙ split.1) in
    let powers : 2 ^ first.0 ≡ 2 ^ d.level = ap (λ (n : ℕ). 2 ^ n) level.0 in
    let long = ap (λ (l : List ℕ). length l) entries.1 in
    absurd (omega (arith, long, length_ranks d.buckets, is.count.count_is, powers, split.0, c.in-Some.ensures.some, c.if-rest-count.true))
