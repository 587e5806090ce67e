use Rattle.std.proofs.Common.{◌≡◌, ℕ, ◌+◌, ◌%◌, ◌≤◌, arith}
use Rattle.std.proofs.lemmas.Bool.Decides.{nat_tests}
use Rattle.tdb_base.proofs.SegmentLemmas.{lies, fits}
use Rattle.tdb_base.proofs.piece.Piece.lies_in_one_segment.Goals as goal

pub returns-then-length-ge1-clause-meaning : goal.returns-then-length-ge1-clause-meaning
returns-then-length-ge1-clause-meaning c =
    let place : ℕ = c.args.self.now.place.0 in
    let long : c.from-length.result ≡ c.args.self.now.length = c.from-length.ensures in
    let known = c.if-length-ge1.true in (
      λ yes.
          let short : place % 262144 + c.args.self.now.length ≤ 262144 = grind (arith, nat_tests) in
          lies place c.args.self.now.length known.0 known.1 (omega arith) short,
      λ within. let short : place % 262144 + c.args.self.now.length ≤ 262144 = fits place _ within.0 within.2 in grind (arith, nat_tests),
    )
