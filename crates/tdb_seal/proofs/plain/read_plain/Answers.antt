use Rattle.std.proofs.Common.{ℕ, List, length, ap, sym, subst, ◌∙◌, arith}
use Rattle.tdb_seal.specs.SealedRecord.{AreBytes, plain_record}
use Rattle.tdb_seal.proofs.RecordSpelling.{plain_are_bytes}
use Rattle.tdb_seal.proofs.plain.read_plain.Goals as goal

pub returns-clause-found : goal.returns-clause-found
returns-clause-found c =
    let is = c.in_ok-from_slice.ensures.items in
    let some = c.in-Some.ensures.some in (
      subst AreBytes (sym is) (plain_are_bytes c.args.name.now c.in-Some.plain.now c.args.bytes.now (λ k. omega (arith, c.type_inv.bytes k)) some.1),
      omega (arith, ap (λ (l : List ℕ). length l) is, some.0),
      some.1 ∙ ap (plain_record c.args.name.now) (sym is),
    )
