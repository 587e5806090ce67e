use Rattle.std.proofs.Common.{sym, ◌∙◌, subst, arith}
use Rattle.std.specs.Int.{w64, to_be_bytes}
use Rattle.tdb_class.specs.Word.{IsWord}
use Rattle.tdb_class.proofs.SameText.{same_text}
use Rattle.tdb_apps.proofs.Unless.{unless_some}
use Rattle.tdb_apps.proofs.account.Account.read_body.Goals as goal

pub returns-clause-none : goal.returns-clause-none
returns-clause-none c =
    unless_some c.new.result (λ isnt account is e.
    let found = c.in-Some.ensures.some in
    let owner = same_text c.in-Some.parts.0 account.owner c.in-Some.parts.1.now (to_be_bytes w64 account.balance) (omega (arith, found.0)) (omega (arith, is.owner.1)) (sym found.1 ∙ e) in
    isnt (c.new.ensures.some.1 (subst IsWord (sym owner.0) is.owner)))
