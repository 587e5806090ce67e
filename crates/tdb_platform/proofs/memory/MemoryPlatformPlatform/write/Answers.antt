use Rattle.std.proofs.Common.{Bool, List, ℕ, cond, length, sym, ◌∙◌, ap, subst}
use Rattle.tdb_platform.specs.Image.{SameExcept, overwritten}
use Rattle.tdb_platform.specs.ImageLaws.{overwritten_same, same_itself}
use Rattle.tdb_platform.proofs.memory.MemoryPlatformPlatform.write.Goals as goal

pub returns-in_default-clause-now : goal.returns-in_default-clause-now
returns-in_default-clause-now c i a left = (i, c.in_default.ensures.err.now i a left, λ honest. same_itself _ _ _)

pub returns-in_default-clause-time : goal.returns-in_default-clause-time
returns-in_default-clause-time c = c.in_default.ensures.err.time _ _

pub returns-then-fails-clause-now : goal.returns-then-fails-clause-now
returns-then-fails-clause-now c i a left =
    let before = c.in-Ok.ensures.ok.now i a left in
    (before.0, before.1, λ honest. before.2)

pub returns-then-fails-clause-time : goal.returns-then-fails-clause-time
returns-then-fails-clause-time c = c.in-Ok.ensures.ok.time _ _

pub returns-clause-image : goal.returns-clause-image
returns-clause-image c honest =
    let old = c.args.self.now.device.image.items in
    subst (λ (i : List ℕ). SameExcept c.args.at (length c.args.piece.now) old i)
    (sym (c.in-Ok.ensures.ok.image ∙ ap (λ (f : Bool). cond f old (overwritten old c.args.at c.args.piece.now)) c.if-fails.false))
    (overwritten_same old c.args.at c.args.piece.now)

pub returns-clause-now : goal.returns-clause-now
returns-clause-now c i a left =
    let before = c.in-Ok.ensures.ok.now i a left in
    (before.0, before.1, λ honest. before.2)

pub returns-clause-time : goal.returns-clause-time
returns-clause-time c = c.in-Ok.ensures.ok.time _ _
