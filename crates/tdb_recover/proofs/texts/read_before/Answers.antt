use Rattle.std.proofs.Common.{◌≡◌, ◌∙◌, ◌-◌, ◌<◌, ap, sym, subst, ◌∷◌, arith}
use denote.Enum.Bare.{same_false}
use Rattle.tdb_base.specs.contracts.suite.Suite.{the_type}
use Rattle.tdb_append.specs.Put.{slot_place}
use Rattle.tdb_mark.specs.declared.commit.Commit.{Commit}
use Rattle.tdb_overlay.specs.Required.{IsOpeningPiece}
use Rattle.tdb_recover.specs.Chain.{EndsWith}
use Rattle.tdb_recover.specs.Explained.{IsExplained}
use Rattle.tdb_recover.proofs.Answering.{if_err_and}
use Rattle.tdb_recover.proofs.Ends.{is_text_of, before_text, before_ends, before_opening, before_fits}
use Rattle.tdb_recover.proofs.Only.{only_as}
use Rattle.tdb_recover.proofs.Showing.{explained_as}
use Rattle.tdb_recover.proofs.texts.read_before.Goals as goal
use Rattle.tdb_recover.proofs.texts.read_before.Goals.{else-earlier-count-via-then-earlier-count+then-earlier-text+then-eq+else-earlier-text-2, else-earlier-count-via-then-earlier-count+then-earlier-text+else-eq, else-earlier-count-via-then-earlier-count+else-earlier-text, else-earlier-count-via-else-earlier-count}

pub returns-then-earlier-text-2-clause-ends : goal.returns-then-earlier-text-2-clause-ends
returns-then-earlier-text-2-clause-ends g c t log given later ends =
    let old = g.P.Platform.outside c.args.platform.now in
    let new = g.P.Platform.outside c.read_text.new.platform in
    let text = c.args.text.now in
    let some : 1 < text.count = omega (arith, c.requires.format.base, c.requires.commit) in
    let last = before_text old.trace.written new.trace c.args.keys.now log given text later some ends in
    let is : c.in_ok-earlier.earlier ≡ last.commit = c.in_ok-earlier.ensures.text t last.commit (is_text_of old.trace.written new.trace c.args.keys.now log given _ _ _ last) in
    subst (λ (x : Commit). EndsWith old.trace.written c.args.keys.now log.chain x (text ∷ later)) (sym is)
    (before_ends old.trace.written new.trace c.args.keys.now log given text later c.requires.format c.requires.commit some ends last)

pub returns-in_err-earlier-clause-explained : goal.returns-in_err-earlier-clause-explained
returns-in_err-earlier-clause-explained g c =
    let old = g.P.Platform.outside c.args.platform.now in
    let new = g.P.Platform.outside c.read_text.new.platform in
    let text = c.args.text.now in
    let some : 1 < text.count = omega (arith, c.requires.format.base, c.requires.commit) in
    if_err_and c.from_residual.result _ _ c.from_residual.ensures.1
    (λ e is t log given later ends.
    let last = before_text old.trace.written new.trace c.args.keys.now log given text later some ends in
    subst (IsExplained old new (IsOpeningPiece old.trace.written log.store log.anchor)) (sym is)
    (explained_as old new (λ p. p ≡ record { place = record { 0 = slot_place (text.count - 1) }; length = 256; digest = text.prev }) (IsOpeningPiece old.trace.written log.store log.anchor) c.in_err-earlier.field-0.0
    (λ piece same. before_opening old.trace.written new.trace c.args.keys.now log given text later piece c.requires.format c.requires.commit some ends last same)
    (c.in_err-earlier.ensures.explained t last.commit (is_text_of old.trace.written new.trace c.args.keys.now log given _ _ _ last))))

pub returns-else-earlier-count-clause-explained : goal.returns-else-earlier-count-clause-explained
returns-else-earlier-count-clause-explained g c t log given later ends =
    let old = g.P.Platform.outside c.args.platform.now in
    let new = g.P.Platform.outside c.read_text.new.platform in
    let text = c.args.text.now in
    let some : 1 < text.count = omega (arith, c.requires.format.base, c.requires.commit) in
    let last = before_text old.trace.written new.trace c.args.keys.now log given text later some ends in
    let is : c.in_ok-earlier.earlier ≡ last.commit = c.in_ok-earlier.ensures.text t last.commit (is_text_of old.trace.written new.trace c.args.keys.now log given _ _ _ last) in
    let fits = before_fits old.trace.written new.trace c.args.keys.now log given text later c.requires.format c.requires.commit some ends last in
    elim c.else-earlier-count.branch [
      | else-earlier-count-via-then-earlier-count+then-earlier-text+then-eq+else-earlier-text-2 w ↦ w.if-earlier-text-2.false (ap (λ (x : Commit). x.segments) is ∙ fits.3)
      | else-earlier-count-via-then-earlier-count+then-earlier-text+else-eq w ↦ same_false the_type _ _ (sym w.if-eq.ensures) (ap (λ (x : Commit). x.suite) is ∙ fits.2)
      | else-earlier-count-via-then-earlier-count+else-earlier-text w ↦ w.if-earlier-text.false (ap (λ (x : Commit). x.base) is ∙ fits.1)
      | else-earlier-count-via-else-earlier-count w ↦ let count : c.in_ok-earlier.earlier.count ≡ text.count - 1 = omega (arith, ap (λ (x : Commit). x.count) is, fits.0) in w.if-earlier-count.false count
    ]

pub returns-then-earlier-text-2-clause-only : goal.returns-then-earlier-text-2-clause-only
returns-then-earlier-text-2-clause-only g c t log given later ends =
    let old = g.P.Platform.outside c.args.platform.now in
    let new = g.P.Platform.outside c.read_text.new.platform in
    let text = c.args.text.now in
    let some : 1 < text.count = omega (arith, c.requires.format.base, c.requires.commit) in
    let last = before_text old.trace.written new.trace c.args.keys.now log given text later some ends in
    only_as old new (λ p. p ≡ record { place = record { 0 = slot_place (text.count - 1) }; length = 256; digest = text.prev }) (IsOpeningPiece old.trace.written log.store log.anchor)
    (λ piece same. before_opening old.trace.written new.trace c.args.keys.now log given text later piece c.requires.format c.requires.commit some ends last same) (c.in_ok-earlier.ensures.only t)
