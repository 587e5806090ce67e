use Rattle.std.proofs.Common.{◌≡◌, ◌∙◌, ap, sym, subst, [], arith}
use Rattle.tdb_append.specs.Put.{slot_place}
use Rattle.tdb_mark.specs.declared.commit.Commit.{Commit}
use Rattle.tdb_overlay.specs.Required.{IsOpeningPiece}
use Rattle.tdb_recover.specs.Chain.{EndsWith}
use Rattle.tdb_recover.specs.Explained.{IsExplained}
use Rattle.tdb_recover.proofs.Answering.{if_err_and}
use Rattle.tdb_recover.proofs.Ends.{is_text_of, newest, newest_ends, newest_opening, newest_counts}
use Rattle.tdb_recover.proofs.FirstRead.{first_read}
use Rattle.tdb_recover.proofs.Only.{only_as}
use Rattle.tdb_recover.proofs.Showing.{explained_as}
use Rattle.tdb_recover.proofs.texts.read_newest.Goals as goal
use Rattle.tdb_recover.proofs.texts.read_newest.Goals.{else-text-count-via-then-text-count+else-text-le-COMMITS_PER_CHECKPOINT, else-text-count-via-else-text-count}

pub returns-then-text-le-COMMITS_PER_CHECKPOINT-clause-ends : goal.returns-then-text-le-COMMITS_PER_CHECKPOINT-clause-ends
returns-then-text-le-COMMITS_PER_CHECKPOINT-clause-ends g c t log given at =
    let old = g.P.Platform.outside c.args.platform.now in
    let new = g.P.Platform.outside c.read_text.new.platform in
    let last = newest old.trace.written new.trace c.args.keys.now log given c.args.count c.args.mark.now.0 at c.requires in
    let is : c.in_ok-text.text ≡ last.commit = c.in_ok-text.ensures.text t last.commit (is_text_of old.trace.written new.trace c.args.keys.now log given _ _ _ last) in
    subst (λ (x : Commit). EndsWith old.trace.written c.args.keys.now log.chain x []) (sym is) (newest_ends old.trace.written new.trace c.args.keys.now log given c.args.count c.args.mark.now.0 c.requires last)

pub returns-in_err-text-clause-explained : goal.returns-in_err-text-clause-explained
returns-in_err-text-clause-explained g c =
    let old = g.P.Platform.outside c.args.platform.now in
    let new = g.P.Platform.outside c.read_text.new.platform in
    if_err_and c.from_residual.result _ _ c.from_residual.ensures.1
    (λ e is t log given at.
    let last = newest old.trace.written new.trace c.args.keys.now log given c.args.count c.args.mark.now.0 at c.requires in
    subst (IsExplained old new (IsOpeningPiece old.trace.written log.store log.anchor)) (sym is)
    (explained_as old new (λ p. p ≡ record { place = record { 0 = slot_place c.args.count }; length = 256; digest = c.args.mark.now }) (IsOpeningPiece old.trace.written log.store log.anchor) c.in_err-text.field-0.0
    (λ piece same. newest_opening old.trace.written new.trace c.args.keys.now log given c.args.count c.args.mark.now piece c.requires last same)
    (c.in_err-text.ensures.explained t last.commit (is_text_of old.trace.written new.trace c.args.keys.now log given _ _ _ last))))

pub returns-else-text-count-clause-explained : goal.returns-else-text-count-clause-explained
returns-else-text-count-clause-explained g c t log given at =
    let old = g.P.Platform.outside c.args.platform.now in
    let new = g.P.Platform.outside c.read_text.new.platform in
    let last = newest old.trace.written new.trace c.args.keys.now log given c.args.count c.args.mark.now.0 at c.requires in
    let is : c.in_ok-text.text ≡ last.commit = c.in_ok-text.ensures.text t last.commit (is_text_of old.trace.written new.trace c.args.keys.now log given _ _ _ last) in
    let counts = newest_counts old.trace.written new.trace c.args.keys.now log given c.args.count c.args.mark.now.0 c.requires last in
    let count : c.in_ok-text.text.count ≡ c.args.count = ap (λ (x : Commit). x.count) is ∙ counts.0 in
    let base : c.in_ok-text.text.base ≡ last.commit.base = ap (λ (x : Commit). x.base) is in
    elim c.else-text-count.branch [
      | else-text-count-via-then-text-count+else-text-le-COMMITS_PER_CHECKPOINT w ↦ omega (arith, w.if-text-le-COMMITS_PER_CHECKPOINT.false, counts.1, count, base)
      | else-text-count-via-else-text-count w ↦ w.if-text-count.false count
    ]

pub returns-then-text-le-COMMITS_PER_CHECKPOINT-clause-only : goal.returns-then-text-le-COMMITS_PER_CHECKPOINT-clause-only
returns-then-text-le-COMMITS_PER_CHECKPOINT-clause-only g c t log given at =
    let old = g.P.Platform.outside c.args.platform.now in
    let new = g.P.Platform.outside c.read_text.new.platform in
    let last = newest old.trace.written new.trace c.args.keys.now log given c.args.count c.args.mark.now.0 at c.requires in
    only_as old new (λ p. p ≡ record { place = record { 0 = slot_place c.args.count }; length = 256; digest = c.args.mark.now }) (IsOpeningPiece old.trace.written log.store log.anchor)
    (λ piece same. newest_opening old.trace.written new.trace c.args.keys.now log given c.args.count c.args.mark.now piece c.requires last same) (c.in_ok-text.ensures.only t)

pub returns-then-text-le-COMMITS_PER_CHECKPOINT-clause-accepted : goal.returns-then-text-le-COMMITS_PER_CHECKPOINT-clause-accepted
returns-then-text-le-COMMITS_PER_CHECKPOINT-clause-accepted g c t =
    let h = c.in_ok-text.ensures.accepted t in
    first_read c.args.keys.now (c.args.count, c.args.mark.now.0) (g.P.Platform.outside c.args.platform.now)
    (g.P.Platform.outside c.read_text.new.platform) h.0 c.in_ok-text.text h.1 h.2 h.3 c.if-text-count.true
