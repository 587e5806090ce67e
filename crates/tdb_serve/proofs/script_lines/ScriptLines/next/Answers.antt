use Rattle.std.proofs.Common.{◌+◌, ℕ, List, inl, inr, ⊎_elim, IsTrue, add-zero, drop, length, subst, ap, sym, ◌∙◌, arith}
use Rattle.tdb_serve.specs.Gave.{Gave}
use Rattle.tdb_serve.specs.Unread.{unread}
use Rattle.tdb_serve.proofs.Conversing.{ended_unanswered}
use Rattle.tdb_serve.proofs.Unreading.{passed_more, ended, long_line, length-unread}
use Rattle.tdb_serve.proofs.script_lines.ScriptLines.next.Goals as goal

pub returns-else-fits-clause-taken : goal.returns-else-fits-clause-taken
returns-else-fits-clause-taken g c =
    long_line _ _ _ c.reading.self c.pass.new.self c.reading.fits c.in-Some.count c.reading.invariant.passed c.in-Some.ensures.found
    (c.hand_on-fits.ensures.too_long c.if-fits.false)
    (c.pass.ensures.taken ∙ c.hand_on-fits.ensures.taken) (c.pass.ensures.moved ∙ ap (drop 1) c.hand_on-fits.ensures.moved)

pub returns-in-Err-clause-stopped : goal.returns-in-Err-clause-stopped
returns-in-Err-clause-stopped g c =
    let failed = c.in-Err.ensures.failed in
    let e =
    ended _ (g.S.Source.content c.reading.source) (g.S.Source.content c.fill.new.source) c.args.self.now c.reading.self c.fill.new.self
    c.reading.fits c.reading.fits c.reading.invariant.passed c.in_default.ensures.none c.reading.invariant.tells failed.2
    (failed.1 ∙ c.hand_on-fits-in-reading.ensures.taken) failed.0 in (
      ended_unanswered _ _ _ _ e,
      (
        e.no_line_feed,
        ⊎_elim (λ more. inl (omega (arith, more, c.reading.invariant.no_fewer)))
            (λ all. inr all) failed.3,
      ),
    )

pub returns-in-Ok-false-clause-stopped : goal.returns-in-Ok-false-clause-stopped
returns-in-Ok-false-clause-stopped g c =
    let over = c.in-Ok-false.ensures.end c.in-Ok-false.field-0-test in
    let gave = subst (λ (l : List ℕ). Gave (g.S.Source.content c.reading.source) (g.S.Source.content c.fill.new.source) l) over.0
    c.in-Ok-false.ensures.gave in
    let taken = c.in-Ok-false.ensures.counted ∙ ap (λ (l : List ℕ). c.hand_on-fits-in-reading.new.self.taken + length l) over.0
    ∙ add-zero c.hand_on-fits-in-reading.new.self.taken ∙ c.hand_on-fits-in-reading.ensures.taken in
    let e = ended _ (g.S.Source.content c.reading.source) (g.S.Source.content c.fill.new.source) c.args.self.now c.reading.self
    c.fill.new.self c.reading.fits c.reading.fits c.reading.invariant.passed c.in_default.ensures.none c.reading.invariant.tells gave
    taken over.0 in (
      ended_unanswered _ _ _ _ e,
      (
        e.no_line_feed,
        ⊎_elim (λ all. inl all)
            (λ none. inr (λ told. none (subst IsTrue (sym c.reading.invariant.tells) told))) over.1,
        c.in-Ok-false.ensures.quiet
            ∙ c.reading.invariant.passed.quiet,
      ),
    )

pub reading-preserved : goal.reading-preserved
reading-preserved g c = record {
  passed =
      passed_more (g.S.Source.content c.args.source.now) (g.S.Source.content c.reading.source) (g.S.Source.content c.fill.new.source)
      c.args.self.now c.reading.self c.fill.new.self c.reading.fits c.hand_on-fits-in-reading.result c.reading.invariant.passed
      c.in_default.ensures.none _
      (length-unread c.reading.self (omega arith) (omega arith))
      (λ h. let fit = c.hand_on-fits-in-reading.ensures.fits h in (fit.0, c.fill.ensures.line ∙ fit.1))
      c.hand_on-fits-in-reading.ensures.too_long c.reading.invariant.tells
      c.in-Ok-true.ensures.gave (c.in-Ok-true.ensures.counted
      ∙ ap (λ (n : ℕ). n + length (unread c.fill.new.self)) c.hand_on-fits-in-reading.ensures.taken) c.in-Ok-true.ensures.quiet;
  tells = c.fill.ensures.tells ∙ c.reading.invariant.tells;
  no_fewer = omega (arith, c.fill.ensures.no_fewer, c.reading.invariant.no_fewer);
}
