use Rattle.std.proofs.Common.{◌≡◌, ◌≢◌, inl, inr, ℕ, Bool, List, [], Err, IfErr, OnOk, Result, IsTrue, refl, sym, ◌∙◌, ap, subst}
use Rattle.tdb_platform.specs.Outside.{Anchor}
use Rattle.tdb_overlay.specs.Growth.{HasGrownBy, IsSettled, UnlessErr}
use Rattle.tdb_overlay.specs.Log.{IsLog}
use Rattle.tdb_overlay.specs.Ran.{RanStep}
use Rattle.tdb_overlay.specs.Reading.{OnlyReads}
use Rattle.tdb_overlay.specs.Sound.{IsSound}
use Rattle.tdb_overlay.specs.StoreState.{formatted_state}
use Rattle.tdb_overlay.proofs.ReadingLaws.{reads_none}
use Rattle.tdb_overlay.specs.Found.{store_under}
use Rattle.tdb_chunk.specs.Formatting.{Formatted, WritesFirstText}
use Rattle.tdb_chunk.specs.declared.store_format.FormatError.{FormatError}
use Rattle.tdb_chunk.specs.declared.store_format.FormatError.TheVariants as errors
use Rattle.tdb_chunk.proofs.FirstTexts.{first_text_behind, first_text_unwritten}
use Rattle.tdb_chunk.proofs.NewStores.{new_log, settled_moments, step_settled, told_settled, whatever_err, whatever_ok}
use Rattle.tdb_chunk.proofs.store_format.lay_log.Goals.{in-Ok-format, in-Err-Memory, in-Err-Fault}
use Rattle.tdb_chunk.proofs.store_format.lay_log.Goals as goal

pub returns-in_default-clause-ran_err : goal.returns-in_default-clause-ran_err
returns-in_default-clause-ran_err g c =
    inr (reads_none g.P.Platform.outside g.P.Platform.crash_states g.met.P.Platform.counts c.args.platform.now c.anchor.new.self c.anchor.result
    c.anchor.ensures.trace c.anchor.ensures.image c.anchor.ensures.anchor c.anchor.ensures.now c.anchor.ensures.time c.anchor.ensures.told)

pub returns-then-count-ne0-clause-only_read : goal.returns-then-count-ne0-clause-only_read
returns-then-count-ne0-clause-only_read g c isnt = (
  reads_none g.P.Platform.outside g.P.Platform.crash_states g.met.P.Platform.counts c.args.platform.now c.anchor.new.self c.anchor.result
      c.anchor.ensures.trace c.anchor.ensures.image c.anchor.ensures.anchor c.anchor.ensures.now c.anchor.ensures.time c.anchor.ensures.told,
  told_settled g.P.Platform.outside g.P.Platform.crash_states g.met.P.Platform.counts g.met.P.Platform.numbered
      (store_under c.args.secret.now c.args.suite) c.args.platform.now c.anchor.new.self c.anchor.new.self c.anchor.ensures.told.tells
      c.in-Ok.ensures.settled,
)

pub returns-then-count-ne0-clause-ran_err : goal.returns-then-count-ne0-clause-ran_err
returns-then-count-ne0-clause-ran_err g c =
    inr (reads_none g.P.Platform.outside g.P.Platform.crash_states g.met.P.Platform.counts c.args.platform.now c.anchor.new.self c.anchor.result
    c.anchor.ensures.trace c.anchor.ensures.image c.anchor.ensures.anchor c.anchor.ensures.now c.anchor.ensures.time c.anchor.ensures.told)

pub returns-clause-only_read : goal.returns-clause-only_read
returns-clause-only_read g c =
    let outside = g.P.Platform.outside in
    let states = g.P.Platform.crash_states in
    let old = c.args.platform.now in
    let mid = c.anchor.new.self in
    let new = c.format.new.platform in
    let reads = reads_none outside states g.met.P.Platform.counts old mid c.anchor.result
    c.anchor.ensures.trace c.anchor.ensures.image c.anchor.ensures.anchor c.anchor.ensures.now c.anchor.ensures.time c.anchor.ensures.told in
    let settled = told_settled outside states g.met.P.Platform.counts g.met.P.Platform.numbered
    (store_under c.args.secret.now c.args.suite) old new mid c.anchor.ensures.told.tells c.in-Ok.ensures.settled in
    elim c.match-format.branch [
      | in-Ok-format w ↦ subst (λ (r : Result _ FormatError). IfErr r (λ e. e ≢ errors.Fault → OnlyReads outside states old new × IsSettled outside states new))
          (sym w.result-is) tt
      | in-Err-Memory w ↦ subst (λ (r : Result _ FormatError). IfErr r (λ e. e ≢ errors.Fault → OnlyReads outside states old new × IsSettled outside states new))
          (sym w.result-is)
          (λ isnt. subst (λ (p : _). OnlyReads outside states old p × IsSettled outside states p) (sym (c.format.ensures.memory (w.in-Err-Memory.is ∙ ap Err w.in-Err-Memory.field-0-is))) (reads, settled))
      | in-Err-Fault w ↦ subst (λ (r : Result _ FormatError). IfErr r (λ e. e ≢ errors.Fault → OnlyReads outside states old new × IsSettled outside states new))
          (sym w.result-is) (λ isnt. absurd (isnt refl))
    ]

pub returns-clause-ran : goal.returns-clause-ran
returns-clause-ran g c =
    let outside = g.P.Platform.outside in
    let states = g.P.Platform.crash_states in
    let old = c.args.platform.now in
    let mid = c.anchor.new.self in
    let new = c.format.new.platform in
    let reads = reads_none outside states g.met.P.Platform.counts old mid c.anchor.result
    c.anchor.ensures.trace c.anchor.ensures.image c.anchor.ensures.anchor c.anchor.ensures.now c.anchor.ensures.time c.anchor.ensures.told in
    let settled = told_settled outside states g.met.P.Platform.counts g.met.P.Platform.numbered
    (store_under c.args.secret.now c.args.suite) old new mid c.anchor.ensures.told.tells c.in-Ok.ensures.settled in
    whatever_ok c.match-format.result
    (step_settled outside states (store_under c.args.secret.now c.args.suite) old mid new reads settled c.format.result
    (subst (λ (k : List ℕ). RanStep outside states (store_under k c.args.suite) [] mid new c.format.result) c.new.ensures c.format.ensures.steps))

pub returns-clause-ran_err : goal.returns-clause-ran_err
returns-clause-ran_err g c =
    let outside = g.P.Platform.outside in
    let states = g.P.Platform.crash_states in
    let old = c.args.platform.now in
    let mid = c.anchor.new.self in
    let new = c.format.new.platform in
    let reads = reads_none outside states g.met.P.Platform.counts old mid c.anchor.result
    c.anchor.ensures.trace c.anchor.ensures.image c.anchor.ensures.anchor c.anchor.ensures.now c.anchor.ensures.time c.anchor.ensures.told in
    let settled = told_settled outside states g.met.P.Platform.counts g.met.P.Platform.numbered
    (store_under c.args.secret.now c.args.suite) old new mid c.anchor.ensures.told.tells c.in-Ok.ensures.settled in
    whatever_err c.match-format.result
    (λ e. inl (step_settled outside states (store_under c.args.secret.now c.args.suite) old mid new reads settled c.format.result
    (subst (λ (k : List ℕ). RanStep outside states (store_under k c.args.suite) [] mid new c.format.result) c.new.ensures c.format.ensures.steps)))

pub returns-clause-formatted : goal.returns-clause-formatted
returns-clause-formatted g c =
    let outside = g.P.Platform.outside in
    let mid = c.anchor.new.self in
    let new = c.format.new.platform in
    let store = store_under c.args.secret.now c.args.suite in
    let sound_before : IsSound c.args.secret.now (outside new) → IsTrue (outside mid).tells =
    λ sound. subst (λ (t : Bool). IsTrue t) c.format.ensures.tells sound.tells in
    let told : IsSound c.args.secret.now (outside new) → IsTrue (outside c.args.platform.now).tells =
    λ sound. subst (λ (t : Bool). IsTrue t) c.anchor.ensures.told.tells (sound_before sound) in
    let none : IsSound c.args.secret.now (outside new) → (outside mid).anchor.0 ≡ 0 =
    λ sound. ap (λ (a : Anchor). a.0) (c.anchor.ensures.anchor (told sound)) ∙ sym (ap (λ (a : Anchor). a.0) (c.in-Ok.ensures.given (told sound)))
    ∙ c.if-count-ne0.false in
    elim c.match-format.branch [
      | in-Ok-format w ↦ subst (λ (r : Result _ FormatError). OnOk r (IsSound c.args.secret.now (outside new)
          → IsLog (outside new).trace.written store (outside new).anchor [] (formatted_state store c.args.segments)))
          (sym w.result-is)
          (λ sound. new_log (outside mid) (outside new) store c.args.segments c.format.result _ w.in-Ok-format.is (none sound)
          (subst (λ (k : List ℕ). HasGrownBy (store_under k c.args.suite) (outside mid) (outside new)
          (UnlessErr (Formatted (store_under k c.args.suite) c.args.segments) c.format.result) (outside new).anchor)
          c.new.ensures (c.format.ensures.added (sound_before sound)).history) sound)
      | in-Err-Memory w ↦ subst (λ (r : Result _ FormatError). OnOk r (IsSound c.args.secret.now (outside new)
          → IsLog (outside new).trace.written store (outside new).anchor [] (formatted_state store c.args.segments)))
          (sym w.result-is) tt
      | in-Err-Fault w ↦ subst (λ (r : Result _ FormatError). OnOk r (IsSound c.args.secret.now (outside new)
          → IsLog (outside new).trace.written store (outside new).anchor [] (formatted_state store c.args.segments)))
          (sym w.result-is) tt
    ]

pub returns-in_default-clause-over_a_store : goal.returns-in_default-clause-over_a_store
returns-in_default-clause-over_a_store g c tells some =
    reads_none g.P.Platform.outside g.P.Platform.crash_states g.met.P.Platform.counts c.args.platform.now c.anchor.new.self c.anchor.result
    c.anchor.ensures.trace c.anchor.ensures.image c.anchor.ensures.anchor c.anchor.ensures.now c.anchor.ensures.time c.anchor.ensures.told

pub returns-then-count-ne0-clause-over_a_store : goal.returns-then-count-ne0-clause-over_a_store
returns-then-count-ne0-clause-over_a_store g c tells some =
    reads_none g.P.Platform.outside g.P.Platform.crash_states g.met.P.Platform.counts c.args.platform.now c.anchor.new.self c.anchor.result
    c.anchor.ensures.trace c.anchor.ensures.image c.anchor.ensures.anchor c.anchor.ensures.now c.anchor.ensures.time c.anchor.ensures.told

pub returns-clause-over_a_store : goal.returns-clause-over_a_store
returns-clause-over_a_store g c tells some =
    absurd (some (sym (ap (λ (a : Anchor). a.0) (c.in-Ok.ensures.given tells)) ∙ c.if-count-ne0.false))

pub returns-in_default-clause-texts : goal.returns-in_default-clause-texts
returns-in_default-clause-texts g c =
    first_text_unwritten (g.P.Platform.outside c.args.platform.now) (g.P.Platform.outside c.anchor.new.self) c.args.secret.now
    c.anchor.ensures.trace

pub returns-then-count-ne0-clause-texts : goal.returns-then-count-ne0-clause-texts
returns-then-count-ne0-clause-texts g c =
    first_text_unwritten (g.P.Platform.outside c.args.platform.now) (g.P.Platform.outside c.anchor.new.self) c.args.secret.now
    c.anchor.ensures.trace

pub returns-clause-texts : goal.returns-clause-texts
returns-clause-texts g c =
    let outside = g.P.Platform.outside in
    let old = c.args.platform.now in
    let mid = c.anchor.new.self in
    let new = c.format.new.platform in
    first_text_behind (outside old) (outside mid) (outside new) c.args.secret.now c.anchor.ensures.told.tells c.anchor.ensures.trace
    (subst (λ (k : List ℕ). WritesFirstText k (outside mid) (outside new)) c.new.ensures c.format.ensures.texts)

pub returns-clause-moments : goal.returns-clause-moments
returns-clause-moments g c =
    let outside = g.P.Platform.outside in
    let states = g.P.Platform.crash_states in
    let old = c.args.platform.now in
    let mid = c.anchor.new.self in
    let new = c.format.new.platform in
    let store = store_under c.args.secret.now c.args.suite in
    let reads = reads_none outside states g.met.P.Platform.counts old mid c.anchor.result
    c.anchor.ensures.trace c.anchor.ensures.image c.anchor.ensures.anchor c.anchor.ensures.now c.anchor.ensures.time c.anchor.ensures.told in
    let settled = told_settled outside states g.met.P.Platform.counts g.met.P.Platform.numbered
    store old new mid c.anchor.ensures.told.tells c.in-Ok.ensures.settled in
    settled_moments outside states g.met.P.Platform.counts g.met.P.Platform.numbered store old new [] []
    (step_settled outside states store old mid new reads settled c.format.result
    (subst (λ (k : List ℕ). RanStep outside states (store_under k c.args.suite) [] mid new c.format.result) c.new.ensures c.format.ensures.steps))
