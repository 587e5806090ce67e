use Rattle.std.proofs.Common.{◌≡◌, ◌∙◌, ◌++◌, ◌<◌, ◌≤◌, ℕ, List, Option, None, length, take, drop, ap, sym, subst, arith, set, get_or, length-set, below_more, get_or-set_other, get_or-set_same, ◌≢◌}
use Rattle.std.proofs.lemmas.List.{take-append-drop}
use Rattle.std.proofs.lemmas.Result.{err_from_is_err_and}
use Rattle.tdb_base.specs.declared.piece.Piece.{Piece}
use Rattle.tdb_node.specs.Node.{IsEntry, IsEntryValue, node_bytes}
use Rattle.tdb_node.proofs.NodeSpelling.{each_taken, each_of, is_refused, whole_node, spelled_more}
use Rattle.tdb_node.proofs.node.read_entries.Goals as goal

pub returns-in_err-entries-clause-form : goal.returns-in_err-entries-clause-form
returns-in_err-entries-clause-form c =
    let p = err_from_is_err_and c.from_residual.result c.from_residual.ensures.1 in
    let found = c.loop-index.invariant in
    let at : ℕ = c.loop-index.index in
    let rest = c.loop-index.rest.now in
    let field = c.split_at.result.0.now in
    let split : rest ≡ field ++ c.split_at.result.1.now =
    sym (take-append-drop 48 rest) ∙ ap (λ (l : List ℕ). l ++ drop 48 rest) (sym c.split_at.ensures.front) ∙ ap (λ (l : List ℕ). field ++ l) (sym c.split_at.ensures.back) in
    let form = c.in_err-entries.ensures.form in
    rw (p.1, p.2) (
      form.0,
      λ other is.
          is_refused (take at c.loop-index.entries) other field c.split_at.result.1.now (each_taken IsEntryValue tt at c.loop-index.entries found.values) is.value.each is.format.each
          (omega arith) form.1 (ap (λ (l : List ℕ). node_bytes (take at c.loop-index.entries) ++ l) (sym split) ∙ sym found.spelled ∙ is.spelled),
    )

pub returns-clause-value : goal.returns-clause-value
returns-clause-value c =
    let all : 64 ≤ c.loop-index.index = c.loop-index-test.false in
    record {
      count = c.loop-index.invariant.count;
      each = each_of IsEntryValue tt 64 c.loop-index.entries (omega (arith, c.loop-index.invariant.count)) (λ k below. c.loop-index.invariant.values k (omega (arith, below, all)));
    }

pub returns-clause-each : goal.returns-clause-each
returns-clause-each c =
    let all : 64 ≤ c.loop-index.index = c.loop-index-test.false in
    each_of IsEntry tt 64 c.loop-index.entries (omega (arith, c.loop-index.invariant.count)) (λ k below. c.loop-index.invariant.each k (omega (arith, below, all)))

pub returns-clause-spelled : goal.returns-clause-spelled
returns-clause-spelled c =
    whole_node c.loop-index.index c.loop-index.entries c.args.bytes.now c.loop-index.rest.now (omega (arith, c.loop-index.invariant.count, c.loop-index-test.false, c.loop-index.auto.index-end)) (omega (arith, c.loop-index.invariant.left, c.loop-index-test.false)) c.loop-index.invariant.spelled

pub loop-index-preserved : goal.loop-index-preserved
loop-index-preserved c =
    let found = c.loop-index.invariant in
    let at : ℕ = c.loop-index.index in
    let old = c.loop-index.entries in
    let new = c.in_ok-entries.field-0 in
    let field = c.split_at.result.0.now in
    let behind = c.split_at.result.1.now in
    let inside : at < length old = omega (arith, found.count, c.loop-index-test.true) in
    let split : c.loop-index.rest.now ≡ field ++ behind =
    sym (take-append-drop 48 c.loop-index.rest.now) ∙ ap (λ (l : List ℕ). l ++ drop 48 c.loop-index.rest.now) (sym c.split_at.ensures.front) ∙ ap (λ (l : List ℕ). field ++ l) (sym c.split_at.ensures.back) in
    let read = c.in_ok-entries.ensures.found in
    let more = (λ (P : Option Piece → Type 0) (before : (k : ℕ) → k < at → P (get_or old k None)) (here : P new). below_more (λ (k : ℕ). P (get_or (set old at new) k None)) at
    (λ k less. let other : k ≢ at = omega (arith, less) in subst P (sym (get_or-set_other old at k new None other)) (before k less))
    (subst P (sym (get_or-set_same old at new None inside)) here)) in
    record {
      count = simp length-set found.count;
      left = omega (arith, found.left, c.split_at.ensures.back_len);
      values = more IsEntryValue found.values read.0;
      each = more IsEntry found.each read.1;
      spelled = found.spelled ∙ ap (λ (l : List ℕ). node_bytes (take at old) ++ l) (split ∙ ap (λ (l : List ℕ). l ++ behind) read.2) ∙ sym (spelled_more at old new behind inside);
    }
