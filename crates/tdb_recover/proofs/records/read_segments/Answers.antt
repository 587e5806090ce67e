use Rattle.std.proofs.Common.{◌≡◌, ◌∙◌, ◌+◌, ap, refl, sym, subst, ℕ}
use Rattle.std.proofs.lemmas.Bool.{false≢true}
use Rattle.tdb_node.specs.declared.table.Table.{Table}
use Rattle.tdb_node.specs.SegmentTable.{IsUsed, table_bytes}
use Rattle.tdb_overlay.specs.Placement.{LiesBelow}
use Rattle.tdb_overlay.proofs.ReadingLaws.{reads_nothing}
use Rattle.tdb_seg.specs.SegmentSpace.{EndsInSegment, SegmentSpace}
use Rattle.tdb_seg.specs.TableSpace.{table_space}
use Rattle.tdb_recover.specs.Explained.{IsExplained}
use Rattle.tdb_recover.proofs.Answering.{if_err_and}
use Rattle.tdb_recover.proofs.Counted.{most_none}
use Rattle.tdb_recover.proofs.Tables.{table_is, table_lies, table_record, table_spelled, table_tail}
use Rattle.tdb_recover.proofs.records.read_segments.Goals as goal
use Rattle.tdb_recover.proofs.records.read_segments.Goals.{then-table-text-via-then-table-text, then-table-text-via-else-table-text+then-not-is_tail}

pub returns-then-not-holds-clause-reads : goal.returns-then-not-holds-clause-reads
returns-then-not-holds-clause-reads g c = reads_nothing g.P.Platform.outside g.P.Platform.crash_states g.met.P.Platform.counts c.args.platform.now

pub returns-then-not-holds-clause-most : goal.returns-then-not-holds-clause-most
returns-then-not-holds-clause-most g c =
    most_none 1 (g.P.Platform.outside c.args.platform.now) (g.P.Platform.outside c.args.platform.now) (λ t. refl)

pub returns-then-not-holds-clause-explained : goal.returns-then-not-holds-clause-explained
returns-then-not-holds-clause-explained g c t given =
    let old = g.P.Platform.outside c.args.platform.now in
    let text = c.args.text.now in
    let same : c.new.result.segments ≡ text.segments = ap (λ (s : SegmentSpace). s.segments) c.new.ensures in
    let lies = table_lies old.trace.written old.trace c.args.keys.now text given c.requires in
    false≢true (sym c.if-not-holds.true ∙ c.holds.ensures.1 (subst (λ (n : ℕ). LiesBelow n text.first) (sym same) lies))

pub returns-in_err-plain-clause-explained : goal.returns-in_err-plain-clause-explained
returns-in_err-plain-clause-explained g c t =
    let old = g.P.Platform.outside c.args.platform.now in
    let new = g.P.Platform.outside c.open_record.new.platform in
    if_err_and c.from_residual.result _ _ c.from_residual.ensures.1
    (λ e is given.
    subst (IsExplained old new (λ p. p ≡ c.args.text.now.first)) (sym is)
    (c.in_err-plain.ensures.explained t (table_bytes given.table.table) (table_record old.trace.written new.trace c.args.keys.now c.args.text.now given)))

pub returns-in-Err-clause-explained : goal.returns-in-Err-clause-explained
returns-in-Err-clause-explained g c t given =
    let old = g.P.Platform.outside c.args.platform.now in
    let new = g.P.Platform.outside c.open_record.new.platform in
    let text = c.args.text.now in
    let is = c.as_slice.ensures.value ∙ c.in_ok-plain.ensures.plain t (table_bytes given.table.table) (table_record old.trace.written new.trace c.args.keys.now text given) in
    c.in-Err.ensures.form.1 given.table.table (table_spelled old.trace.written new.trace c.args.keys.now text given c.as_slice.result.now is)

pub returns-then-table-text-clause-explained : goal.returns-then-table-text-clause-explained
returns-then-table-text-clause-explained g c t given =
    let old = g.P.Platform.outside c.args.platform.now in
    let new = g.P.Platform.outside c.open_record.new.platform in
    let text = c.args.text.now in
    let is = c.as_slice.ensures.value ∙ c.in_ok-plain.ensures.plain t (table_bytes given.table.table) (table_record old.trace.written new.trace c.args.keys.now text given) in
    let same = table_is old.trace.written new.trace c.args.keys.now text given c.in-Ok.table c.as_slice.result.now is c.in-Ok.ensures.found in
    let tail = table_tail old.trace.written new.trace c.args.keys.now text given c.requires in
    elim c.then-table-text.branch [
      | then-table-text-via-then-table-text w ↦ w.if-table-text.true (ap (λ (x : Table). x.segments) same ∙ given.table.segments)
      | then-table-text-via-else-table-text+then-not-is_tail w ↦ false≢true
          (sym w.if-not-is_tail.true
          ∙ w.is_tail.ensures.1 (tail.0, subst (λ (x : Table). IsUsed x tail.0) (sym same) tail.1, subst (λ (n : ℕ). EndsInSegment (text.first.place.0 + n) tail.0) (sym c.from.ensures) tail.2))
    ]

pub returns-clause-segments : goal.returns-clause-segments
returns-clause-segments g c t given =
    let old = g.P.Platform.outside c.args.platform.now in
    let new = g.P.Platform.outside c.open_record.new.platform in
    let text = c.args.text.now in
    let is = c.as_slice.ensures.value ∙ c.in_ok-plain.ensures.plain t (table_bytes given.table.table) (table_record old.trace.written new.trace c.args.keys.now text given) in
    let same = table_is old.trace.written new.trace c.args.keys.now text given c.in-Ok.table c.as_slice.result.now is c.in-Ok.ensures.found in
    let end : c.from.result ≡ text.first.length = c.from.ensures in
    c.at.ensures
    ∙ ap (λ (x : Table). table_space x (record { 0 = text.first.place.0 + c.from.result })) same
    ∙ ap (λ (n : ℕ). table_space given.table.table (record { 0 = text.first.place.0 + n })) end
