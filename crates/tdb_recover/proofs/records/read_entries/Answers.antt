use Rattle.std.proofs.Common.{◌≡◌, ◌∙◌, ap, refl, sym, subst, Err}
use Rattle.std.proofs.lemmas.Bool.{false≢true}
use Rattle.tdb_list.specs.ChangeList.{IsChangeList}
use Rattle.tdb_overlay.proofs.ReadingLaws.{reads_nothing}
use Rattle.tdb_recover.specs.Explained.{IsExplained}
use Rattle.tdb_recover.proofs.Answering.{if_err_and}
use Rattle.tdb_recover.proofs.Counted.{most_none}
use Rattle.tdb_recover.proofs.Tables.{list_is, list_record}
use Rattle.tdb_recover.proofs.records.read_entries.Goals as goal

pub returns-then-not-holds-clause-reads : goal.returns-then-not-holds-clause-reads
returns-then-not-holds-clause-reads g c = reads_nothing g.P.Platform.outside g.P.Platform.crash_states g.met.P.Platform.counts c.args.platform.now

pub returns-then-not-holds-clause-most : goal.returns-then-not-holds-clause-most
returns-then-not-holds-clause-most g c =
    most_none 1 (g.P.Platform.outside c.args.platform.now) (g.P.Platform.outside c.args.platform.now) (λ t. refl)

pub returns-then-not-holds-clause-explained : goal.returns-then-not-holds-clause-explained
returns-then-not-holds-clause-explained g c t changes given lies = false≢true (sym c.if-not-holds.true ∙ c.holds.ensures.1 lies)

pub returns-in_err-plain-clause-explained : goal.returns-in_err-plain-clause-explained
returns-in_err-plain-clause-explained g c t =
    let old = g.P.Platform.outside c.args.platform.now in
    let new = g.P.Platform.outside c.open_record.new.platform in
    if_err_and c.from_residual.result _ _ c.from_residual.ensures.1
    (λ e is changes given lies.
    subst (IsExplained old new (λ p. p ≡ c.args.text.now.first)) (sym is)
    (c.in_err-plain.ensures.explained t given.list.plain (list_record old.trace.written new.trace c.args.keys.now c.args.text.now changes given)))

pub returns-in-Ok-clause-entries : goal.returns-in-Ok-clause-entries
returns-in-Ok-clause-entries g c t changes given =
    let old = g.P.Platform.outside c.args.platform.now in
    let new = g.P.Platform.outside c.open_record.new.platform in
    let text = c.args.text.now in
    let is = c.as_slice.ensures.value ∙ c.in_ok-plain.ensures.plain t given.list.plain (list_record old.trace.written new.trace c.args.keys.now text changes given) in
    list_is old.trace.written new.trace c.args.keys.now text changes given c.in-Ok.entries.items c.as_slice.result.now is c.in-Ok.ensures.found

pub returns-in-Err-Form-clause-explained : goal.returns-in-Err-Form-clause-explained
returns-in-Err-Form-clause-explained g c t changes given lies =
    let old = g.P.Platform.outside c.args.platform.now in
    let new = g.P.Platform.outside c.open_record.new.platform in
    let text = c.args.text.now in
    let is = c.as_slice.ensures.value ∙ c.in_ok-plain.ensures.plain t given.list.plain (list_record old.trace.written new.trace c.args.keys.now text changes given) in
    c.in-Err-Form.ensures.form (ap Err c.in-Err-Form.field-0-is) given.list.entries (subst (IsChangeList given.list.entries) (sym is) given.list.list)
