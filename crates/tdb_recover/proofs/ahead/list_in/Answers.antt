use Rattle.std.proofs.Common.{◌∙◌, List, ap, sym, subst, Err}
use Rattle.std.specs.List.{AllByRecursion}
use Rattle.std.proofs.lemmas.Bool.{false≢true}
use Rattle.tdb_list.specs.declared.entry.Entry.{Entry}
use Rattle.tdb_list.specs.ChangeList.{IsChangeList}
use Rattle.tdb_overlay.specs.Changes.{named_records}
use Rattle.tdb_overlay.specs.Placement.{LiesBelow}
use Rattle.tdb_recover.proofs.AheadList.{is_list, not_lying, not_spelled}
use Rattle.tdb_recover.proofs.ahead.list_in.Goals as goal

pub returns-in-Err-Form-read_list-clause-none : goal.returns-in-Err-Form-read_list-clause-none
returns-in-Err-Form-read_list-clause-none c =
    let refuted = c.in-Err-Form-read_list.ensures.form (ap Err c.in-Err-Form-read_list.field-0-is) in
    not_spelled c.args.keys.now c.args.log.now c.args.commit.now c.args.bytes.now _ c.in-Ok.ensures.found
    (λ entries list. refuted entries (subst (IsChangeList entries) (sym c.as_slice.ensures.value) list))

pub returns-then-records_lie-clause-some : goal.returns-then-records_lie-clause-some
returns-then-records_lie-clause-some c =
    let entries = c.in-Ok-read_list.entries.items in
    is_list c.args.keys.now c.args.log.now c.args.commit.now c.args.bytes.now c.in-Ok.plain.items c.in-Ok.ensures.found
    entries (c.has_digest.ensures.0 c.if-not-has_digest.false)
    (subst (IsChangeList entries) c.as_slice.ensures.value c.in-Ok-read_list.ensures.found)
    (subst (λ (l : List Entry). AllByRecursion (LiesBelow c.args.log.now.segments.segments) (named_records l)) c.as_slice-2.ensures.value
    (c.records_lie.ensures.0 c.if-records_lie.true))

pub returns-clause-none : goal.returns-clause-none
returns-clause-none c =
    let found = c.in-Ok-read_list.entries.items in
    not_lying c.args.keys.now c.args.log.now c.args.commit.now c.args.bytes.now c.in-Ok.plain.items c.in-Ok.ensures.found
    found (subst (IsChangeList found) c.as_slice.ensures.value c.in-Ok-read_list.ensures.found)
    (λ lie.
    false≢true
    (sym c.if-records_lie.false
    ∙ c.records_lie.ensures.1
    (subst (λ (l : List Entry). AllByRecursion (LiesBelow c.args.log.now.segments.segments) (named_records l))
    (sym c.as_slice-2.ensures.value) lie)))
