use Rattle.std.proofs.Common.{◌≡◌, ◌+◌, Err, None, Option, sym, ap, subst, refl, rules, ◌∙◌}
use Rattle.std.specs.Prelude.{IsSomeAnd}
use Rattle.tdb_append.specs.Placed.{placed}
use Rattle.tdb_list.specs.declared.entry.Entry.{Entry}
use Rattle.tdb_list.specs.Entry.{IsEntryValue}
use Rattle.tdb_model.specs.Check.{refusal as refusal_of}
use Rattle.tdb_model.specs.State.{State}
use Rattle.tdb_model.specs.declared.change.Change.{Change}
use Rattle.tdb_model.specs.declared.change.Change.TheVariants.{Free, Make, Copy, Drop}
use Rattle.tdb_base.specs.SuiteNumber.{suite_number}
use Rattle.tdb_seg.specs.SegmentSpace.{fits}
use Rattle.tdb_overlay.specs.StoreState.{record_of_change}
use Rattle.tdb_chunk.specs.Known.{store_of}
use Rattle.tdb_chunk.specs.declared.owner.Owner.{Owner}
use Rattle.tdb_chunk.specs.Laying.{IsLaid, IsOwner, entry_without, told_behind}
use Rattle.tdb_chunk.proofs.Entries.{copy_is, drop_is, free_is, make_is, plain_laid, write_refused}
use Rattle.tdb_chunk.proofs.Owners.{copy_allowed, drop_allowed, free_allowed, make_allowed, the_owner, write_allowed}
use Rattle.tdb_chunk.proofs.open_log.OpenLog.lay_change.Goals as goal

pub returns-in-Free-clause-laid : goal.returns-in-Free-clause-laid
returns-in-Free-clause-laid c =
    let was = c.args.self.now in
    let b = c.args.batch.now in
    let keep = c.args.keep in
    let start = was.log.segments in
    let state : State = told_behind (was.log.head.count + 1) was.log.overlay c.args.earlier.now in
    let change : Change = Free c.in-Free.part c.in-Free.rank in
    let allowed = free_allowed c.args.earlier.now state c.in-Free.part c.in-Free.rank (subst (λ (x : Change). refusal_of c.args.earlier.now state x ≡ None) c.in-Free.is c.requires.passes.passes) in
    let e : Entry = entry_without 2 c.in-Free.part.0 c.in-Free.rank.0 0 in
    let same : c.plain_entry.result ≡ e = c.plain_entry.ensures in
    let value : IsEntryValue c.plain_entry.result = search rules in
    subst (λ (x : Change). IsLaid was.keys state keep start x (placed b.pieces.items) b.segments c.plain_entry.result (placed b.pieces.items) b.segments) (sym c.in-Free.is)
    (subst (λ (d : Entry). IsLaid was.keys state keep start change (placed b.pieces.items) b.segments d (placed b.pieces.items) b.segments) (sym same)
    (plain_laid was.keys state keep start change (placed b.pieces.items) b.segments e refl (refl, refl, refl) tt (free_is c.in-Free.part.0 c.in-Free.rank.0 allowed.0 allowed.1) (subst IsEntryValue same value) c.requires.laid_out))

pub returns-in-Make-clause-laid : goal.returns-in-Make-clause-laid
returns-in-Make-clause-laid c =
    let was = c.args.self.now in
    let b = c.args.batch.now in
    let keep = c.args.keep in
    let start = was.log.segments in
    let state : State = told_behind (was.log.head.count + 1) was.log.overlay c.args.earlier.now in
    let change : Change = Make c.in-Make.part c.in-Make.suite in
    let allowed = make_allowed c.args.earlier.now state c.in-Make.part c.in-Make.suite (subst (λ (x : Change). refusal_of c.args.earlier.now state x ≡ None) c.in-Make.is c.requires.passes.passes) in
    let e : Entry = entry_without 3 c.in-Make.part.0 0 (suite_number c.in-Make.suite) in
    let same : c.plain_entry-in-Make.result ≡ e = c.plain_entry-in-Make.ensures ∙ ap (entry_without 3 c.in-Make.part.0 0) c.number.ensures in
    let value : IsEntryValue c.plain_entry-in-Make.result = search rules in
    subst (λ (x : Change). IsLaid was.keys state keep start x (placed b.pieces.items) b.segments c.plain_entry-in-Make.result (placed b.pieces.items) b.segments) (sym c.in-Make.is)
    (subst (λ (d : Entry). IsLaid was.keys state keep start change (placed b.pieces.items) b.segments d (placed b.pieces.items) b.segments) (sym same)
    (plain_laid was.keys state keep start change (placed b.pieces.items) b.segments e refl (refl, refl, refl) tt (make_is c.in-Make.part.0 c.in-Make.suite allowed) (subst IsEntryValue same value) c.requires.laid_out))

pub returns-in-Copy-clause-laid : goal.returns-in-Copy-clause-laid
returns-in-Copy-clause-laid c =
    let was = c.args.self.now in
    let b = c.args.batch.now in
    let keep = c.args.keep in
    let start = was.log.segments in
    let state : State = told_behind (was.log.head.count + 1) was.log.overlay c.args.earlier.now in
    let change : Change = Copy c.in-Copy.from c.in-Copy.to in
    let allowed = copy_allowed c.args.earlier.now state c.in-Copy.from c.in-Copy.to (subst (λ (x : Change). refusal_of c.args.earlier.now state x ≡ None) c.in-Copy.is c.requires.passes.passes) in
    let e : Entry = entry_without 4 c.in-Copy.from.0 c.in-Copy.to.0 0 in
    let same : c.plain_entry-in-Copy.result ≡ e = c.plain_entry-in-Copy.ensures in
    let value : IsEntryValue c.plain_entry-in-Copy.result = search rules in
    subst (λ (x : Change). IsLaid was.keys state keep start x (placed b.pieces.items) b.segments c.plain_entry-in-Copy.result (placed b.pieces.items) b.segments) (sym c.in-Copy.is)
    (subst (λ (d : Entry). IsLaid was.keys state keep start change (placed b.pieces.items) b.segments d (placed b.pieces.items) b.segments) (sym same)
    (plain_laid was.keys state keep start change (placed b.pieces.items) b.segments e refl (refl, refl, refl) tt (copy_is c.in-Copy.from.0 c.in-Copy.to.0 allowed.0 allowed.1) (subst IsEntryValue same value) c.requires.laid_out))

pub returns-in-Drop-clause-laid : goal.returns-in-Drop-clause-laid
returns-in-Drop-clause-laid c =
    let was = c.args.self.now in
    let b = c.args.batch.now in
    let keep = c.args.keep in
    let start = was.log.segments in
    let state : State = told_behind (was.log.head.count + 1) was.log.overlay c.args.earlier.now in
    let change : Change = Drop c.in-Drop.part in
    let allowed = drop_allowed c.args.earlier.now state c.in-Drop.part (subst (λ (x : Change). refusal_of c.args.earlier.now state x ≡ None) c.in-Drop.is c.requires.passes.passes) in
    let e : Entry = entry_without 5 c.in-Drop.part.0 0 0 in
    let same : c.plain_entry-in-Drop.result ≡ e = c.plain_entry-in-Drop.ensures in
    let value : IsEntryValue c.plain_entry-in-Drop.result = search rules in
    subst (λ (x : Change). IsLaid was.keys state keep start x (placed b.pieces.items) b.segments c.plain_entry-in-Drop.result (placed b.pieces.items) b.segments) (sym c.in-Drop.is)
    (subst (λ (d : Entry). IsLaid was.keys state keep start change (placed b.pieces.items) b.segments d (placed b.pieces.items) b.segments) (sym same)
    (plain_laid was.keys state keep start change (placed b.pieces.items) b.segments e refl (refl, refl) tt (drop_is c.in-Drop.part.0 allowed) (subst IsEntryValue same value) c.requires.laid_out))

pub returns-in-Some-clause-refused : goal.returns-in-Some-clause-refused
returns-in-Some-clause-refused c refusal is =
    let was = c.args.self.now in
    let b = c.args.batch.now in
    let part = c.in-Write.part in
    let rank = c.in-Write.rank in
    let state : State = told_behind (was.log.head.count + 1) was.log.overlay c.args.earlier.now in
    let allowed = write_allowed c.args.earlier.now state part rank c.in-Write.bytes (subst (λ (x : Change). refusal_of c.args.earlier.now state x ≡ None) c.in-Write.is c.requires.passes.passes) in
    let own : IsOwner part allowed.sealing c.in-Some.owner = subst (λ (o : Option Owner). IsSomeAnd o (IsOwner part allowed.sealing)) c.in-Some.is (the_owner state part rank c.in-Write.bytes c.owner_behind.result c.owner_behind.ensures allowed) in
    subst (λ (x : Change). fits b.segments (record_of_change (store_of was) state x) c.args.keep ≡ Err refusal) (sym c.in-Write.is)
    (write_refused (store_of was) state c.args.keep b.segments part rank c.in-Write.bytes c.in-Some.owner.suite allowed.sealing refusal allowed.is_there own.suite (c.lay_write.ensures.refused refusal is))
