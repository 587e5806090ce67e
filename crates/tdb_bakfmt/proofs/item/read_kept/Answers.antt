use Rattle.std.proofs.Common.{◌≡◌, ℕ, List, length, ap, subst, arith}
use Rattle.tdb_seal.specs.declared.record.Name.{Name}
use Rattle.tdb_seal.specs.SealedRecord.{IsSealedRecord}
use Rattle.tdb_seal.proofs.RecordSpelling.{same_plain}
use Rattle.tdb_bakfmt.specs.Item.{item_name}
use Rattle.tdb_bakfmt.proofs.ItemSpelling.{record_behind}
use Rattle.tdb_bakfmt.proofs.item.read_kept.Goals as goal

pub returns-then-length-sealed-clause-form : goal.returns-then-length-sealed-clause-form
returns-then-length-sealed-clause-form c same plain kept =
    let has = record_behind c.args.header.now c.args.key.now.0 c.args.rank plain c.args.rest.now c.split_u32-length.result.0 c.split_u32-length.result.1.now kept (omega arith) c.split_u32-length.ensures in
    c.if-length-sealed.true has.long_is

pub returns-then-len-gt-CHUNK_LIMIT-clause-form : goal.returns-then-len-gt-CHUNK_LIMIT-clause-form
returns-then-len-gt-CHUNK_LIMIT-clause-form c same plain kept =
    let has = record_behind c.args.header.now c.args.key.now.0 c.args.rank plain c.args.rest.now c.split_u32-length.result.0 c.split_u32-length.result.1.now kept (omega arith) c.split_u32-length.ensures in
    let found = subst (λ (n : Name). IsSealedRecord c.args.key.now.0 n c.in-Ok.plain.items c.split_u32-length.result.1.now) c.name_of.ensures c.in-Ok.ensures.found in
    let given : c.in-Ok.plain.items ≡ plain = same_plain c.args.key.now.0 (item_name c.args.header.now c.args.rank) c.in-Ok.plain.items plain c.split_u32-length.result.1.now found has.opened in
    omega (arith, ap (λ (l : List ℕ). length l) given, has.short, c.len.ensures)
