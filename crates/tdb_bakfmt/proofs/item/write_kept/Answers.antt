use Rattle.std.proofs.Common.{◌<◌, ◌^◌, subst, arith}
use Rattle.tdb_seal.specs.declared.record.Name.{Name}
use Rattle.tdb_seal.specs.SealedRecord.{IsSealedRecord}
use Rattle.tdb_bakfmt.proofs.ItemSpelling.{record_fits}
use Rattle.tdb_bakfmt.proofs.item.write_kept.Goals as goal

pub overflow_cast-len : goal.overflow_cast-len
overflow_cast-len c =
    let opened = subst (λ (n : Name). IsSealedRecord c.args.key.now.0 n c.args.plain.now c.in_ok-sealed.sealed.items) c.name_of.ensures c.in_ok-sealed.ensures in
    omega (arith, c.len-2.ensures, record_fits c.args.header.now c.args.key.now.0 c.args.rank c.args.plain.now c.in_ok-sealed.sealed.items c.requires opened)
