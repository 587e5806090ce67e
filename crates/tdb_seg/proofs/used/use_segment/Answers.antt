use Rattle.std.proofs.Common.{◌<◌, arith}
use Rattle.tdb_seg.proofs.UsedWords.{marked-value, marked-table, used_in-marked}
use Rattle.tdb_seg.proofs.used.use_segment.Goals as goal

pub returns-clause-value : goal.returns-clause-value
returns-clause-value c = marked-value c.args.table.now c.requires.value c.args.segment (let small : c.args.segment < 4096 = omega (arith, c.requires.table.most) in small)

pub returns-clause-table : goal.returns-clause-table
returns-clause-table c = marked-table c.args.table.now c.requires.value c.requires.table c.args.segment c.requires.segment

pub returns-clause-used : goal.returns-clause-used
returns-clause-used c = used_in-marked c.args.table.now c.requires.value c.requires.table c.args.segment c.requires.segment
