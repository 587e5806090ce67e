use Rattle.tdb_serve.proofs.Unreading.{unread_rest}
use Rattle.tdb_serve.proofs.script_lines.ScriptLines.pass.Goals as goal

pub returns-clause-moved : goal.returns-clause-moved
returns-clause-moved c = unread_rest c.args.self.now.chunk.items c.args.self.now.start c.args.self.now.end c.args.count c.requires
