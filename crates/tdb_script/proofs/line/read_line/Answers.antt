use Rattle.tdb_script.proofs.LineLaws.{line_value_unique}
use Rattle.tdb_script.proofs.line.read_line.Goals as goal

pub returns-in-Some-clause-unique : goal.returns-in-Some-clause-unique
returns-in-Some-clause-unique c = line_value_unique c.args.bytes.now

pub returns-in-Some-read_command-clause-unique : goal.returns-in-Some-read_command-clause-unique
returns-in-Some-read_command-clause-unique c = line_value_unique c.args.bytes.now

pub returns-clause-unique : goal.returns-clause-unique
returns-clause-unique c = line_value_unique c.args.bytes.now

pub returns-in-Some-read_command-2-clause-unique :
    goal.returns-in-Some-read_command-2-clause-unique
returns-in-Some-read_command-2-clause-unique c = line_value_unique c.args.bytes.now

pub returns-in-Some-read_get-clause-unique : goal.returns-in-Some-read_get-clause-unique
returns-in-Some-read_get-clause-unique c = line_value_unique c.args.bytes.now

pub returns-in-Some-read_part_command-clause-unique :
    goal.returns-in-Some-read_part_command-clause-unique
returns-in-Some-read_part_command-clause-unique c = line_value_unique c.args.bytes.now

pub returns-in-Some-read_part_command-2-clause-unique :
    goal.returns-in-Some-read_part_command-2-clause-unique
returns-in-Some-read_part_command-2-clause-unique c = line_value_unique c.args.bytes.now

pub returns-in-Some-read_peek-clause-unique : goal.returns-in-Some-read_peek-clause-unique
returns-in-Some-read_peek-clause-unique c = line_value_unique c.args.bytes.now
