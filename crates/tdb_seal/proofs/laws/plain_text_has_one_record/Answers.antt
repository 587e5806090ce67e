use Rattle.std.proofs.Common.{sym, ◌∙◌}
use Rattle.tdb_seal.proofs.laws.plain_text_has_one_record.Goals as goal

pub returns : goal.returns
returns c key name plain one other is_one is_other = is_one.spelled ∙ sym is_other.spelled
