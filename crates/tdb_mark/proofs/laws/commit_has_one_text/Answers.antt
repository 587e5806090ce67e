use Rattle.tdb_mark.proofs.TextLemmas.{one_text}
use Rattle.tdb_mark.proofs.laws.commit_has_one_text.Goals as goal

pub returns : goal.returns
returns c key one other v w same = one_text key one other v w same
