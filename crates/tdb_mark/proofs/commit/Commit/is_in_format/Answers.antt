use Rattle.std.proofs.lemmas.Bool.Decides.{Decides-at}
use Rattle.tdb_mark.proofs.FormatLemmas.{Decides-is_in_format}
use Rattle.tdb_mark.proofs.commit.Commit.is_in_format.Goals as goal

pub returns-clause-meaning : goal.returns-clause-meaning
returns-clause-meaning c = Decides-at _ _ c.ranges_hold.ensures (Decides-is_in_format c.args.self.now)
