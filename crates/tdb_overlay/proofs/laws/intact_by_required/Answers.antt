use Rattle.tdb_overlay.proofs.ImageLaws.{intact_same}
use Rattle.tdb_overlay.proofs.laws.intact_by_required.Goals as goal

pub returns : goal.returns
returns c image other written store anchor same is = intact_same image other written store anchor same is
