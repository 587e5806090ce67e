use Rattle.std.proofs.Common.{ℕ, List, [], ◌++◌, take, codes, ap, ◌∙◌}
use Rattle.tdb_seal.specs.InitialVector.{initial_vector}
use Rattle.tdb_seal.proofs.cipher.Cipher.vector.Goals as goal

pub returns : goal.returns
unfolding initial_vector
returns c =
    let key : List ℕ = c.args.self.now.mac in
    let text : List ℕ = codes "TDBiv001" ++ c.args.head.now ++ c.args.plain.now in
    c.first_16.ensures
    ∙ ap (take 16) (c.finish.ensures key text (c.update-3.ensures key _ (c.update-2.ensures key _ (c.update.ensures key [] c.start-text.ensures))))
