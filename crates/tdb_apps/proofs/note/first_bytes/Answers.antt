use Rattle.std.proofs.Common.{ℕ, take, ◌∙◌, ap}
use Rattle.std.proofs.lemmas.List.{take_min}
use Rattle.tdb_apps.proofs.note.first_bytes.Goals as goal

pub returns : goal.returns
returns c =
    let text = c.args.text.now in
    c.in-Some.ensures.text ∙ ap (λ (n : ℕ). take n text) c.min-length.ensures ∙ take_min 32 text
