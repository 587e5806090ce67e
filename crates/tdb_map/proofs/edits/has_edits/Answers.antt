use Rattle.std.proofs.Common.{◌≡◌, ℕ, ◌+◌, ◌<◌, ◌↔◌, IsTrue, Bool, length, ap, sym, subst, ◌∙◌}
use Rattle.tdb_map.proofs.NumberLemmas.{edits_between, some_next}
use Rattle.tdb_map.specs.Edits.{edits_in}
use Rattle.tdb_map.proofs.edits.has_edits.Goals as goal

pub returns : goal.returns
returns c =
    let found = some_next _ c.next.result c.range.result c.next.new.self c.next.ensures.steps in
    let count : edits_in c.args.height c.args.number (c.args.number + 1) c.args.edits.now.entries ≡ length c.range.result
    = edits_between c.args.height c.args.number c.span-width.result c.span-width.ensures.is c.span-width.ensures.positive c.args.edits.now.entries ∙ ap length (sym (c.range.ensures.between tt)) in
    subst (λ (n : ℕ). IsTrue c.is_some.result ↔ (0 < n)) (sym count) (subst (λ (b : Bool). IsTrue b ↔ (0 < length c.range.result)) (sym c.is_some.ensures) found)
