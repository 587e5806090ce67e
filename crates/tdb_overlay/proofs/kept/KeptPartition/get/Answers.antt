use Rattle.std.proofs.Common.{◌≡◌, Some, None, sym, ap, ◌∙◌}
use Rattle.std.specs.BTreeMap as tree
use Rattle.std.specs.Option.{option_map, option_copied}
use Rattle.std.specs.Ordering.{nat_cmp}
use Rattle.tdb_model.proofs.MemoryLemmas.{get_seen}
use Rattle.tdb_overlay.specs.Lookup.{seen_in}
use Rattle.tdb_overlay.proofs.kept.KeptPartition.get.Goals as goal

pub returns-in-None : goal.returns-in-None
returns-in-None c =
    let there : tree.get nat_cmp c.args.self.now.edits c.args.rank ≡ None = sym c.get.ensures.value ∙ ap option_copied c.in-None.is in
    sym (ap seen_in (get_seen (λ piece. piece) c.args.self.now.edits c.args.rank ∙ ap (option_map (λ piece. piece)) there))

pub returns-in-Some-None : goal.returns-in-Some-None
returns-in-Some-None c =
    let there : tree.get nat_cmp c.args.self.now.edits c.args.rank ≡ Some None = sym c.get.ensures.value ∙ ap option_copied c.in-Some-None.is ∙ ap Some c.in-Some-None.field-0-is in
    sym (ap seen_in (get_seen (λ piece. piece) c.args.self.now.edits c.args.rank ∙ ap (option_map (λ piece. piece)) there))

pub returns-in-Some-Some : goal.returns-in-Some-Some
returns-in-Some-Some c =
    let there : tree.get nat_cmp c.args.self.now.edits c.args.rank ≡ Some (Some c.in-Some-Some.piece) = sym c.get.ensures.value ∙ ap option_copied c.in-Some-Some.is ∙ ap Some c.in-Some-Some.field-0-is in
    sym (ap seen_in (get_seen (λ piece. piece) c.args.self.now.edits c.args.rank ∙ ap (option_map (λ piece. piece)) there))
