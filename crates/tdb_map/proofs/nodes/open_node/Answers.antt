use Rattle.std.proofs.Common.{◌≡◌, ◌∙◌, ℕ, List, sym, subst}
use Rattle.tdb_node.specs.Node.{IsNode}
use Rattle.tdb_seal.specs.declared.record.Name.{Name}
use Rattle.tdb_seal.specs.SealedRecord.{IsSealedRecord}
use Rattle.tdb_seal.proofs.RecordSpelling.{same_plain}
use Rattle.tdb_map.proofs.nodes.open_node.Goals as goal

pub returns-in-Ok-clause-form : goal.returns-in-Ok-clause-form
returns-in-Ok-clause-form c refused node is =
    let key = c.args.tree.now.key.0 in
    let sealed = subst (λ (name : Name). IsSealedRecord key name is.plain c.args.bytes.now) (sym c.node_name.ensures) is.sealed in
    let same : is.plain ≡ c.deref.result.now = same_plain key c.node_name.result is.plain c.in-Ok.plain.items c.args.bytes.now sealed c.in-Ok.ensures.found ∙ sym c.deref.ensures.value in
    c.read_node.ensures.form refused node (subst (λ (plain : List ℕ). IsNode node plain) same is.spelled)
