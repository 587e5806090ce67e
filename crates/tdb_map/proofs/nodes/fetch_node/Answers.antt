use Rattle.std.proofs.Common.{inr, List, Option, ℕ, refl, subst}
use Rattle.tdb_base.specs.declared.piece.Piece.{Piece}
use Rattle.tdb_map.specs.Nodes.{IsNodeRecord}
use Rattle.tdb_map.proofs.nodes.fetch_node.Goals as goal

pub returns-in-Err-Form-clause-cause : goal.returns-in-Err-Form-clause-cause
returns-in-Err-Form-clause-cause g c = (
  refl,
  inr (
    c.in_ok-bytes.bytes.items,
    c.in_ok-bytes.ensures.digest,
    subst (λ (bytes : List ℕ). (node : List (Option Piece)) → IsNodeRecord c.args.tree.now c.args.level c.args.number node bytes → ⊥) c.deref.ensures.value (c.open_node.ensures.form (rw c.in-Err-Form.field-0-is at c.in-Err-Form.is)),
    c.in_ok-bytes.ensures.last,
  ),
)
