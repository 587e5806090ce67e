use Rattle.std.proofs.Common.{◌≡◌, ◌∙◌, ℕ, List, Option, None, get_or, ap, refl, arith}
use Rattle.tdb_base.specs.declared.piece.Piece.{Piece}
use Rattle.tdb_node.proofs.NodeSpelling.{is_empty_node, empty_node_at}
use Rattle.tdb_node.proofs.node.has_none.Goals as goal

pub returns-then-is_some : goal.returns-then-is_some
returns-then-is_some c = (
  λ no. absurd (cc no),
  λ e.
      let at : ℕ = c.loop-entry.entry-index in
      let none : get_or c.args.entries.now at None ≡ None = ap (λ (l : List (Option Piece)). get_or l at None) e ∙ empty_node_at at in
      grind (arith, none, c.is_some.ensures, c.if-is_some.true),
)

pub returns : goal.returns
returns c = (λ _. is_empty_node c.args.entries.now (omega arith) (λ k below. c.loop-entry.invariant k (omega (arith, below, c.loop-entry-test.false))), λ _. refl)
