use Rattle.std.proofs.Common.{◌≡◌, ℕ, List, ◌++◌, drop, ap, sym, ◌∙◌, refl, arith}
use Rattle.std.specs.Int.{w32, w64, to_be_bytes}
use Rattle.std.proofs.lemmas.List.{take-append-drop}
use Rattle.tdb_node.proofs.LeaderSpelling.{fields_of, suite_small}
use Rattle.tdb_node.proofs.leader.read_leader.Goals as goal

pub returns-in_default-clause-form : goal.returns-in_default-clause-form
returns-in_default-clause-form c = (
  refl,
  λ leader is.
      let magic = c.split_at.result.0.now in
      let suite = c.split_u32-suite.result.0 in
      let home = c.split_u32-home.result.0 in
      let birth = c.split_u64-birth.result.0 in
      let next = c.split_u32-next.result.0 in
      let parent = c.split_u32-parent.result.0 in
      let born = c.split_u64-born.result.0 in
      let field = c.split_u64-born.result.1.now in
      let spelled : c.args.bytes.now ≡ magic ++ (to_be_bytes w32 suite ++ (to_be_bytes w32 home ++ (to_be_bytes w64 birth ++ (to_be_bytes w32 next ++ (to_be_bytes w32 parent ++ (to_be_bytes w64 born ++ field)))))) =
      sym (take-append-drop 8 c.args.bytes.now)
      ∙ ap (λ (l : List ℕ). l ++ drop 8 c.args.bytes.now) (sym c.split_at.ensures.front)
      ∙ ap (λ (l : List ℕ). magic ++ l) (sym c.split_at.ensures.back ∙ c.split_u32-suite.ensures
      ∙ ap (λ (l : List ℕ). to_be_bytes w32 suite ++ l) (c.split_u32-home.ensures
      ∙ ap (λ (l : List ℕ). to_be_bytes w32 home ++ l) (c.split_u64-birth.ensures
      ∙ ap (λ (l : List ℕ). to_be_bytes w64 birth ++ l) (c.split_u32-next.ensures
      ∙ ap (λ (l : List ℕ). to_be_bytes w32 next ++ l) (c.split_u32-parent.ensures
      ∙ ap (λ (l : List ℕ). to_be_bytes w32 parent ++ l) c.split_u64-born.ensures))))) in
      let fields = fields_of leader c.args.bytes.now magic suite home birth next parent born field is (omega arith)
      (omega arith) (omega arith) (omega arith) (omega arith) (omega arith) (omega arith) spelled in
      omega (arith, fields.suite_is, suite_small leader.suite, c.in_default.ensures.none.0 refl),
)
