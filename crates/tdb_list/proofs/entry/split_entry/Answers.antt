use Rattle.std.proofs.Common.{ℕ, List, ◌++◌, ap, ◌∙◌}
use Rattle.std.specs.Int.{w32, w64, to_be_bytes}
use Rattle.tdb_list.specs.Entry.{entry_bytes}
use Rattle.tdb_list.proofs.entry.split_entry.Goals as goal

pub returns-clause-spelled : goal.returns-clause-spelled
unfolding entry_bytes
returns-clause-spelled c =
    c.split_u32-kind.ensures
    ∙ ap (λ (l : List ℕ). to_be_bytes w32 c.split_u32-kind.result.0 ++ l) (c.split_u32-part.ensures
    ∙ ap (λ (l : List ℕ). to_be_bytes w32 c.split_u32-part.result.0 ++ l) (c.split_u32-rank.ensures
    ∙ ap (λ (l : List ℕ). to_be_bytes w32 c.split_u32-rank.result.0 ++ l) (c.split_u32-suite.ensures
    ∙ ap (λ (l : List ℕ). to_be_bytes w32 c.split_u32-suite.result.0 ++ l) (c.split_u32-home.ensures
    ∙ ap (λ (l : List ℕ). to_be_bytes w32 c.split_u32-home.result.0 ++ l) (c.split_u32-length.ensures
    ∙ ap (λ (l : List ℕ). to_be_bytes w32 c.split_u32-length.result.0 ++ l) (c.split_u64-birth.ensures
    ∙ ap (λ (l : List ℕ). to_be_bytes w64 c.split_u64-birth.result.0 ++ l) (c.split_u64-place.ensures
    ∙ ap (λ (l : List ℕ). to_be_bytes w64 c.split_u64-place.result.0 ++ l) c.split_bytes32.ensures)))))))
