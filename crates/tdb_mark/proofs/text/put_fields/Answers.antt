use Rattle.std.proofs.Common.{◌++◌, ℕ, List, take, replicate, ap, ◌∙◌}
use Rattle.std.specs.Int.{w32, w64, to_be_bytes}
use Rattle.tdb_base.specs.PieceBytes.{piece_bytes, entry_bytes}
use Rattle.tdb_base.specs.SuiteNumber.{suite_number}
use Rattle.tdb_mark.specs.CommitText.{commit_fields}
use Rattle.tdb_mark.proofs.text.put_fields.Goals as goal

-- each field stands behind those before it
pub returns : goal.returns
unfolding commit_fields
returns c =
    let x = c.args.commit.now in
    c.put_bytes-2.ensures.front ∙ ap (λ (l : List ℕ). l ++ replicate 64 0)
    (c.put_entry.ensures.front ∙ ap (λ (l : List ℕ). l ++ entry_bytes x.root)
    (c.put_piece.ensures.front ∙ ap (λ (l : List ℕ). l ++ piece_bytes x.first)
    (c.put_u32-3.ensures.front ∙ ap (λ (l : List ℕ). l ++ to_be_bytes w32 x.segments)
    (c.put_u64-2.ensures.front ∙ ap (λ (l : List ℕ). l ++ to_be_bytes w64 x.base)
    (c.put_bytes32.ensures.front ∙ ap (λ (l : List ℕ). l ++ x.prev.0)
    (c.put_u64.ensures.front ∙ ap (λ (l : List ℕ). l ++ to_be_bytes w64 x.count)
    (c.put_u32-2.ensures.front
    ∙ ap (λ (n : ℕ). take 12 c.put_u32.new.text ++ to_be_bytes w32 n) c.number.ensures
    ∙ ap (λ (l : List ℕ). l ++ to_be_bytes w32 (suite_number x.suite))
    (c.put_u32.ensures.front ∙ ap (λ (l : List ℕ). l ++ to_be_bytes w32 x.kind) c.put_bytes.ensures.front))))))))
