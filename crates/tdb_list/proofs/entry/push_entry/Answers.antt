use Rattle.std.proofs.Common.{ℕ, List, ◌++◌, ap, ◌∙◌}
use Rattle.std.specs.Int.{w32, w64, to_be_bytes}
use Rattle.tdb_list.specs.Entry.{entry_bytes}
use Rattle.tdb_list.proofs.EntrySpelling.{regroup}
use Rattle.tdb_list.proofs.entry.push_entry.Goals as goal

pub returns : goal.returns
unfolding entry_bytes
returns c =
    let e = c.args.entry.now in
    c.in_ok-push_bytes.ensures.items
    ∙ ap (λ (l : List ℕ). l ++ e.piece.digest.0) (c.in_ok-push_u64-2.ensures.items
    ∙ ap (λ (l : List ℕ). l ++ to_be_bytes w64 e.piece.place.0) (c.in_ok-push_u64.ensures.items
    ∙ ap (λ (l : List ℕ). l ++ to_be_bytes w64 e.birth) (c.in_ok-push_u32-6.ensures.items
    ∙ ap (λ (l : List ℕ). l ++ to_be_bytes w32 e.piece.length) (c.in_ok-push_u32-5.ensures.items
    ∙ ap (λ (l : List ℕ). l ++ to_be_bytes w32 e.home) (c.in_ok-push_u32-4.ensures.items
    ∙ ap (λ (l : List ℕ). l ++ to_be_bytes w32 e.suite) (c.in_ok-push_u32-3.ensures.items
    ∙ ap (λ (l : List ℕ). l ++ to_be_bytes w32 e.rank) (c.in_ok-push_u32-2.ensures.items
    ∙ ap (λ (l : List ℕ). l ++ to_be_bytes w32 e.part) c.in_ok-push_u32.ensures.items)))))))
    ∙ regroup c.args.bytes.now.items (to_be_bytes w32 e.kind) (to_be_bytes w32 e.part) (to_be_bytes w32 e.rank) (to_be_bytes w32 e.suite) (to_be_bytes w32 e.home)
    (to_be_bytes w32 e.piece.length) (to_be_bytes w64 e.birth) (to_be_bytes w64 e.piece.place.0) e.piece.digest.0
