use Rattle.std.proofs.Common.{◌≡◌, ℕ, List, [], ◌∷◌, ◌++◌, None, Ok, length, ap, refl, sym, ◌∙◌, subst}
use Rattle.std.specs.FinSet.{empty, insert}
use Rattle.tdb_append.specs.Placed.{Placed, placed}
use Rattle.tdb_base.specs.declared.piece.Piece.{Piece}
use Rattle.tdb_mark.specs.declared.commit.Commit.{Commit}
use Rattle.tdb_seg.specs.SegmentSpace.{SegmentSpace, fresh_space, place_in}
use Rattle.tdb_seg.specs.TableSpace.{used_in}
use Rattle.tdb_overlay.specs.Found.{Store, store_under}
use Rattle.tdb_overlay.specs.StoreState.{record_length}
use Rattle.tdb_chunk.specs.Formatting.{IsStart}
use Rattle.tdb_overlay.specs.LaidOut.{LaidOut}
use Rattle.tdb_overlay.specs.Text.{next_commit}
use Rattle.tdb_overlay.proofs.LaidOutLaws.{laid_out_none}
use Rattle.tdb_chunk.proofs.Starting.{start_is, fresh_valid}
use Rattle.tdb_chunk.proofs.format.lay_start.Goals as goal

pub returns-clause-start : goal.returns-clause-start
returns-clause-start c =
    let secret : List ℕ = c.args.keys.now in
    let n : ℕ = c.args.segments in
    let sealed : List ℕ = c.in-Ok.table.items in
    let first : Piece = c.in-Ok-lay.first in
    let lay = c.in-Ok-lay.ensures in
    let space : SegmentSpace = c.lay.new.self.segments in
    let start_space : c.new-batch.result.segments ≡ fresh_space n = c.new-batch.ensures.segments ∙ c.new.ensures in
    let none : placed c.new-batch.result.pieces.items ≡ [] = ap placed c.new-batch.ensures.pieces in
    let one : placed c.lay.new.self.pieces.items ≡ record { place = first.place.0; bytes = sealed } ∷ [] =
    lay.pieces ∙ ap (λ (l : List Placed). l ++ record { place = first.place.0; bytes = sealed } ∷ []) none in
    let before : LaidOut secret (fresh_space n) c.new-batch.result.segments (placed c.new-batch.result.pieces.items) =
    subst (λ (l : List Placed). LaidOut secret (fresh_space n) c.new-batch.result.segments l) (sym none)
    (subst (λ (s : SegmentSpace). LaidOut secret (fresh_space n) s []) (sym start_space) (laid_out_none secret (fresh_space n) (fresh_valid n c.requires.least c.requires.most))) in
    let laid : LaidOut secret (fresh_space n) space (placed c.lay.new.self.pieces.items) = lay.laid_out secret (fresh_space n) c.in-Ok.ensures.is_record before in
    let size : ℕ = record_length c.args.suite 528 in
    let store : Store = store_under secret c.args.suite in
    let long : length sealed ≡ size = c.in-Ok.ensures.size in
    let placed_at : place_in (fresh_space n) size 0 ≡ Ok (first.place, space) =
    subst (λ (m : ℕ). place_in (fresh_space n) m 0 ≡ Ok (first.place, space)) long (subst (λ (s : SegmentSpace). place_in s (length sealed) 0 ≡ Ok (first.place, space)) start_space lay.place) in
    let numbered : c.table.result.segments ≡ n = c.table.ensures.segments ∙ ap (λ (s : SegmentSpace). s.segments) c.first_space.ensures in
    let used : used_in c.table.result ≡ insert empty 0 = c.table.ensures.used ∙ ap (λ (s : SegmentSpace). s.used) c.first_space.ensures in
    let is : IsStart store c.args.head.now n (next_commit c.args.suite c.args.head.now 2 1 n first None) (record { place = first.place.0; bytes = sealed } ∷ []) space =
    start_is store c.args.head.now n first c.table.result sealed space size refl (sym lay.digest) lay.size long c.in-Ok.ensures.sealed c.table.ensures.table c.seal_table.ensures.known numbered used placed_at c.requires.least c.requires.most c.requires.head
    (subst (λ (l : List Placed). LaidOut secret (fresh_space n) space l) one laid) in
    subst (λ (l : List Placed). IsStart store c.args.head.now n c.first_commit-commit.result l space) (sym one)
    (subst (λ (k : Commit). IsStart store c.args.head.now n k (record { place = first.place.0; bytes = sealed } ∷ []) space) (sym c.first_commit-commit.ensures) is)
