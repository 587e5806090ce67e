use Rattle.std.proofs.Common.{◌≡◌, ◌≤◌, ℕ, Result, Ok, Err, sym, ◌∙◌, ap, subst, arith}
use Rattle.std.specs.Prelude.{IfOk, IfErr}
use Rattle.tdb_base.specs.declared.piece.Place.{Place}
use Rattle.tdb_base.specs.declared.piece.NoRoom.{NoRoom}
use Rattle.tdb_seg.specs.SegmentSpace.{SegmentSpace, place_in, fresh_space, with_bytes}
use Rattle.tdb_overlay.specs.StoreState.{first_place}
use Rattle.tdb_overlay.proofs.Sealing.{record_fits}
use Rattle.tdb_chunk.proofs.Starting.{first_placed, the_start}
use Rattle.tdb_chunk.proofs.format.first_space.Goals as goal

-- whatever `place` answered, it placed the piece
placed_first : (r : Result Place NoRoom) (m : ℕ) (old new after : SegmentSpace) → place_in old m 0 ≡ Ok (first_place, after) → IfOk r (λ place. place_in old m 0 ≡ Ok (place, new)) → IfErr r (λ refusal. place_in old m 0 ≡ Err refusal) → new ≡ after
placed_first (Ok place) m old new after is ok err = (the_start place first_place new after (sym ok ∙ is)).1
placed_first (Err refusal) m old new after is ok err = let e : Ok (first_place, after) ≡ Err refusal = sym is ∙ err in absurd (cc)

pub returns : goal.returns
returns c =
    let n : ℕ = c.args.segments in
    let m : ℕ = c.table_record.result in
    let fits = record_fits c.args.suite 528 (omega arith) in
    let some : 1 ≤ m = subst (λ (k : ℕ). 1 ≤ k) (sym c.table_record.ensures) fits.0 in
    let start = subst (λ (s : SegmentSpace). place_in s m 0 ≡ Ok (first_place, with_bytes (fresh_space n) first_place m)) (sym c.new-space.ensures) (first_placed n m c.requires.least some) in
    placed_first c.place-place.result m c.new-space.result c.place-place.new.self _ start c.place-place.ensures.placed c.place-place.ensures.refused
    ∙ ap (λ (k : ℕ). with_bytes (fresh_space n) first_place k) c.table_record.ensures
