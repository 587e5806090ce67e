use Rattle.std.proofs.Common.{◌≡◌, ℕ, Some, None, Result, Ok, Err, refl, sym, ap, ◌∙◌}
use Rattle.tdb_base.specs.declared.piece.NoRoom.{NoRoom}
use Rattle.tdb_base.specs.declared.piece.Place.{Place}
use Rattle.tdb_seg.specs.SegmentSpace.{SegmentSpace, next_place}
use Rattle.tdb_seg.proofs.Placing.{place-refused, place-placed, lacks-none, none-lacks}
use Rattle.tdb_seg.proofs.segments.Segments.place.Goals as goal

pub returns-in_default-clause-refused : goal.returns-in_default-clause-refused
returns-in_default-clause-refused c =
    let none : next_place c.args.self.now c.args.length c.args.keep ≡ None = sym c.next_place.ensures.next ∙ c.in_default.is in
    place-refused c.args.self.now c.args.length c.args.keep none
    ∙ ap (λ (left : ℕ). let refusal : NoRoom = record { need = c.args.length; free = left } in let outcome : Result (Place × SegmentSpace) NoRoom = Err refusal in outcome) (sym c.tail_left.ensures)

pub returns-in_default-clause-cause : goal.returns-in_default-clause-cause
returns-in_default-clause-cause c =
    let none : next_place c.args.self.now c.args.length c.args.keep ≡ None = sym c.next_place.ensures.next ∙ c.in_default.is in
    (λ _. none-lacks c.args.self.now c.args.length c.args.keep c.requires.some none, λ _. refl)

pub returns-clause-placed : goal.returns-clause-placed
returns-clause-placed c =
    let some : next_place c.args.self.now c.args.length c.args.keep ≡ Some c.in-Some.place = sym c.next_place.ensures.next ∙ c.in-Some.is in
    place-placed c.args.self.now c.args.length c.args.keep c.in-Some.place some
    ∙ ap (λ (space : SegmentSpace). let outcome : Result (Place × SegmentSpace) NoRoom = Ok (c.in-Some.place, space) in outcome) (sym c.add.ensures)

pub returns-clause-cause : goal.returns-clause-cause
returns-clause-cause c =
    let some : next_place c.args.self.now c.args.length c.args.keep ≡ Some c.in-Some.place = sym c.next_place.ensures.next ∙ c.in-Some.is in (
      λ err. absurd (cc),
      λ lacks. let none : None ≡ Some c.in-Some.place = sym (lacks-none c.args.self.now c.args.length c.args.keep lacks) ∙ some in absurd (cc),
    )
