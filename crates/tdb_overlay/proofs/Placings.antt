-- Pieces that were placed leave the segments that noting them leaves.
use Rattle.std.proofs.Common.{◌≡◌, ℕ, ◌<◌, List, [], ◌∷◌, map, Option, Some, None, Result, Ok, Err, refl, sym, ◌∙◌, ap, subst}
use Rattle.std.specs.List.{AllByRecursion}
use Rattle.tdb_base.specs.declared.piece.Piece.{Piece}
use Rattle.tdb_base.specs.declared.piece.Place.{Place}
use Rattle.tdb_base.specs.declared.piece.NoRoom.{NoRoom}
use Rattle.tdb_seg.specs.SegmentSpace.{SegmentSpace, IsSegmentSpace, next_place, placed, place_in, with_bytes, note_in, fits, then_place, then_fit}
use Rattle.tdb_seg.proofs.PlacingLaws.{IsLength, place_in-is, with_bytes-valid}
use Rattle.tdb_seg.proofs.Placing.{LiesInDevice}
use Rattle.tdb_overlay.specs.Placement.{note_all, LiesBelow}

pub then_fit-is : (rest : SegmentSpace → Result (List Place × SegmentSpace) NoRoom) (o : Result (Place × SegmentSpace) NoRoom) (places : List Place) (next : SegmentSpace) → then_fit rest o ≡ Ok (places, next)
    → (first : Place × SegmentSpace) × (o ≡ Ok first) × (others : List Place) × (rest first.1 ≡ Ok (others, next)) × (places ≡ first.0 ∷ others)
then_fit-is rest (Err refusal) places next e = absurd (cc)
then_fit-is rest (Ok first) places next e = inner (rest first.1) refl e
  where
    inner : (o : Result (List Place × SegmentSpace) NoRoom) → rest first.1 ≡ o → then_place first.0 o ≡ Ok (places, next)
        → (found : Place × SegmentSpace) × (◌≡◌ {A = Result (Place × SegmentSpace) NoRoom} (Ok first) (Ok found)) × (others : List Place) × (rest found.1 ≡ Ok (others, next)) × (places ≡ found.0 ∷ others)
    inner (Err refusal) is e = absurd (cc)
    inner (Ok done) is e =
        let pair : (first.0 ∷ done.0, done.1) ≡ (places, next) = cc in
        let end : done.1 ≡ next = ap (λ (q : List Place × SegmentSpace). q.1) pair in
        (first, refl, done.0, is ∙ ap (λ (s : SegmentSpace). let r : Result (List Place × SegmentSpace) NoRoom = Ok (done.0, s) in r) end, sym (ap (λ (q : List Place × SegmentSpace). q.0) pair))

-- what was placed, the space after it has
module _ (space : SegmentSpace) (n keep : ℕ) (place : Place) (next : SegmentSpace) where
  placed-after : (o : Option Place) → placed space n o ≡ Ok (place, next) → next ≡ with_bytes space place n
  placed-after None is = absurd (cc is)
  placed-after (Some p) is =
      let pair : (p, with_bytes space p n) ≡ (place, next) = cc is in
      sym (ap (λ (q : Place × SegmentSpace). q.1) pair) ∙ ap (λ (q : Place × SegmentSpace). with_bytes space q.0 n) pair

  place_in-after : place_in space n keep ≡ Ok (place, next) → next ≡ with_bytes space place n
  unfolding place_in
  place_in-after is = placed-after (next_place space n keep) is

pub same_parts : (a b : List Place) (s t : SegmentSpace) → ◌≡◌ {A = Result (List Place × SegmentSpace) NoRoom} (Ok (a, s)) (Ok (b, t)) → (a ≡ b) × (s ≡ t)
same_parts a b s t e =
    let pair : (a, s) ≡ (b, t) = cc in
    (ap (λ (q : List Place × SegmentSpace). q.0) pair, ap (λ (q : List Place × SegmentSpace). q.1) pair)

same_heads : (a b : Place) (x y : List Place) → a ∷ x ≡ b ∷ y → (a ≡ b) × (x ≡ y)
same_heads a b x y e = (cc, cc)

-- what is known of the first of some pieces that were placed
pub record FirstPlaced (space : SegmentSpace) (piece : Piece) (pieces : List Piece) (keep : ℕ) (after : SegmentSpace) : Type 0 where
  pub first : place_in space piece.length keep ≡ Ok (piece.place, note_in space piece)
  pub rest : fits (note_in space piece) (map (λ (p : Piece). p.length) pieces) keep ≡ Ok (map (λ (p : Piece). p.place) pieces, after)

pub first_placed : (space : SegmentSpace) (piece : Piece) (pieces : List Piece) (keep : ℕ) (after : SegmentSpace)
    → fits space (piece.length ∷ map (λ (p : Piece). p.length) pieces) keep ≡ Ok (piece.place ∷ map (λ (p : Piece). p.place) pieces, after) → FirstPlaced space piece pieces keep after
unfolding fits
first_placed space piece pieces keep after is =
    let ns = map (λ (p : Piece). p.length) pieces in
    let places = map (λ (p : Piece). p.place) pieces in
    let parts = then_fit-is (λ (s : SegmentSpace). fits s ns keep) (place_in space piece.length keep) (piece.place ∷ places) after is in
    let heads = same_heads piece.place parts.0.0 places parts.2 parts.4 in
    let next : parts.0.1 ≡ with_bytes space piece.place piece.length = place_in-after space piece.length keep parts.0.0 parts.0.1 parts.1 ∙ ap (λ (p : Place). with_bytes space p piece.length) (sym heads.0) in
    record {
      first = parts.1 ∙ ap (λ (q : Place). let r : Result (Place × SegmentSpace) NoRoom = Ok (q, parts.0.1) in r) (sym heads.0) ∙ ap (λ (s : SegmentSpace). let r : Result (Place × SegmentSpace) NoRoom = Ok (piece.place, s) in r) next;
      rest = ap (λ (s : SegmentSpace). fits s ns keep) (sym next) ∙ parts.3 ∙ ap (λ (q : List Place). let r : Result (List Place × SegmentSpace) NoRoom = Ok (q, after) in r) (sym heads.1);
    }

pub nothing_placed : (space after : SegmentSpace) (keep : ℕ) → fits space [] keep ≡ Ok ([], after) → space ≡ after
unfolding fits
nothing_placed space after keep is = (same_parts [] [] space after is).1

noted-as_placed : (space : SegmentSpace) (pieces : List Piece) (keep : ℕ) (after : SegmentSpace)
    → fits space (map (λ (p : Piece). p.length) pieces) keep ≡ Ok (map (λ (p : Piece). p.place) pieces, after) → note_all space pieces ≡ after
noted-as_placed space [] keep after is = nothing_placed space after keep is
noted-as_placed space (piece ∷ pieces) keep after is = noted-as_placed (note_in space piece) pieces keep after (first_placed space piece pieces keep after is).rest

fits_where : (space : SegmentSpace) (ns : List ℕ) (keep : ℕ) (places : List Place) (after : SegmentSpace) (pieces : List Piece) → fits space ns keep ≡ Ok (places, after)
    → map (λ (p : Piece). p.length) pieces ≡ ns → map (λ (p : Piece). p.place) pieces ≡ places → fits space (map (λ (p : Piece). p.length) pieces) keep ≡ Ok (map (λ (p : Piece). p.place) pieces, after)
fits_where space ns keep places after pieces is sizes at =
    ap (λ (l : List ℕ). fits space l keep) sizes ∙ is ∙ ap (λ (q : List Place). let r : Result (List Place × SegmentSpace) NoRoom = Ok (q, after) in r) (sym at)

-- Pieces with the places that placing their lengths gives, noted one after another, leave the space that placing leaves.
pub fits_notes : (space : SegmentSpace) (ns : List ℕ) (keep : ℕ) (places : List Place) (after : SegmentSpace) (pieces : List Piece) → fits space ns keep ≡ Ok (places, after)
    → map (λ (p : Piece). p.length) pieces ≡ ns → map (λ (p : Piece). p.place) pieces ≡ places → note_all space pieces ≡ after
fits_notes space ns keep places after pieces is sizes at = noted-as_placed space pieces keep after (fits_where space ns keep places after pieces is sizes at)

pub note_all-segments : (space : SegmentSpace) (pieces : List Piece) → (note_all space pieces).segments ≡ space.segments
note_all-segments space [] = refl
note_all-segments space (piece ∷ pieces) = note_all-segments (note_in space piece) pieces

-- a piece of a length that can be placed
abbrev pub HasLength : Piece → Type 0
HasLength piece = IsLength piece.length

lie-as_placed : (space : SegmentSpace) (segments : ℕ) (pieces : List Piece) (keep : ℕ) (after : SegmentSpace) → IsSegmentSpace space → space.segments ≡ segments → AllByRecursion HasLength pieces
    → fits space (map (λ (p : Piece). p.length) pieces) keep ≡ Ok (map (λ (p : Piece). p.place) pieces, after) → AllByRecursion (LiesBelow segments) pieces × IsSegmentSpace after
lie-as_placed space segments [] keep after valid same sizes is = (tt, subst IsSegmentSpace (nothing_placed space after keep is) valid)
lie-as_placed space segments (piece ∷ pieces) keep after valid same sizes is =
    let parts = first_placed space piece pieces keep after is in
    let one = place_in-is space valid piece.length keep piece.place (note_in space piece) sizes.0.0 sizes.0.1 parts.first in
    let lies : LiesInDevice space piece.place piece.length = (one.fresh.k, one.fresh.within, one.fresh.lies) in
    let rest = lie-as_placed (note_in space piece) segments pieces keep after (with_bytes-valid space valid piece.place piece.length lies) same sizes.1 parts.rest in
    (((one.fresh.k, subst (λ (n : ℕ). one.fresh.k < n) same one.fresh.within, one.fresh.lies), rest.0), rest.1)

-- They lie in segments of the device, and the space that they leave is one that the code reaches.
pub fits_lie : (space : SegmentSpace) (segments : ℕ) (ns : List ℕ) (keep : ℕ) (places : List Place) (after : SegmentSpace) (pieces : List Piece) → IsSegmentSpace space → space.segments ≡ segments
    → AllByRecursion HasLength pieces → fits space ns keep ≡ Ok (places, after) → map (λ (p : Piece). p.length) pieces ≡ ns → map (λ (p : Piece). p.place) pieces ≡ places
    → AllByRecursion (LiesBelow segments) pieces × IsSegmentSpace after
fits_lie space segments ns keep places after pieces valid same lengths is sizes at = lie-as_placed space segments pieces keep after valid same lengths (fits_where space ns keep places after pieces is sizes at)
