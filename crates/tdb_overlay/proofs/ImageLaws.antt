-- What a log needs stands in an image: as more is written elsewhere, and in each image with the same bytes there.
use Rattle.std.proofs.Common.{◌≡◌, ◌⊎◌, inl, inr, ⊎_elim, ℕ, zero, suc, ◌+◌, ◌<◌, ◌≤◌, List, [], ◌∷◌, ◌++◌, length, Ok, sym, ◌∙◌, subst, arith}
use Rattle.std.proofs.lemmas.Bool.{cases_lt}
use Rattle.std.specs.Prelude.{All}
use Rattle.std.specs.List.{AllByRecursion}
use Rattle.tdb_append.specs.Placed.{FitsOneSegment, Placed, SameExceptAt}
use Rattle.tdb_append.specs.Put.{slot_place}
use Rattle.tdb_base.specs.declared.piece.Piece.{Piece}
use Rattle.tdb_base.specs.declared.piece.Place.{Place}
use Rattle.tdb_base.specs.Trace.{WrittenPiece}
use Rattle.tdb_model.specs.Apply.{History}
use Rattle.tdb_platform.specs.Outside.{Anchor}
use Rattle.tdb_seg.specs.SegmentSpace.{SegmentSpace, IsPlacedIn, IsSegmentSpace, fits, place_in}
use Rattle.tdb_seg.proofs.Placing.{LiesInDevice}
use Rattle.tdb_seg.proofs.PlacingLaws.{IsFreshPlace, IsLength, fresh-apart, place_in-is, placed-stays, with_bytes-valid}
use Rattle.tdb_overlay.specs.Found.{Store}
use Rattle.tdb_overlay.specs.Images.{AllStandIn, IsIntactIn, StandsIn}
use Rattle.tdb_overlay.specs.LaidPieces.{IsFreshIn}
use Rattle.tdb_overlay.specs.Log.{IsLog}
use Rattle.tdb_overlay.specs.Required.{IsRequired}
use Rattle.tdb_overlay.specs.RequiredPlaces.{AreClearOf, HasSameBytes, IsClearOf, IsRecentText, IsWhereRequired}
use Rattle.tdb_overlay.specs.StoreState.{StoreState}
use Rattle.tdb_overlay.proofs.Listed.{all_front, all_listed, all_more, all_weaker}
use Rattle.tdb_overlay.proofs.LogLaws.{log_stays}
use Rattle.tdb_overlay.proofs.Placings.{same_parts, then_fit-is}
use Rattle.tdb_overlay.proofs.RequiredLaws.{required_before, required_is_placed}

-- a laid piece has none of these bytes
abbrev pub Clears : Piece → Placed → Type 0
Clears piece p = IsClearOf piece p.place (length p.bytes)

listed_all : {X : Type 0} (P : X → Type 0) (xs : List X) → AllByRecursion P xs → All P xs
listed_all P [] all k d within = absurd (omega (arith, within))
listed_all P (x ∷ xs) all zero d within = all.0
listed_all P (x ∷ xs) all (suc k) d within = listed_all P xs all.1 k d (omega (arith, within))

-- What stands, stands where all that was written is clear of it.
pub stands_on : (piece : Piece) (done : List Placed) (image after : List ℕ) → SameExceptAt done image after
    → AllByRecursion (Clears piece) done → StandsIn image piece → StandsIn after piece
stands_on piece done image after same clear is = record {
  bytes = is.bytes;
  digest = is.digest;
  size = is.size;
  holds = record {
    within = omega (arith, is.holds.within, same.no_shorter);
    bytes = λ k within. same.bytes (piece.place.0 + k) (away k within) (omega (arith, is.holds.within, within)) ∙ is.holds.bytes k within;
  };
}
  where
    away : (k : ℕ) → k < length is.bytes
        → All (λ (p : Placed). (piece.place.0 + k < p.place) ⊎ (p.place + length p.bytes ≤ piece.place.0 + k)) done
    away k within =
        let size = is.size in
        listed_all _ done
        (all_weaker (Clears piece) (λ (p : Placed). (piece.place.0 + k < p.place) ⊎ (p.place + length p.bytes ≤ piece.place.0 + k)) done
        (λ p is. ⊎_elim (λ before. inr (omega (arith, before))) (λ behind. inl (omega (arith, behind, within, size))) is) clear)

-- In an image with the same bytes where a piece lies, it stands too.
pub stands_same : (piece : Piece) (image other : List ℕ) → HasSameBytes piece image other → StandsIn image piece → StandsIn other piece
stands_same piece image other same is =
    let size = is.size in
    let held = is.holds.within in
    record {
      bytes = is.bytes;
      digest = is.digest;
      size = is.size;
      holds = record {
        within = omega (arith, same.within (omega (arith, size, held)), size);
        bytes = λ k within. same.bytes (piece.place.0 + k) (omega arith) (omega (arith, within, size)) ∙ is.holds.bytes k within;
      };
    }

-- An intact image stays so where the needed bytes stay.
pub intact_same : (image other : List ℕ) (written : List WrittenPiece) (store : Store) (anchor : Anchor)
    → ((piece : Piece) → IsRequired written store anchor piece → HasSameBytes piece image other)
    → IsIntactIn image written store anchor → IsIntactIn other written store anchor
intact_same image other written store anchor same is = record {
  history = is.history;
  last = is.last;
  log = is.log;
  stand = λ piece required. stands_same piece image other (same piece required) (is.stand piece required);
}

-- An image that is intact is so as more is written.
pub intact_stays : (written more : List WrittenPiece) (store : Store) (image : List ℕ) (anchor : Anchor)
    → IsIntactIn image written store anchor → IsIntactIn image (written ++ more) store anchor
intact_stays written more store image anchor is = record {
  history = is.history;
  last = is.last;
  log = log_stays written more store anchor is.history is.last is.log;
  stand = λ piece required. is.stand piece (required_before written store anchor is.history is.last is.log more piece required);
}

slots_apart : (n k : ℕ) → 1 ≤ k → k ≤ n → n ≤ k + 1000 → (slot_place (n + 1) + 256 ≤ slot_place k)
    ⊎ (slot_place k + 256 ≤ slot_place (n + 1))
slots_apart n k some le near = elim (cases_lt (slot_place (n + 1)) (slot_place k)) [
  | inl lt ↦ inl (omega (arith, lt, some))
  | inr ge ↦ inr (omega (arith, ge, some, le, near))
]

-- The next slot is clear of all that a log needs,
pub slot_is_clear : (last : StoreState) (piece : Piece) → IsWhereRequired last piece → IsClearOf piece (slot_place (last.count + 1)) 256
slot_is_clear last piece (inl recent) =
    let size = recent.size in
    let place = recent.place in
    ⊎_elim (λ before. inl (omega (arith, before, place))) (λ behind. inr (omega (arith, behind, place, size)))
    (slots_apart last.count recent.count recent.least recent.most recent.near)
slot_is_clear last piece (inr placed) = inl (omega (arith, placed.lies.begins))

-- and so is a fresh place in a segment.
pub fresh_is_clear : (last : StoreState) (piece : Piece) (p : Placed) → IsWhereRequired last piece → FitsOneSegment p
    → IsFreshIn last.space p → Clears piece p
fresh_is_clear last piece p (inl recent) fits fresh =
    let size = recent.size in
    let place = recent.place in
    inr (omega (arith, fits.2.begins, place, size))
fresh_is_clear last piece p (inr placed) fits fresh = ⊎_elim (λ before. inr before) (λ behind. inl behind)
    (fresh piece.place.0 piece.length placed)

-- A front of fresh pieces and of a text in the next slot is clear of it.
pub put_is_clear : (last : StoreState) (piece : Piece) (ps done rest : List Placed) (slot : Placed)
    → slot.place ≡ slot_place (last.count + 1) → length slot.bytes ≡ 256 → All FitsOneSegment ps → All (IsFreshIn last.space) ps
    → ps ++ slot ∷ [] ≡ done ++ rest → IsWhereRequired last piece → AllByRecursion (Clears piece) done
put_is_clear last piece ps done rest slot slotted long in_segments fresh in_order where_is =
    let each : AllByRecursion (Clears piece) ps = both ps (all_listed FitsOneSegment ps in_segments)
    (all_listed (IsFreshIn last.space) ps fresh) in
    let in_slot : Clears piece slot = subst (λ (n : ℕ). IsClearOf piece slot.place n) (sym long)
    (subst (λ (at : ℕ). IsClearOf piece at 256) (sym slotted) (slot_is_clear last piece where_is)) in
    all_front (Clears piece) done rest (subst (AllByRecursion (Clears piece)) in_order (all_more (Clears piece) ps slot each in_slot))
  where
    both : (qs : List Placed) → AllByRecursion FitsOneSegment qs → AllByRecursion (IsFreshIn last.space) qs
        → AllByRecursion (Clears piece) qs
    both [] fit apart = tt
    both (q ∷ qs) fit apart = (fresh_is_clear last piece q where_is fit.0 apart.0, both qs fit.1 apart.1)

-- An intact image stays so over such a put, for the anchor that it had.
pub intact_over : (written : List WrittenPiece) (store : Store) (anchor : Anchor) (history : History) (last : StoreState)
    (image after : List ℕ) (ps done rest : List Placed) (slot : Placed) → IsLog written store anchor history last
    → slot.place ≡ slot_place (last.count + 1) → length slot.bytes ≡ 256 → All FitsOneSegment ps → All (IsFreshIn last.space) ps
    → ps ++ slot ∷ [] ≡ done ++ rest → SameExceptAt done image after
    → AllStandIn image written store anchor → AllStandIn after written store anchor
intact_over written store anchor history last image after ps done rest slot log slotted long in_segments fresh in_order same stand piece required =
    stands_on piece done image after same
    (put_is_clear last piece ps done rest slot slotted long in_segments fresh in_order
    (required_is_placed written store anchor history last log piece required)) (stand piece required)

-- Bytes that are placed are clear of it.
pub places_are_clear : (piece : Piece) (space : SegmentSpace) (last : ℕ) → IsRecentText last piece
    ⊎ IsPlacedIn space piece.place.0 piece.length → IsSegmentSpace space → (lengths : List ℕ) → AllByRecursion IsLength lengths
    → (keep : ℕ) (places : List Place) (after : SegmentSpace) → fits space lengths keep ≡ Ok (places, after)
    → AreClearOf piece lengths places
unfolding fits
places_are_clear piece space last where_is valid [] sizes keep places after is =
    let none : [] ≡ places = (same_parts [] places space after is).0 in
    subst (AreClearOf piece []) none tt
places_are_clear piece space last where_is valid (n ∷ lengths) sizes keep places after is =
    let parts = then_fit-is (λ (s : SegmentSpace). fits s lengths keep) (place_in space n keep) places after is in
    let place : Place = parts.0.0 in
    let one = place_in-is space valid n keep place parts.0.1 sizes.0.0 sizes.0.1 parts.1 in
    let lies : LiesInDevice space place n = (one.fresh.k, one.fresh.within, one.fresh.lies) in
    let next : IsSegmentSpace parts.0.1 = subst IsSegmentSpace (sym one.after) (with_bytes-valid space valid place n lies) in
    let still : IsRecentText last piece ⊎ IsPlacedIn parts.0.1 piece.place.0 piece.length =
    ⊎_elim (λ recent. inl recent)
    (λ old. inr (subst (λ (s : SegmentSpace). IsPlacedIn s piece.place.0 piece.length) (sym one.after)
    (placed-stays space place n piece.place.0 piece.length one.fresh old))) where_is in
    let rest = places_are_clear piece parts.0.1 last still next lengths sizes.1 keep parts.2 after parts.3 in
    subst (AreClearOf piece (n ∷ lengths)) (sym parts.4) (here place one.fresh where_is, rest)
  where
    here : (place : Place) → IsFreshPlace space place n → IsRecentText last piece ⊎ IsPlacedIn space piece.place.0 piece.length
        → IsClearOf piece place.0 n
    here place fresh (inl recent) =
        let size = recent.size in
        let at = recent.place in
        inr (omega (arith, fresh.lies.begins, at, size))
    here place fresh (inr old) = ⊎_elim (λ before. inr before) (λ behind. inl behind)
        (fresh-apart space place n piece.place.0 piece.length fresh old)
