-- Records that are placed one after another.
use Rattle.std.proofs.Common.{◌≡◌, inl, inr, ◌≤◌, ℕ, List, [], ◌∷◌, ◌++◌, Ok, length, get_or, refl, sym, arith, subst}
use Rattle.std.specs.Prelude.{All, AllPairs}
use Rattle.std.proofs.lemmas.Bool.{cases_lt}
use Rattle.std.proofs.lemmas.List.{length_push, get_or_append_left, get_or_at}
use Rattle.std.proofs.lemmas.List.Elements.{All-push}
use Rattle.tdb_base.specs.declared.piece.Place.{Place}
use Rattle.tdb_append.specs.Placed.{Placed, FitsOneSegment, IsApart}
use Rattle.tdb_seg.specs.SegmentSpace.{SegmentSpace, IsSegmentSpace, IsPlacedIn, place_in, with_bytes}
use Rattle.tdb_seg.proofs.PlacingLaws.{IsFreshPlace, fresh-apart, now-placed, place_in-is, placed-stays, with_bytes-valid}
use Rattle.tdb_overlay.specs.SealedOnly.{IsRecord}
use Rattle.tdb_overlay.specs.LaidOut.{IsFreshIn, LaidOut}

all_pairs_push : {X : Type 0} (R : X → X → Type 0) (xs : List X) (x : X) → AllPairs R xs → All (λ y. R y x) xs → AllPairs R (xs ++ x ∷ [])
all_pairs_push {X} R xs x pairs last i j d before within =
    elim (cases_lt j (length xs)) [
      | inl lt ↦
          let at_i = get_or_append_left xs (x ∷ []) d i (omega (arith, before, lt)) in
          let at_j = get_or_append_left xs (x ∷ []) d j lt in
          subst (λ (y : X). R y (get_or (xs ++ x ∷ []) j d)) (sym at_i) (subst (λ (y : X). R (get_or xs i d) y) (sym at_j) (pairs i j d before lt))
      | inr le ↦
          let is : length xs ≡ j = omega (arith, within, le, length_push xs x) in
          let at_i = get_or_append_left xs (x ∷ []) d i (omega (arith, before, is)) in
          let at_j = get_or_at xs x [] d j is in
          subst (λ (y : X). R y (get_or (xs ++ x ∷ []) j d)) (sym at_i) (subst (λ (y : X). R (get_or xs i d) y) (sym at_j) (last i d (omega (arith, before, is))))
    ]

-- no record yet
pub laid_out_none : (secret : List ℕ) (space : SegmentSpace) → IsSegmentSpace space → LaidOut secret space space []
laid_out_none secret space valid = record {
  valid = valid;
  segments = refl;
  sealed = λ k d within. absurd (omega (arith, within));
  in_segments = λ k d within. absurd (omega (arith, within));
  apart = λ i j d before within. absurd (omega (arith, within));
  fresh = λ k d within. absurd (omega (arith, within));
  placed = λ k d within. absurd (omega (arith, within));
  stays = λ q m placed. placed;
}

module _ (secret : List ℕ) (start space : SegmentSpace) (ps : List Placed) (place : Place) (bytes : List ℕ) (laid : LaidOut secret start space ps) (is : IsRecord secret bytes) (fresh : IsFreshPlace space place (length bytes)) where
  abbrev new : Placed
  new = record { place = place.0; bytes = bytes }

  fits_one : FitsOneSegment new
  fits_one = (fresh.k, omega (arith, fresh.within, laid.valid.most), fresh.lies)

  fresh_from_start : IsFreshIn start new
  fresh_from_start q m old = fresh-apart space place (length bytes) q m fresh (laid.stays q m old)

  apart_from_each : All (λ (p : Placed). IsApart p new) ps
  apart_from_each k d within = fresh-apart space place (length bytes) (get_or ps k d).place (length (get_or ps k d).bytes) fresh (laid.placed k d within)

  pushed : LaidOut secret start (with_bytes space place (length bytes)) (ps ++ new ∷ [])
  pushed = record {
    valid = with_bytes-valid space laid.valid place (length bytes) (fresh.k, fresh.within, fresh.lies);
    segments = laid.segments;
    sealed = All-push (λ (p : Placed). IsRecord secret p.bytes) ps new laid.sealed is;
    in_segments = All-push FitsOneSegment ps new laid.in_segments fits_one;
    apart = all_pairs_push IsApart ps new laid.apart apart_from_each;
    fresh = All-push (IsFreshIn start) ps new laid.fresh fresh_from_start;
    placed =
        All-push (λ (p : Placed). IsPlacedIn (with_bytes space place (length bytes)) p.place (length p.bytes)) ps new
        (λ k d within. placed-stays space place (length bytes) (get_or ps k d).place (length (get_or ps k d).bytes) fresh (laid.placed k d within))
        (now-placed space place (length bytes) fresh);
    stays = λ q m old. placed-stays space place (length bytes) q m fresh (laid.stays q m old);
  }

-- one record more
pub laid_out_push : (secret : List ℕ) (start space next : SegmentSpace) (ps : List Placed) (place : Place) (bytes : List ℕ) (keep : ℕ) → LaidOut secret start space ps → IsRecord secret bytes → 1 ≤ length bytes → length bytes ≤ 262144
    → place_in space (length bytes) keep ≡ Ok (place, next) → LaidOut secret start next (ps ++ record { place = place.0; bytes = bytes } ∷ [])
laid_out_push secret start space next ps place bytes keep laid is some most e =
    let one = place_in-is space laid.valid (length bytes) keep place next some most e in
    subst (λ (s : SegmentSpace). LaidOut secret start s (ps ++ record { place = place.0; bytes = bytes } ∷ [])) (sym one.after) (pushed secret start space ps place bytes laid is one.fresh)
