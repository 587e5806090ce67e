-- How what a stop leaves goes on, call by call.
use Rattle.std.proofs.Common.{◌≡◌, ℕ, suc, ◌+◌, ◌<◌, List, ◌∷◌, length, drop, get_or, sym, ◌∙◌, ap, arith}
use Rattle.std.proofs.Math.Seq.{drop-cons}
use Rattle.tdb_platform.specs.declared.call.Entry.{Entry}
use Rattle.tdb_platform.specs.declared.crash.ImageLeft.{ImageLeft}
use Rattle.tdb_platform.specs.declared.crash.AnchorLeft.{AnchorLeft}
use Rattle.tdb_platform.specs.Outside.{Anchor}
use Rattle.tdb_platform.specs.Logs.{calls_of, event_of}
use Rattle.tdb_platform.specs.Replay.{stand_after}
use Rattle.tdb_platform.specs.LeftAnchor.{anchor_after, anchor_of}
use Rattle.tdb_platform.specs.LeftImage.{image_after, image_of}

drop_next : (entries : List Entry) (k : ℕ) (e : Entry) → k < length entries → e ≡ get_or entries k e → drop k entries ≡ e ∷ drop (k + 1) entries
drop_next entries k e within is =
    let after : suc k ≡ k + 1 = omega arith in
    drop-cons entries k e within ∙ ap (λ (d : Entry). d ∷ drop (suc k) entries) (sym is) ∙ ap (λ (n : ℕ). e ∷ drop n entries) after

module _ (entries : List Entry) (k : ℕ) (e : Entry) (within : k < length entries) (is : e ≡ get_or entries k e) where
  pub image_goes_on : (how : ImageLeft) (image next left next_left whole : List ℕ) (a : Anchor)
      → next ≡ (stand_after (image, a) (event_of e.call)).0 → next_left ≡ image_after how (image, a) left (event_of e.call)
      → image_of how (image, a) left (calls_of (drop k entries)) ≡ whole
      → image_of how (next, (stand_after (image, a) (event_of e.call)).1) next_left (calls_of (drop (k + 1) entries)) ≡ whole
  image_goes_on how image next left next_left whole a next_is left_is so_far =
      let rest = calls_of (drop (k + 1) entries) in
      let anchor = (stand_after (image, a) (event_of e.call)).1 in
      ap (λ (i : List ℕ). image_of how (i, anchor) next_left rest) next_is
      ∙ ap (λ (i : List ℕ). image_of how (stand_after (image, a) (event_of e.call)) i rest) left_is
      ∙ ap (λ (es : List Entry). image_of how (image, a) left (calls_of es)) (sym (drop_next entries k e within is))
      ∙ so_far

  pub anchor_goes_on : (how : AnchorLeft) (anchor next left next_left whole : Anchor) (i : List ℕ)
      → next ≡ (stand_after (i, anchor) (event_of e.call)).1 → next_left ≡ anchor_after how (i, anchor) left (event_of e.call)
      → anchor_of how (i, anchor) left (calls_of (drop k entries)) ≡ whole
      → anchor_of how ((stand_after (i, anchor) (event_of e.call)).0, next) next_left (calls_of (drop (k + 1) entries)) ≡ whole
  anchor_goes_on how anchor next left next_left whole i next_is left_is so_far =
      let rest = calls_of (drop (k + 1) entries) in
      let image = (stand_after (i, anchor) (event_of e.call)).0 in
      ap (λ (a : Anchor). anchor_of how (image, a) next_left rest) next_is
      ∙ ap (λ (a : Anchor). anchor_of how (stand_after (i, anchor) (event_of e.call)) a rest) left_is
      ∙ ap (λ (es : List Entry). anchor_of how (i, anchor) left (calls_of es)) (sym (drop_next entries k e within is))
      ∙ so_far
