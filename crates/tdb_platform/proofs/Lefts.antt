-- What a stop leaves by a choice is one of the pairs that it may leave.
use Rattle.std.proofs.Common.{◌≡◌, ◌⊎◌, inl, inr, Bool, true, false, List, ℕ, [], ◌∷◌, length, refl}
use Rattle.tdb_platform.specs.declared.crash.Crash.{Crash}
use Rattle.tdb_platform.specs.declared.crash.AnchorLeft.{AnchorLeft}
use Rattle.tdb_platform.specs.declared.crash.AnchorLeft.TheVariants.{Old, New}
use Rattle.tdb_platform.specs.CrashStates.{Pairs}
use Rattle.tdb_platform.specs.ImageLaws.{overwritten_same, same_itself}
use Rattle.tdb_platform.specs.Left.{left_by}
use Rattle.tdb_platform.specs.LeftAnchor.{anchor_after, anchor_of, exchanged}
use Rattle.tdb_platform.specs.LeftImage.{image_after, image_of}
use Rattle.tdb_platform.specs.Outside.{Anchor}
use Rattle.tdb_platform.specs.Replay.{Event, Reads, Writes, Syncs, Asks, Advances, Fails, Replaces, Stops, Stand, stand_after, pairs_after, Logged, stand_of, pairs_of, at_first, Log, clock_of, LeftSince}
use Rattle.tdb_platform.specs.ReplayLaws.{left_now}
use Rattle.tdb_platform.proofs.Refilling.{refilled_same}

-- an image and an anchor, each as it is given or as it is left, are pairs that belong
record Belong (s : Stand) (image : List ℕ) (anchor : Anchor) (pairs : Pairs) : Type 0 where
  pub given : pairs s.0 s.1
  pub given_image : pairs s.0 anchor
  pub given_anchor : pairs image s.1
  pub left : pairs image anchor

exchanged_either : (how : AnchorLeft) (was next : Anchor) (failed : Bool)
    → ((exchanged how was next failed ≡ was) ⊎ (exchanged how was next failed ≡ next)) × (failed ≡ false → exchanged how was next failed ≡ next)
exchanged_either Old was next false = (inr refl, λ is. refl)
exchanged_either Old was next true = (inl refl, λ is. absurd (cc is))
exchanged_either New was next failed = (inr refl, λ is. refl)

module _ (crash : Crash) where
  one_call : (e : Event) (s : Stand) (image : List ℕ) (anchor : Anchor) (pairs : Pairs) → Belong s image anchor pairs
      → Belong (stand_after s e) (image_after crash.image s image e) (anchor_after crash.anchor s anchor e) (pairs_after s pairs e)
  one_call (Reads at asked bytes) s image anchor pairs h = record { given = h.given; given_image = h.given_image; given_anchor = h.given_anchor; left = h.left }
  one_call (Writes at piece false) s image anchor pairs h = record {
    given = (s.0, h.given, overwritten_same s.0 at piece);
    given_image = (s.0, h.given_image, overwritten_same s.0 at piece);
    given_anchor = (image, h.given_anchor, refilled_same crash.image image at piece);
    left = (image, h.left, refilled_same crash.image image at piece);
  }
  one_call (Writes at piece true) s image anchor pairs h = record {
    given = (s.0, h.given, same_itself at (length piece) s.0);
    given_image = (s.0, h.given_image, same_itself at (length piece) s.0);
    given_anchor = (image, h.given_anchor, refilled_same crash.image image at piece);
    left = (image, h.left, refilled_same crash.image image at piece);
  }
  one_call Syncs s image anchor pairs h = record { given = (h.given, refl); given_image = (h.given_image, refl); given_anchor = (h.given, refl); left = (h.given_image, refl) }
  one_call Asks s image anchor pairs h = record { given = (h.given, refl); given_image = (h.given, refl); given_anchor = (h.given_anchor, refl); left = (h.given_anchor, refl) }
  one_call (Advances count mark false) s image anchor pairs h =
      let either = exchanged_either crash.anchor anchor (count, mark) false in
      record {
        given = (s.1, h.given, inr refl, λ is. refl);
        given_image = (anchor, h.given_image, either.0, either.1);
        given_anchor = (s.1, h.given_anchor, inr refl, λ is. refl);
        left = (anchor, h.left, either.0, either.1);
      }
  one_call (Advances count mark true) s image anchor pairs h =
      let either = exchanged_either crash.anchor anchor (count, mark) true in
      record {
        given = (s.1, h.given, inl refl, λ is. absurd (cc is));
        given_image = (anchor, h.given_image, either.0, either.1);
        given_anchor = (s.1, h.given_anchor, inl refl, λ is. absurd (cc is));
        left = (anchor, h.left, either.0, either.1);
      }
  one_call Fails s image anchor pairs h = record { given = h.given; given_image = h.given_image; given_anchor = h.given_anchor; left = h.left }
  one_call (Replaces at bytes) s image anchor pairs h = record {
    given = (s.0, h.given, refl);
    given_image = (s.0, h.given_image, refl);
    given_anchor = (image, h.given_anchor, refl);
    left = (image, h.left, refl);
  }
  one_call (Stops stopped asked) s image anchor pairs h = record { given = (refl, refl); given_image = (refl, refl); given_anchor = (refl, refl); left = (refl, refl) }

  all_calls : (cs : List Logged) (s : Stand) (image : List ℕ) (anchor : Anchor) (pairs : Pairs) → Belong s image anchor pairs
      → Belong (stand_of s cs) (image_of crash.image s image cs) (anchor_of crash.anchor s anchor cs) (pairs_of s pairs cs)
  all_calls [] s image anchor pairs h = h
  all_calls (c ∷ cs) s image anchor pairs h =
      all_calls cs (stand_after s c.event) (image_after crash.image s image c.event) (anchor_after crash.anchor s anchor c.event) (pairs_after s pairs c.event) (one_call c.event s image anchor pairs h)

  pub left_by_a_stop : (l : Log) → LeftSince l (clock_of l) (left_by crash l).0 (left_by crash l).1
  left_by_a_stop l =
      let at_start : Belong l.start l.start.0 l.start.1 (at_first l.start) = record { given = (refl, refl); given_image = (refl, refl); given_anchor = (refl, refl); left = (refl, refl) } in
      left_now l (left_by crash l).0 (left_by crash l).1 (all_calls l.calls l.start l.start.0 l.start.1 (at_first l.start) at_start).left
