use Rattle.std.proofs.Common.{◌≡◌, List, ℕ, rules, refl, sym, ◌∙◌, ap}
use Rattle.tdb_platform.specs.declared.call.Entry.{Entry}
use Rattle.tdb_platform.specs.LeftAnchor.{anchor_of}
use Rattle.tdb_platform.specs.LeftImage.{image_of}
use Rattle.tdb_platform.specs.Logs.{calls_of}
use Rattle.tdb_platform.specs.Outside.{Anchor}
use Rattle.tdb_platform.specs.Replay.{Stand, Stops}
use Rattle.tdb_platform.proofs.Doing.{did_stopped, stands_on, shorts_on}
use Rattle.tdb_platform.proofs.device.Device.crash.Goals as goal

pub invariant_of-result : goal.invariant_of-result
invariant_of-result c =
    let old = c.args.self in
    let kept = c.in_ok-to_vec.field-0.items in
    let anchor = c.anchor_left-count.result in
    let kept_is : kept ≡ c.in_ok-image.image.items = search rules in
    let next = stands_on old _ (Stops kept anchor) c.in_ok-enter.ensures.ok in
    record {
      image_is = sym kept_is ∙ ap (λ (s : Stand). s.0) next;
      count_is = ap (λ (s : Stand). s.1.0) next;
      mark_is = ap (λ (s : Stand). s.1.1) next;
      shorts_are = shorts_on old _ (Stops kept anchor) c.in_ok-enter.ensures.ok;
    }

pub returns : goal.returns
returns c =
    let old = c.args.self in
    let how = c.args.crash in
    let start = old.start.image.items in
    let at_first : Anchor = (old.start.count, old.start.mark) in
    let kept = c.in_ok-to_vec.field-0.items in
    let anchor = c.anchor_left-count.result in
    let kept_is : kept ≡ c.in_ok-image.image.items = search rules in
    let image_is : kept ≡ image_of how.image (start, at_first) start (calls_of old.entries.items) =
    kept_is ∙ c.in_ok-image.ensures at_first
    ∙ ap (λ (i : List ℕ). image_of how.image (i, at_first) i (calls_of c.deref-2.result.now)) c.deref.ensures.value
    ∙ ap (λ (es : List Entry). image_of how.image (start, at_first) start (calls_of es)) c.deref-2.ensures.value in
    let anchor_is : anchor ≡ anchor_of how.anchor (start, at_first) at_first (calls_of old.entries.items) =
    c.anchor_left-count.ensures start
    ∙ ap (λ (es : List Entry). anchor_of how.anchor (start, at_first) at_first (calls_of es)) c.deref-3.ensures.value in
    did_stopped old _ kept anchor c.in_ok-enter.ensures.ok _ refl (sym kept_is) refl
    (ap (λ (i : List ℕ). (i, anchor)) image_is ∙ ap (λ (a : Anchor). (image_of how.image (start, at_first) start (calls_of old.entries.items), a)) anchor_is)
