-- A device did what the new entry of its log says; where there was no memory for one, it did nothing.
use Rattle.std.proofs.Common.{◌≡◌, inl, ℕ, ◌≤◌, List, [], ◌∷◌, ◌++◌, refl, sym, ◌∙◌, ap, subst, arith}
use Rattle.std.proofs.lemmas.List.{length-append, map-append}
use Rattle.std.specs.Prelude.{Result, Ok, Err, OnOk, OnErr}
use Rattle.tdb_base.specs.Trace.{no_trace}
use Rattle.tdb_platform.specs.declared.device.Device.{Device}
use Rattle.tdb_platform.specs.declared.call.Entry.{Entry}
use Rattle.tdb_platform.specs.Outside.{Anchor, Rose}
use Rattle.tdb_platform.specs.CrashStates.{Elapses}
use Rattle.tdb_platform.specs.Image.{overwritten}
use Rattle.tdb_platform.specs.Logs.{calls_of, logged_of}
use Rattle.tdb_platform.specs.DeviceLaws.{stand_is}
use Rattle.tdb_platform.specs.Device.{Did, Replaced, Stopped, log_of, stand, outside_of, crash_states_of}
use Rattle.tdb_platform.specs.Replay.{Event, Fails, Replaces, Stops, Stand, stand_after, pairs_after, Logged, stand_of, trace_of, most_short, Log, clock_of, LeftSince, added, missed}
use Rattle.tdb_platform.proofs.Logging.{stand_of-push, trace_of-push, most_short-push, now_added, now_missed, elapses_added, elapses_missed, replaced_each}

-- the entries with one more
pub calls_of-push : (entries : List Entry) (e : Entry) → calls_of (entries ++ e ∷ []) ≡ calls_of entries ++ logged_of e ∷ []
calls_of-push entries e = map-append logged_of entries (e ∷ [])

pub did_added : (old new : Device) (e : Event) → log_of new ≡ added (log_of old) e → new.image.items ≡ (stand_after (stand old) e).0 → (new.count, new.mark) ≡ (stand_after (stand old) e).1 → Did old new e
did_added old new e is image anchor = record {
  trace = ap (λ (l : Log). trace_of no_trace l.calls) is ∙ trace_of-push (log_of old).calls (record { event = e; short = old.short }) no_trace;
  image = image;
  anchor = anchor;
  now = λ i a left.
      subst (λ (s : Stand). pairs_after s (crash_states_of old (clock_of (log_of old))) e i a) (sym (stand_is old))
      (now_added (log_of old) e old.shorts_are i a (subst (λ (l : Log). LeftSince l (clock_of l) i a) is left));
  time = λ m n.
      subst (λ (l : Log). Elapses (outside_of old m) (outside_of new n) (crash_states_of old) (LeftSince l)) (sym is)
      (elapses_added (log_of old) e (outside_of old m) (outside_of new n) refl (ap clock_of is));
  ticks = inl (omega (arith, ap clock_of is, length-append (log_of old).calls (record { event = e; short = old.short } ∷ [])));
}

pub did_nothing : (old new : Device) → old.short ≤ 18446744073709551615 → log_of new ≡ missed (log_of old) → new.image.items ≡ old.image.items → (new.count, new.mark) ≡ (stand old).1 → Did old new Fails
did_nothing old new short is image anchor = record {
  trace = ap (λ (l : Log). trace_of no_trace l.calls) is;
  image = image;
  anchor = anchor;
  now = λ i a left. now_missed (log_of old) old.shorts_are short i a (subst (λ (l : Log). LeftSince l (clock_of l) i a) is left);
  time = λ m n.
      subst (λ (l : Log). Elapses (outside_of old m) (outside_of new n) (crash_states_of old) (LeftSince l)) (sym is)
      (elapses_missed (log_of old) short (outside_of old m) (outside_of new n) refl (ap clock_of is));
  ticks = rose;
}
  where
    clock_is : clock_of (log_of new) ≡ clock_of (missed (log_of old))
    clock_is = ap clock_of is

    rose : Rose (clock_of (log_of old)) (clock_of (log_of new))
    rose = grind (arith, clock_is)

-- what stands after one call more
pub stands_on : (old : Device) (calls : List Logged) (e : Event) → calls ≡ (log_of old).calls ++ record { event = e; short = old.short } ∷ [] → stand_after (stand old) e ≡ stand_of (log_of old).start calls
stands_on old calls e is =
    ap (λ (s : Stand). stand_after s e) (stand_is old)
    ∙ sym (stand_of-push (log_of old).calls (record { event = e; short = old.short }) (log_of old).start)
    ∙ ap (stand_of (log_of old).start) (sym is)

pub shorts_on : (old : Device) (calls : List Logged) (e : Event) → calls ≡ (log_of old).calls ++ record { event = e; short = old.short } ∷ [] → most_short calls ≤ old.short
shorts_on old calls e is = subst (λ (cs : List Logged). most_short cs ≤ old.short) (sym is) (most_short-push (log_of old).calls e old.short old.shorts_are)

pub log_added : (old : Device) (calls : List Logged) (e : Event) → calls ≡ (log_of old).calls ++ record { event = e; short = old.short } ∷ []
    → (let l : Log = record { start = (log_of old).start; calls = calls; short = old.short } in l ≡ added (log_of old) e)
log_added old calls e is = ap (λ (cs : List Logged). let l : Log = record { start = (log_of old).start; calls = cs; short = old.short } in l) is

pub log_missed : (old : Device) (entries : List Entry) (short : ℕ) → entries ≡ old.entries.items → short ≡ (missed (log_of old)).short
    → (let l : Log = record { start = (log_of old).start; calls = calls_of entries; short = short } in l ≡ missed (log_of old))
log_missed old entries short is short_is =
    ap (λ (es : List Entry). let l : Log = record { start = (log_of old).start; calls = calls_of es; short = short } in l) is
    ∙ ap (λ (n : ℕ). let l : Log = record { start = (log_of old).start; calls = (log_of old).calls; short = n } in l) short_is

-- a fact that holds after Ok and after Err
pub either_way : {T E : Type 0} (r : Result T E) (P : Type 0) → OnOk r P → OnErr r P → P
either_way (Ok x) P ok err = ok
either_way (Err x) P ok err = err

on_ok_of_both : {T E : Type 0} (r : Result T E) (P Q R : Type 0) → (P → Q → R) → OnOk r P → OnOk r Q → OnOk r R
on_ok_of_both (Ok x) P Q R f p q = f p q
on_ok_of_both (Err x) P Q R f p q = tt

-- ---- bytes that the device's holder puts in place of others

-- what a device keeps of these entries and this image, where its anchor stays
pub record Stands (old : Device) (entries : List Entry) (image : List ℕ) : Type 0 where
  pub image_is : image ≡ (stand_of (log_of old).start (calls_of entries)).0
  pub anchor_is : (stand old).1 ≡ (stand_of (log_of old).start (calls_of entries)).1
  pub shorts_are : most_short (calls_of entries) ≤ old.short

replaced : (old new : Device) (at : ℕ) (bytes : List ℕ) → log_of new ≡ added (log_of old) (Replaces at bytes) → new.image.items ≡ overwritten old.image.items at bytes
    → (new.count, new.mark) ≡ (stand old).1 → Replaced old new at bytes
replaced old new at bytes is image anchor = record {
  did = did_added old new (Replaces at bytes) is image anchor;
  clock = ap clock_of is ∙ omega (arith, length-append (log_of old).calls (record { event = Replaces at bytes; short = old.short } ∷ []));
  each = λ i a left.
      subst (λ (l : Log). LeftSince l (clock_of l) (overwritten i at bytes) a) (sym is)
      (replaced_each (log_of old) at bytes old.shorts_are i a left);
}

module _ (old : Device) (at : ℕ) (bytes : List ℕ) (entries : List Entry) (image : List ℕ) where
  abbrev pub Entered : Type 0
  Entered = calls_of entries ≡ (log_of old).calls ++ record { event = Replaces at bytes; short = old.short } ∷ []

  pub stands_replaced : {T E : Type 0} (r : Result T E) → OnOk r Entered → OnOk r (image ≡ overwritten old.image.items at bytes)
      → OnErr r (entries ≡ old.entries.items) → OnErr r (image ≡ old.image.items) → Stands old entries image
  stands_replaced (Ok x) entered put same same_image =
      let next = stands_on old (calls_of entries) (Replaces at bytes) entered in
      record {
        image_is = put ∙ ap (λ (s : Stand). s.0) next;
        anchor_is = ap (λ (s : Stand). s.1) next;
        shorts_are = shorts_on old (calls_of entries) (Replaces at bytes) entered;
      }
  stands_replaced (Err x) entered put same same_image = record {
    image_is = same_image ∙ subst (λ (es : List Entry). old.image.items ≡ (stand_of (log_of old).start (calls_of es)).0) (sym same) (ap (λ (s : Stand). s.0) (stand_is old));
    anchor_is = subst (λ (es : List Entry). (stand old).1 ≡ (stand_of (log_of old).start (calls_of es)).1) (sym same) (ap (λ (s : Stand). s.1) (stand_is old));
    shorts_are = subst (λ (es : List Entry). most_short (calls_of es) ≤ old.short) (sym same) old.shorts_are;
  }

  pub did_replaced : {T E : Type 0} (r : Result T E) (new : Device) → log_of new ≡ record { start = (log_of old).start; calls = calls_of entries; short = old.short } → new.image.items ≡ image
      → (new.count, new.mark) ≡ (stand old).1 → OnOk r Entered → OnOk r (image ≡ overwritten old.image.items at bytes) → OnOk r (Replaced old new at bytes)
  did_replaced r new log image_is anchor entered_ok put_ok =
      on_ok_of_both r Entered (image ≡ overwritten old.image.items at bytes) (Replaced old new at bytes)
      (λ entered put. replaced old new at bytes (log ∙ log_added old (calls_of entries) (Replaces at bytes) entered) (image_is ∙ put) anchor) entered_ok put_ok

-- ---- a stop

module _ (old new : Device) (image : List ℕ) (anchor : Anchor)
    (entered : calls_of new.entries.items ≡ (log_of old).calls ++ record { event = Stops image anchor; short = old.short } ∷ []) where
  pub did_stopped : (left : Stand) → log_of new ≡ record { start = (log_of old).start; calls = calls_of new.entries.items; short = old.short } → new.image.items ≡ image
      → (new.count, new.mark) ≡ anchor → (image, anchor) ≡ left → Stopped old new left
  did_stopped left log image_is anchor_is is =
      let added_is = log ∙ log_added old (calls_of new.entries.items) (Stops image anchor) entered in
      let stopped : Stopped old new (image, anchor) = record {
        did = did_added old new (Stops image anchor) added_is image_is anchor_is;
        clock = ap clock_of added_is ∙ omega (arith, length-append (log_of old).calls (record { event = Stops image anchor; short = old.short } ∷ []));
        short = ap (λ (l : Log). l.short) log;
      } in
      subst (Stopped old new) is stopped
