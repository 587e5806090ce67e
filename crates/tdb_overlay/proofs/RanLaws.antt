-- Runs of calls, one after another, and what each of them keeps.
use Rattle.std.proofs.Common.{◌≡◌, inl, inr, ⊎_elim, ℕ, ◌≤◌, List, [], ◌∷◌, ◌++◌, Bool, IsTrue, refl, sym, ◌∙◌, ap, subst, append-nil, append_assoc, arith}
use Rattle.tdb_base.specs.declared.piece.Piece.{Piece}
use Rattle.tdb_base.specs.declared.suite.Suite.{Suite}
use Rattle.tdb_base.specs.Trace.{Extends, IsNumbered, Trace, WrittenPiece}
use Rattle.tdb_base.proofs.Tracing.{extends_along, extends_itself}
use Rattle.tdb_mark.specs.CommitText.{commit_key_of, commit_of}
use Rattle.tdb_mark.proofs.UnforgedLemmas.{IsUnforged-before}
use Rattle.tdb_model.specs.Apply.{History}
use Rattle.tdb_platform.specs.Outside.{Anchor, Outside}
use Rattle.tdb_platform.specs.CrashStates.{CrashStates, LeavesOnly, Pairs, now}
use Rattle.tdb_overlay.specs.Found.{Store}
use Rattle.tdb_overlay.specs.Images.{IsIntactIn, IsReliable, IsReliableUnder}
use Rattle.tdb_overlay.specs.Log.{IsLog}
use Rattle.tdb_overlay.specs.Ran.{EachHasLog, FromLeft, IsFront, Leads, RanOn, StaysAnchored, WritesTexts}
use Rattle.tdb_overlay.specs.Reading.{OnlyReads}
use Rattle.tdb_overlay.specs.Required.{IsRequired}
use Rattle.tdb_overlay.specs.Sound.{IsSound}
use Rattle.tdb_overlay.specs.WellFormedLog.{IsAnchored, IsKeptLog, IsWellFormedLog, IsWellFormedTrace, NamesText}
use Rattle.tdb_overlay.proofs.ImageLaws.{intact_stays}
use Rattle.tdb_overlay.proofs.KeptLaws.{names_stays}
use Rattle.tdb_overlay.proofs.LogLaws.{log_stays}
use Rattle.tdb_overlay.proofs.TextsRan.{counts_then, writes_none, writes_then, writes_wider}
use Rattle.tdb_overlay.proofs.SealedPuts.{only_sealed_along, only_sealed_none}

no_front : (front : History) → IsFront front [] → front ≡ []
no_front [] is = refl
no_front (x ∷ front) is = absurd (cc is.1)

-- the same anchor, in a longer trace
module _ (store : Store) (t u : Trace) (grows : Extends t u) (a : Anchor) where
  pub still_leads : (maybe : History) → Leads store t.written u.written [] maybe a a
  still_leads maybe before from is = (
    [],
    from,
    (maybe, refl),
    subst (λ (h : History). IsLog u.written store a h from) (sym (append-nil before))
        (subst (λ (ws : List WrittenPiece). IsLog ws store a before from) (sym grows.written)
        (log_stays t.written grows.more_written store a before from is)),
  )

  pub still_anchored : StaysAnchored store.secret t.written u.written a a
  still_anchored (inl none) = inl none
  still_anchored (inr named) = inr
      (subst (λ (ws : List WrittenPiece). NamesText ws store.secret a) (sym grows.written)
      (names_stays t.written grows.more_written store.secret a named))

  pub still_intact : (image : List ℕ) → IsIntactIn image t.written store a → IsIntactIn image u.written store a
  still_intact image is = subst (λ (ws : List WrittenPiece). IsIntactIn image ws store a) (sym grows.written)
      (intact_stays t.written grows.more_written store image a is)

module _ (store : Store) (ws vs us : List WrittenPiece) (c b a : Anchor) where
  pub leads_then : (xs ys maybe : History) → Leads store ws vs xs [] c b → Leads store vs us ys maybe b a
      → Leads store ws us (xs ++ ys) maybe c a
  leads_then xs ys maybe first then before from is =
      let one = first before from is in
      let same : before ++ (xs ++ one.0) ≡ before ++ xs = ap (λ (h : History). before ++ (xs ++ h)) (no_front one.0 one.2)
      ∙ ap (λ (h : History). before ++ h) (append-nil xs) in
      let two = then (before ++ xs) one.1 (subst (λ (h : History). IsLog vs store b h one.1) same one.3) in (
        two.0,
        two.1,
        two.2,
        subst (λ (h : History). IsLog us store a h two.1)
            (append_assoc before xs (ys ++ two.0) ∙ ap (λ (h : History). before ++ h) (sym (append_assoc xs ys two.0))) two.3,
      )

  pub leads_after : (xs maybe : History) → Leads store ws vs xs maybe c b → Leads store vs us [] [] b a → Leads store ws us xs maybe c a
  leads_after xs maybe first then before from is =
      let one = first before from is in
      let two = then (before ++ (xs ++ one.0)) one.1 one.3 in
      let same : (before ++ (xs ++ one.0)) ++ two.0 ≡ before ++ (xs ++ one.0) = ap (λ (h : History). (before ++ (xs ++ one.0)) ++ h)
      (no_front two.0 two.2) ∙ append-nil (before ++ (xs ++ one.0)) in
      (one.0, two.1, one.2, subst (λ (h : History). IsLog us store a h two.1) same two.3)

module _ (store : Store) (ws vs : List WrittenPiece) (b a : Anchor) where
  -- what was made for sure is of what may have been
  pub leads_part : (xs maybe : History) → Leads store ws vs xs maybe b a → Leads store ws vs [] (xs ++ maybe) b a
  leads_part xs maybe first before from is =
      let one = first before from is in
      (xs ++ one.0, one.1, (one.2.0, append_assoc xs one.0 one.2.0 ∙ ap (λ (h : History). xs ++ h) one.2.1), one.3)

  pub leads_wider : (xs maybe more all : History) → maybe ++ more ≡ all → Leads store ws vs xs maybe b a → Leads store ws vs xs all b a
  leads_wider xs maybe more all is first before from log =
      let one = first before from log in
      (one.0, one.1, (one.2.0 ++ more, sym (append_assoc one.0 one.2.0 more) ∙ ap (λ (h : History). h ++ more) one.2.1 ∙ is), one.3)

-- No call.
module _ {D : Type 0} (outside : D → Outside) (crash_states : D → CrashStates) (store : Store) where
  -- a pair that could be left then
  pub from_itself : (old new : D) → Extends (outside old).trace (outside new).trace → (maybe : History) (i : List ℕ) (a : Anchor)
      → now outside crash_states old i a → FromLeft outside crash_states store old new [] maybe i a
  from_itself old new grows maybe i a here = record {
    image = i;
    anchor = a;
    left = here;
    leads = still_leads store (outside old).trace (outside new).trace grows a maybe;
    anchored = still_anchored store (outside old).trace (outside new).trace grows a;
    counts = λ before from log. omega arith;
    spares = λ honest is. still_intact store (outside old).trace (outside new).trace grows a i is;
  }

  pub ran_none : (p : D) (maybe : History) → RanOn outside crash_states store p [] maybe p
  ran_none p maybe =
      let t : Trace = (outside p).trace in
      record {
        tells = refl;
        honest = refl;
        grows = λ _. extends_itself t;
        faults = omega arith;
        sealed = only_sealed_none store.secret (outside p);
        formed = λ sound kept. kept.trace;
        texts = λ sound. writes_none outside crash_states store p p maybe refl;
        leads = λ sound. still_leads store t t (extends_itself t) (outside p).anchor maybe;
        anchored = λ sound is. is;
        counts = λ sound before from log. omega arith;
        left = λ sound i a here. from_itself p p (extends_itself t) maybe i a here;
        moments = record {
          later = omega arith;
          each = λ i a here sound. from_itself p p (extends_itself t) maybe i a here;
          before = λ u i a within left. inl left;
          keeps = λ u i a within left. left;
        };
      }

module _ {D : Type 0} (outside : D → Outside) (crash_states : D → CrashStates)
    (counts : (p : D) (t u : ℕ) (i : List ℕ) (a : Anchor) → t ≤ u → u ≤ (outside p).clock → crash_states p u i a → crash_states p t i a)
    (numbered : (p : D) → IsTrue (outside p).tells → IsNumbered (outside p).trace) (store : Store) where
  abbrev written : D → List WrittenPiece
  written d = (outside d).trace.written

  abbrev Ran : D → History → History → D → Type 0
  Ran old surely maybe new = RanOn outside crash_states store old surely maybe new

  abbrev From : D → D → History → History → List ℕ → Anchor → Type 0
  From old new surely maybe i a = FromLeft outside crash_states store old new surely maybe i a

  -- What is sound at the end was sound before.
  pub sound_earlier : (old new : D) → (outside new).tells ≡ (outside old).tells
      → (IsTrue (outside old).tells → Extends (outside old).trace (outside new).trace) → IsSound store.secret (outside new)
      → IsSound store.secret (outside old)
  sound_earlier old new tells grows sound =
      let was : IsTrue (outside old).tells = subst (λ (b : Bool). IsTrue b) tells sound.tells in
      record {
        tells = was;
        unforged = IsUnforged-before (outside old).trace (outside new).trace
            (commit_of (commit_key_of store.secret)) (numbered old was) (grows was) sound.unforged;
      }

  pub sound_before : (old new : D) (xs maybe : History) → Ran old xs maybe new → IsSound store.secret (outside new)
      → IsSound store.secret (outside old)
  sound_before old new xs maybe ran sound = sound_earlier old new ran.tells ran.grows sound

  pub ran_itself : (c : D) → Ran c [] [] c
  ran_itself c = ran_none outside crash_states store c []

  -- Calls that only read.
  pub ran_reads : (old new : D) → OnlyReads outside crash_states old new → Ran old [] [] new
  ran_reads old new reads =
      let grew : IsSound store.secret (outside new)
      → Extends (outside old).trace (outside new).trace = λ sound. reads.grows
      (sound_earlier old new reads.tells reads.grows sound).tells in
      record {
        tells = reads.tells;
        honest = reads.honest;
        grows = reads.grows;
        faults = reads.faults;
        sealed = λ tells. record {
          more = [];
          written = reads.written tells ∙ sym (append-nil (written old));
          each = λ k d within. absurd (omega (arith, within));
        };
        formed = λ sound kept.
            subst (λ (ws : List WrittenPiece). IsWellFormedTrace ws store.secret)
            (sym (reads.written (sound_earlier old new reads.tells reads.grows sound).tells)) kept.trace;
        texts = λ sound. writes_none outside crash_states store old new []
            (reads.written (sound_earlier old new reads.tells reads.grows sound).tells);
        leads = λ sound.
            subst (λ (a : Anchor). Leads store (written old) (written new) [] [] (outside old).anchor a)
            (sym (reads.anchor (sound_earlier old new reads.tells reads.grows sound).tells))
            (still_leads store (outside old).trace (outside new).trace (grew sound) (outside old).anchor []);
        anchored = λ sound is.
            subst (λ (a : Anchor). IsAnchored (written new) store.secret a)
            (sym (reads.anchor (sound_earlier old new reads.tells reads.grows sound).tells))
            (still_anchored store (outside old).trace (outside new).trace (grew sound) (outside old).anchor is);
        counts = λ sound before from log.
            let same = ap (λ (a : Anchor). a.0) (reads.anchor (sound_earlier old new reads.tells reads.grows sound).tells) in
            omega (arith, same);
        left = λ sound i a here.
            from_itself outside crash_states store old new (grew sound) [] i a
            (reads.left.each i a (counts new (outside old).clock (outside new).clock i a reads.left.later (omega arith) here));
        moments = record {
          later = reads.left.later;
          each = λ i a since sound. from_itself outside crash_states store old new (grew sound) [] i a (reads.left.each i a since);
          before = reads.left.before;
          keeps = reads.left.keeps;
        };
      }

  -- what a stop may leave over two runs
  joined : (old mid new : D) (P Q R : Pairs) → LeavesOnly outside crash_states old mid P → LeavesOnly outside crash_states mid new Q
      → ((i : List ℕ) (a : Anchor) → P i a → R i a) → ((i : List ℕ) (a : Anchor) → Q i a → R i a)
      → LeavesOnly outside crash_states old new R
  joined old mid new P Q R first then from_first from_then = record {
    later = omega (arith, first.later, then.later);
    each = λ i a left. ⊎_elim (λ earlier. from_first i a (first.each i a earlier)) (λ since. from_then i a (then.each i a since))
        (then.before (outside old).clock i a first.later left);
    before = λ t i a within left. ⊎_elim
        (λ earlier. ⊎_elim (λ at_start. inl at_start) (λ after. inr (then.keeps (outside old).clock i a first.later after))
        (first.before t i a within earlier))
        (λ since. inr (counts new (outside old).clock (outside mid).clock i a first.later then.later since))
        (then.before t i a (omega (arith, within, first.later)) left);
    keeps = λ t i a within left. then.keeps t i a (omega (arith, within, first.later)) (first.keeps t i a within left);
  }

  -- What a run keeps: the trace well formed for the platform's anchor,
  pub anchor_after : (old new : D) (xs maybe : History) → Ran old xs maybe new → IsSound store.secret (outside new)
      → IsWellFormedLog (written old) store.secret (outside old).anchor → IsWellFormedLog (written new) store.secret (outside new).anchor
  anchor_after old new xs maybe ran sound kept = record { trace = ran.formed sound kept; anchored = ran.anchored sound kept.anchored }

  -- and for each anchor that a stop may leave, now
  pub kept_after : (old new : D) (xs maybe : History) → Ran old xs maybe new → IsSound store.secret (outside new)
      → IsKeptLog outside crash_states store.secret old → IsKeptLog outside crash_states store.secret new
  kept_after old new xs maybe ran sound kept = record {
    anchor = anchor_after old new xs maybe ran sound kept.anchor;
    left = λ i a here. let f = ran.left sound i a here in record {
      trace = ran.formed sound kept.anchor;
      anchored = f.anchored
          (kept.left f.image f.anchor f.left).anchored;
    };
  }

  -- and at any moment since;
  pub kept_since : (old new : D) (xs maybe : History) → Ran old xs maybe new → IsSound store.secret (outside new)
      → IsKeptLog outside crash_states store.secret old
      → (i : List ℕ) (a : Anchor) → crash_states new (outside old).clock i a → IsWellFormedLog (written new) store.secret a
  kept_since old new xs maybe ran sound kept i a since =
      let f = ran.moments.each i a since sound in record {
        trace = ran.formed sound kept.anchor;
        anchored = f.anchored
            (kept.left f.image f.anchor f.left).anchored;
      }

  -- and each pair intact, now
  pub reliable_after : (old new : D) (xs maybe : History) → Ran old xs maybe new → IsSound store.secret (outside new)
      → IsReliable outside crash_states store old → IsReliable outside crash_states store new
  reliable_after old new xs maybe ran sound reliable = record {
    honest = subst (λ (b : Bool). IsTrue b) (sym ran.honest) reliable.honest;
    intact = λ i a here. let f = ran.left sound i a here in f.spares reliable.honest (reliable.intact f.image f.anchor f.left);
  }

  -- and at any moment since.
  pub intact_since : (old new : D) (xs maybe : History) → Ran old xs maybe new → IsSound store.secret (outside new)
      → IsReliable outside crash_states store old
      → (i : List ℕ) (a : Anchor) → crash_states new (outside old).clock i a → IsIntactIn i (written new) store a
  intact_since old new xs maybe ran sound reliable i a since =
      let f = ran.moments.each i a since sound in f.spares reliable.honest (reliable.intact f.image f.anchor f.left)

  -- Where each anchor that a stop could leave had a log of the store, it doesn't matter in which suite an image is intact.
  pub reliable_of : (p : D) → EachHasLog outside crash_states store p → IsReliableUnder outside crash_states store.secret p
      → IsReliable outside crash_states store p
  reliable_of p each reliable = record {
    honest = reliable.honest;
    intact = λ i a here.
        let log = each i a here in
        let is = reliable.intact i a here in
        record { history = log.0; last = log.1; log = log.2; stand = λ piece needs. is.1.stand piece (in_suite is.0 a piece needs) };
  }
    where
      in_suite : (suite : Suite) (a : Anchor) (piece : Piece) → IsRequired (written p) store a piece
          → IsRequired (written p) (record { secret = store.secret; suite = suite }) a piece
      in_suite suite a piece needs = record {
        chain = needs.chain;
        ends = needs.ends;
        text = needs.text;
        earlier = needs.earlier;
        later = needs.later;
        in_chain = needs.in_chain;
        since_base = needs.since_base;
        rests = needs.rests;
      }

  pub reliable_under : (p : D) → IsReliable outside crash_states store p → IsReliableUnder outside crash_states store.secret p
  reliable_under p reliable = record { honest = reliable.honest; intact = λ i a here. (store.suite, reliable.intact i a here) }

  module _ (a b c : D) where
    grows_on : (xs ys m n : History) → Ran a xs m b → Ran b ys n c → IsTrue (outside a).tells → Extends (outside a).trace (outside c).trace
    grows_on xs ys m n first then tells = extends_along (outside a).trace (outside b).trace (outside c).trace (first.grows tells)
        (then.grows (subst (λ (t : Bool). IsTrue t) (sym first.tells) tells))

    -- what a stop could leave in the first run, seen from the end of both
    first_part : (xs ys m n all more : History) → (xs ++ m) ++ more ≡ all → Ran a xs m b → Ran b ys n c → (i : List ℕ) (x : Anchor)
        → (IsSound store.secret (outside b) → From a b [] (xs ++ m) i x)
        → IsSound store.secret (outside c) → From a c [] all i x
    first_part xs ys m n all more is first then i x from sound =
        let mid = sound_before b c ys n then sound in
        let f = from mid in
        let grows = then.grows mid.tells in
        record {
          image = f.image;
          anchor = f.anchor;
          left = f.left;
          leads = leads_wider store (written a) (written c) f.anchor x [] (xs ++ m) more all is
              (leads_after store (written a) (written b) (written c) f.anchor x x [] (xs ++ m) f.leads
              (still_leads store (outside b).trace (outside c).trace grows x []));
          anchored = λ was. still_anchored store (outside b).trace (outside c).trace grows x (f.anchored was);
          counts = f.counts;
          spares = λ honest was. still_intact store (outside b).trace (outside c).trace grows x i (f.spares honest was);
        }

    -- a pair of the second run, by way of one of the first
    by_way : (xs m ys n surely maybe : History) → Ran a xs m b → IsSound store.secret (outside c) → IsSound store.secret (outside b)
        → (i : List ℕ) (x : Anchor) → (t : From b c ys n i x)
        → ((one : Anchor) → Leads store (written a) (written b) xs m one t.anchor
        → Leads store (written a) (written c) surely maybe one x) → From a c surely maybe i x
    by_way xs m ys n surely maybe first sound mid i x t leads =
        let f = first.left mid t.image t.anchor t.left in
        record {
          image = f.image;
          anchor = f.anchor;
          left = f.left;
          leads = leads f.anchor f.leads;
          anchored = λ was. t.anchored (f.anchored was);
          counts = counts_then store (written a) (written b) f.anchor t.anchor x xs m f.leads f.counts t.counts;
          spares = λ honest was. t.spares (subst (λ (b : Bool). IsTrue b) (sym first.honest) honest) (f.spares honest was);
        }

    -- the texts of one run and then another,
    texts_on : (xs ys maybe : History) → Ran a xs [] b → Ran b ys maybe c → IsSound store.secret (outside c)
        → IsSound store.secret (outside b) → WritesTexts outside crash_states store a ((xs ++ ys) ++ maybe) c
    texts_on xs ys maybe first then sound mid =
        writes_then outside crash_states store a b c xs [] (ys ++ maybe) ((xs ++ ys) ++ maybe) ys maybe (then.grows mid.tells) first.faults
        then.faults (first.leads mid) (then.counts sound) (first.left mid) (then.left sound)
        (ys ++ maybe, ap (λ (h : History). h ++ (ys ++ maybe)) (append-nil xs) ∙ sym (append_assoc xs ys maybe))
        (λ f g none is. (
          is.0,
          append_assoc (xs ++ f) g is.0 ∙ ap (λ (h : History). (xs ++ f) ++ h) is.1
              ∙ ap (λ (h : History). (xs ++ h) ++ (ys ++ maybe)) (no_front f none)
              ∙ ap (λ (h : History). h ++ (ys ++ maybe)) (append-nil xs) ∙ sym (append_assoc xs ys maybe),
        ))
        (first.texts mid) (then.texts sound)

    -- and of one that begins no commit, behind one that may have
    texts_after : (xs maybe : History) → Ran a xs maybe b → Ran b [] [] c → IsSound store.secret (outside c)
        → IsSound store.secret (outside b) → WritesTexts outside crash_states store a (xs ++ maybe) c
    texts_after xs maybe first then sound mid =
        writes_then outside crash_states store a b c xs maybe [] (xs ++ maybe) [] [] (then.grows mid.tells) first.faults
        then.faults (first.leads mid) (then.counts sound) (first.left mid) (then.left sound)
        ([], append-nil (xs ++ maybe))
        (λ f g is none. (
          is.0,
          ap (λ (h : History). ((xs ++ f) ++ h) ++ is.0) (no_front g none)
              ∙ ap (λ (h : History). h ++ is.0) (append-nil (xs ++ f)) ∙ append_assoc xs f is.0 ∙ ap (λ (h : History). xs ++ h) is.1,
        ))
        (first.texts mid) (then.texts sound)

    -- One run, and then another.
    pub ran_then : (xs ys maybe : History) → Ran a xs [] b → Ran b ys maybe c → Ran a (xs ++ ys) maybe c
    ran_then xs ys maybe first then = record {
      tells = then.tells ∙ first.tells;
      honest = then.honest ∙ first.honest;
      grows = grows_on xs ys [] maybe first then;
      faults = omega (arith, first.faults, then.faults);
      sealed = only_sealed_along store.secret (outside a) (outside b) (outside c) first.tells first.sealed then.sealed;
      formed = λ sound kept. then.formed sound (anchor_after a b xs [] first (sound_before b c ys maybe then sound) kept);
      texts = λ sound. texts_on xs ys maybe first then sound (sound_before b c ys maybe then sound);
      leads = λ sound.
          leads_then store (written a) (written b) (written c) (outside a).anchor (outside b).anchor (outside c).anchor xs ys maybe
          (first.leads (sound_before b c ys maybe then sound)) (then.leads sound);
      anchored = λ sound was. then.anchored sound (first.anchored (sound_before b c ys maybe then sound) was);
      counts = λ sound.
          let mid = sound_before b c ys maybe then sound in
          counts_then store (written a) (written b) (outside a).anchor (outside b).anchor (outside c).anchor xs [] (first.leads mid)
          (first.counts mid) (then.counts sound);
      left = λ sound i x here.
          let t = then.left sound i x here in
          by_way xs [] ys maybe (xs ++ ys) maybe first sound (sound_before b c ys maybe then sound) i x t
          (λ one led. leads_then store (written a) (written b) (written c) one t.anchor x xs ys maybe led t.leads);
      moments = joined a b c _ _ _ first.moments then.moments
          (first_part xs ys [] maybe ((xs ++ ys) ++ maybe) (ys ++ maybe)
          (ap (λ (h : History). h ++ (ys ++ maybe)) (append-nil xs) ∙ sym (append_assoc xs ys maybe)) first then)
          (λ i x from sound.
          let t = from sound in
          by_way xs [] [] (ys ++ maybe) [] ((xs ++ ys) ++ maybe) first sound (sound_before b c ys maybe then sound) i x t
          (λ one led.
          let both = leads_then store (written a) (written b) (written c) one t.anchor x xs [] (ys ++ maybe) led t.leads in
          subst (λ (all : History). Leads store (written a) (written c) [] all one x) (sym (append_assoc xs ys maybe))
          (leads_part store (written a) (written c) one x xs (ys ++ maybe)
          (subst (λ (s : History). Leads store (written a) (written c) s (ys ++ maybe) one x) (append-nil xs) both))));
    }

    -- A run that begins no commit, behind one that may have.
    pub ran_after : (xs maybe : History) → Ran a xs maybe b → Ran b [] [] c → Ran a xs maybe c
    ran_after xs maybe first then = record {
      tells = then.tells ∙ first.tells;
      honest = then.honest ∙ first.honest;
      grows = grows_on xs [] maybe [] first then;
      faults = omega (arith, first.faults, then.faults);
      sealed = only_sealed_along store.secret (outside a) (outside b) (outside c) first.tells first.sealed then.sealed;
      formed = λ sound kept. then.formed sound (anchor_after a b xs maybe first (sound_before b c [] [] then sound) kept);
      texts = λ sound. texts_after xs maybe first then sound (sound_before b c [] [] then sound);
      leads = λ sound.
          leads_after store (written a) (written b) (written c) (outside a).anchor (outside b).anchor (outside c).anchor xs maybe
          (first.leads (sound_before b c [] [] then sound)) (then.leads sound);
      anchored = λ sound was. then.anchored sound (first.anchored (sound_before b c [] [] then sound) was);
      counts = λ sound.
          let mid = sound_before b c [] [] then sound in
          counts_then store (written a) (written b) (outside a).anchor (outside b).anchor (outside c).anchor xs maybe (first.leads mid)
          (first.counts mid) (then.counts sound);
      left = λ sound i x here.
          let t = then.left sound i x here in
          by_way xs maybe [] [] xs maybe first sound (sound_before b c [] [] then sound) i x t
          (λ one led. leads_after store (written a) (written b) (written c) one t.anchor x xs maybe led t.leads);
      moments = joined a b c _ _ _ first.moments then.moments
          (first_part xs [] maybe [] (xs ++ maybe) [] (append-nil (xs ++ maybe)) first then)
          (λ i x from sound.
          let t = from sound in
          by_way xs maybe [] [] [] (xs ++ maybe) first sound (sound_before b c [] [] then sound) i x t
          (λ one led. leads_part store (written a) (written c) one x xs maybe
          (leads_after store (written a) (written b) (written c) one t.anchor x xs maybe led t.leads)));
    }

  from_wider : (old new : D) (xs maybe more all : History) → maybe ++ more ≡ all → (i : List ℕ) (x : Anchor) → From old new xs maybe i x
      → From old new xs all i x
  from_wider old new xs maybe more all is i x f = record {
    image = f.image;
    anchor = f.anchor;
    left = f.left;
    leads = leads_wider store (written old) (written new) f.anchor x xs maybe more all is f.leads;
    anchored = f.anchored;
    counts = f.counts;
    spares = f.spares;
  }

  -- More commits may have been made.
  pub ran_wider : (old new : D) (xs maybe : History) → Ran old xs [] new → Ran old xs maybe new
  ran_wider old new xs maybe ran = record {
    tells = ran.tells;
    honest = ran.honest;
    grows = ran.grows;
    faults = ran.faults;
    sealed = ran.sealed;
    formed = ran.formed;
    texts = λ sound. writes_wider outside crash_states store old new (xs ++ []) maybe (xs ++ maybe)
        (ap (λ (h : History). h ++ maybe) (append-nil xs)) (ran.texts sound);
    leads = λ sound. leads_wider store (written old) (written new) (outside old).anchor (outside new).anchor xs [] maybe maybe refl
        (ran.leads sound);
    anchored = ran.anchored;
    counts = ran.counts;
    left = λ sound i x here. from_wider old new xs [] maybe maybe refl i x (ran.left sound i x here);
    moments = record {
      later = ran.moments.later;
      each = λ i x since sound. from_wider old new [] (xs ++ []) maybe (xs ++ maybe)
          (ap (λ (h : History). h ++ maybe) (append-nil xs)) i x (ran.moments.each i x since sound);
      before = ran.moments.before;
      keeps = ran.moments.keeps;
    };
  }
