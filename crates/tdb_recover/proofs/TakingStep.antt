-- Taking a commit that was shown whole behind a log is a step of that log.
use Rattle.std.proofs.Common.{◌≡◌, ◌⊎◌, inr, ⊎_elim, ℕ, ◌+◌, ◌≤◌, Bool, IsTrue, List, [], ◌∷◌, ◌++◌, Result, Ok, Err, refl, sym, ◌∙◌, ap, subst, arith}
use Rattle.std.specs.Prelude.{OnErr, OnOk}
use Rattle.std.specs.List.{AllByRecursion}
use Rattle.sha2.specs.Sha256.{sha256}
use Rattle.tdb_base.specs.declared.piece.Digest.{Digest}
use Rattle.tdb_base.specs.Trace.{IsNumbered, ReadPiece, Trace, WrittenPiece}
use Rattle.tdb_list.specs.declared.entry.Entry.{Entry}
use Rattle.tdb_mark.specs.declared.commit.Commit.{Commit}
use Rattle.tdb_mark.specs.CommitText.{commit_key_of, commit_of}
use Rattle.tdb_mark.specs.Unforged.{IsUnforged}
use Rattle.tdb_model.specs.Apply.{History}
use Rattle.tdb_platform.specs.Outside.{Anchor, Outside, Told}
use Rattle.tdb_platform.specs.CrashStates.{CrashStates, Elapses, now}
use Rattle.tdb_seg.specs.SegmentSpace.{note_in}
use Rattle.tdb_overlay.specs.Changes.{named_records}
use Rattle.tdb_overlay.specs.Covering.{noted_all}
use Rattle.tdb_overlay.specs.Found.{Finer, Store}
use Rattle.tdb_overlay.specs.Images.{IsIntactIn}
use Rattle.tdb_overlay.specs.Log.{IsLog}
use Rattle.tdb_overlay.specs.Needed.{needed}
use Rattle.tdb_overlay.specs.Placement.{note_all}
use Rattle.tdb_overlay.specs.Ran.{CountsOn, Leads, RanOn, RanStep}
use Rattle.tdb_overlay.specs.Recovered.{IsRecovered}
use Rattle.tdb_overlay.specs.StoreState.{StoreState}
use Rattle.tdb_overlay.specs.WellFormedLog.{IsAnchored, IsWellFormedTrace}
use Rattle.tdb_overlay.specs.declared.recovered.Recovered.{Recovered}
use Rattle.tdb_overlay.proofs.AdvanceRan.{advance_ran}
use Rattle.tdb_overlay.proofs.BaseTrees.{roster_told_finer, told_roots_finer}
use Rattle.tdb_overlay.proofs.Coverings.{covering_finer}
use Rattle.tdb_overlay.proofs.LogLaws.{Allows, allows}
use Rattle.tdb_overlay.proofs.Needing.{base_of-last, needed_longer, records_needed}
use Rattle.tdb_overlay.proofs.Pending.{pending_leads, pending_required}
use Rattle.tdb_overlay.proofs.RanLaws.{ran_itself, ran_wider}
use Rattle.tdb_recover.specs.Ahead.{StoodIn}
use Rattle.tdb_recover.specs.Pending.{IsPending, IsTaken}
use Rattle.tdb_recover.specs.Replay.{IsCommitIn, IsReplayOf}
use Rattle.tdb_recover.specs.Taking.{HasTaken, IsShownWhole}
use Rattle.tdb_recover.specs.declared.ahead.Pending.{Pending}
use Rattle.tdb_recover.specs.declared.error.OpenError.{OpenError}
use Rattle.tdb_recover.proofs.PendingLog.{Behind, behind, base, earlier_base, later}
use Rattle.tdb_recover.proofs.Replaying.{replayed}
use Rattle.tdb_recover.proofs.ShownWhole.{Shown, shown_whole}
use Rattle.tdb_recover.proofs.TakenStands.{entries_are, own_stands, read_of_second, text_written}

-- what was shown under the store's own secret
pub under_own : {D : Type 0} (outside : D → Outside) (crash_states : D → CrashStates) (begun old : D) (new : Outside) (secret : List ℕ)
    (log : Recovered) (p : Pending) (store : Store) (history : History) (from : StoreState)
    → IsShownWhole outside crash_states begun old new secret log p store history from
    → IsShownWhole outside crash_states begun old new store.secret log p store history from
under_own outside crash_states begun old new secret log p store history from whole =
    subst (λ (s : List ℕ). IsShownWhole outside crash_states begun old new s log p store history from) (sym whole.given.keys) whole

module _ {D : Type 0} (outside : D → Outside) (crash_states : D → CrashStates)
    (counts : (p : D) (t u : ℕ) (i : List ℕ) (a : Anchor) → t ≤ u → u ≤ (outside p).clock → crash_states p u i a → crash_states p t i a)
    (numbered : (p : D) → IsTrue (outside p).tells → IsNumbered (outside p).trace) (begun old new : D) (log : Recovered) (p : Pending)
    (store : Store) (history : History) (from : StoreState)
    (whole : IsShownWhole outside crash_states begun old (outside new) store.secret log p store history from)
    (trace : IsTrue (outside old).tells → (outside new).trace ≡ (outside old).trace) where
  abbrev t : Trace
  t = (outside old).trace

  abbrev head : Anchor
  head = (outside old).anchor

  abbrev c : Commit
  c = p.commit

  -- what stays over the reads
  tells : IsTrue (outside old).tells
  tells = subst (λ (b : Bool). IsTrue b) (sym whole.seen.only.tells) whole.given.tells

  written : (outside begun).trace.written ≡ t.written
  written = sym (whole.seen.only.written whole.given.tells)

  anchor : (outside begun).anchor ≡ head
  anchor = sym (whole.seen.only.anchor whole.given.tells)

  unforged : IsUnforged t (commit_of (commit_key_of store.secret))
  unforged = subst (λ (u : Trace). IsUnforged u (commit_of (commit_key_of store.secret))) (trace tells) whole.given.unforged

  kept : IsWellFormedTrace t.written store.secret
  kept = subst (λ (ws : List WrittenPiece). IsWellFormedTrace ws store.secret) written whole.given.formed

  of_head : IsLog t.written store head history from
  of_head = subst (λ (a : Anchor). IsLog t.written store a history from) anchor
      (subst (λ (ws : List WrittenPiece). IsLog ws store (outside begun).anchor history from) written whole.given.log)

  knows : IsRecovered (needed t.written store head) store log from
  knows = subst (λ (a : Anchor). IsRecovered (needed t.written store a) store log from) anchor
      (subst (λ (ws : List WrittenPiece). IsRecovered (needed ws store (outside begun).anchor) store log from) written whole.knows)

  told : t.read ≡ (outside begun).trace.read ++ whole.reads
  told = whole.seen.told whole.given.tells

  shown : Shown store.secret log whole.reads p
  shown = shown_whole store.secret log whole.reads p whole.asks whole.shown

  abbrev text : List ℕ
  text = shown.first.bytes

  read_in_order : t.read ≡ (outside begun).trace.read ++ shown.first ∷ shown.second ∷ shown.rest
  read_in_order = told ∙ ap (λ (rs : List ReadPiece). (outside begun).trace.read ++ rs) shown.in_order

  counted : head.0 ≡ log.head.count
  counted = ap (λ (a : Anchor). a.0) (sym anchor ∙ whole.head)

  pending : IsPending t.written store.secret head text c
  pending = record {
    was_written = text_written t (commit_of (commit_key_of store.secret)) unforged (outside begun).trace.read
        (shown.second ∷ shown.rest) shown.first read_in_order
        log.head.count shown.place shown.asked c shown.member.0;
    accepted = shown.member.0;
    kind = shown.member.1.kind;
    count = shown.member.1.count ∙ ap (λ (n : ℕ). n + 1) (sym counted);
    mark = ap (λ (d : Digest). d.0) shown.member.1.prev ∙ ap (λ (a : Anchor). a.1) (sym whole.head ∙ anchor);
  }

  step : Behind store t unforged kept head text c pending history from of_head
  step = behind store t unforged kept head text c pending history from of_head

  abbrev taken : History
  taken = (c.count, step.changes) ∷ []

  abbrev named : Anchor
  named = (c.count, sha256 text)

  abbrev next : Anchor
  next = (c.count, p.mark.0)

  next_is : named ≡ next
  next_is = ap (λ (m : List ℕ). let a : Anchor = (c.count, m) in a) (sym shown.mark)

  abbrev TakenAs : List WrittenPiece → Anchor → Type 0
  TakenAs ws a = (is : IsTaken ws store a history from taken step.to) × (next ≡ (is.commit.count, sha256 is.text))

  -- The commit is the one that is taken.
  is_taken : TakenAs (outside begun).trace.written (outside begun).anchor
  is_taken = subst (λ (a : Anchor). TakenAs (outside begun).trace.written a) (sym anchor)
      (subst (λ (ws : List WrittenPiece). TakenAs ws head) (sym written) (
        record {
          text = text;
          commit = c;
          pending = pending;
          changes = step.changes;
          list = step.commit.list;
          allowed = step.commit.allowed;
          one = refl;
          log = step.whole;
        },
        sym next_is,
      ))

  entries : step.commit.list.entries ≡ p.entries.items
  entries = entries_are t store.secret unforged c step.changes step.commit.list shown.second.bytes
      (read_of_second t.read (outside begun).trace.read shown.first shown.second shown.rest read_in_order) log p.entries.items shown.list

  leads : Leads store t.written t.written taken [] head next
  leads = subst (λ (a : Anchor). Leads store t.written t.written taken [] head a) next_is
      (pending_leads store.secret t unforged kept head text c pending.was_written pending.accepted pending.kind pending.count
      (inr (later store t unforged kept head text c pending history from of_head, pending.mark)) store refl step.changes step.commit.list)

  more : CountsOn store t.written head next
  more before last log = omega (arith, pending.count)

  is_named : IsAnchored t.written store.secret next
  is_named = inr (record {
    text = text;
    commit = c;
    was_written = pending.was_written;
    accepted = pending.accepted;
    count = refl;
    mark = shown.mark;
  })

  -- An image that was left intact has all that the longer log needs.
  stand : IsTrue (outside old).honest → (i : List ℕ) → now outside crash_states old i head → IsIntactIn i t.written store head
      → IsIntactIn i t.written store next
  stand honest i left intact = subst (λ (a : Anchor). IsIntactIn i t.written store a) next_is (record {
    history = history ++ taken;
    last = step.to;
    log = step.whole;
    stand = λ piece required. ⊎_elim
        (λ own. own_stands t store.secret unforged i (outside begun).trace.read whole.reads told stood log p shown pending.kind step.changes
        step.commit.list piece own)
        (λ before. intact.stand piece before)
        (pending_required store.secret t unforged kept head text c pending.was_written pending.accepted pending.kind pending.count
        (inr (later store t unforged kept head text c pending history from of_head, pending.mark)) store refl piece required);
  })
    where
      was_honest : IsTrue (outside begun).honest
      was_honest = subst (λ (b : Bool). IsTrue b) whole.seen.only.honest honest

      stood : AllByRecursion (StoodIn i) whole.reads
      stood = subst (λ (image : List ℕ). AllByRecursion (StoodIn image) whole.reads)
          (sym (whole.sure honest i head left ∙ whole.seen.only.image was_honest)) (whole.seen.stood was_honest)

  -- Where memory ran out, nothing was done yet.
  pub taken_memory : (e : OpenError) → HasTaken outside crash_states begun old old store history from next (Err e)
  taken_memory e = record {
    taken = taken;
    to = step.to;
    is = is_taken.0;
    same = is_taken.1;
    ran = record {
      ok = tt;
      begun = ran_wider outside crash_states counts numbered store old old [] taken
          (ran_itself outside crash_states counts numbered store old);
    };
    log = tt;
    knows = tt;
  }

  module _ {T E : Type 0} (result : Result T E) (told_of : Told (outside old) (outside new) result)
      (advanced : IsTrue (outside old).tells → OnOk result ((outside new).anchor ≡ next))
      (only : IsTrue (outside old).tells → OnOk result ((i : List ℕ) (a : Anchor) → now outside crash_states new i a → a ≡ next))
      (either : IsTrue (outside old).tells → OnErr result (((outside new).anchor ≡ head) ⊎ ((outside new).anchor ≡ next)))
      (pairs : (i : List ℕ) (a : Anchor) → now outside crash_states new i a
      → (was : Anchor) × now outside crash_states old i was × ((a ≡ was) ⊎ (a ≡ next)))
      (time : Elapses (outside old) (outside new) (crash_states old) (crash_states new)) where
    advancing : RanStep outside crash_states store taken old new result
    advancing = advance_ran outside crash_states counts numbered store old new next taken whole.settled (λ _. leads) (λ _. is_named)
        (λ _. more) (λ _. stand) trace pairs time result told_of advanced only either

    -- Where the advance failed, it may have been done.
    pub taken_fault : (e : E) → result ≡ Err e → (error : OpenError)
        → HasTaken outside crash_states begun old new store history from next (Err error)
    taken_fault e is error = record {
      taken = taken;
      to = step.to;
      is = is_taken.0;
      same = is_taken.1;
      ran = record {
        ok = tt;
        begun = subst (λ (r : Result T E). OnErr r (RanOn outside crash_states store old [] taken new)) is advancing.begun;
      };
      log = tt;
      knows = tt;
    }

    -- What is open behind the commit.
    module _ (r : Recovered) (suite : r.suite ≡ log.suite) (count : r.head.count ≡ c.count) (based : r.head.base ≡ log.head.base)
        (segments : r.segments ≡ note_in (note_all log.segments (named_records p.entries.items)) c.first)
        (overlay : r.overlay ≡ noted_all c.count log.overlay p.entries.items) (tree : r.tree ≡ log.tree) where
      abbrev commit_in : IsCommitIn t.written t store.secret store named from c step.changes step.to
      commit_in = record {
        keys = refl;
        unforged = unforged;
        suite = step.suite;
        commit = step.commit;
        records = records_needed t.written store named (of_head.chain ++ c ∷ []) step.goes_on c of_head.chain [] step.changes refl
            (omega (arith, base_of-last of_head.chain c, earlier_base store t unforged kept head text c pending history from of_head))
            pending.kind step.commit.list;
      }

      finer : Finer (needed t.written store head) (needed t.written store named)
      finer = needed_longer t.written t.written (λ piece bytes found. found) store head named of_head.chain c of_head.ends step.goes_on
          (base store t unforged kept head text c pending history from of_head)

      kept_on : IsReplayOf (needed t.written store named) store log from
      kept_on = record {
        space = knows.space;
        chunks = covering_finer (needed t.written store head) (needed t.written store named) finer store.secret log.overlay from.chunks
            knows.chunks;
        root = knows.root;
        leaders = roster_told_finer (needed t.written store head) (needed t.written store named) finer store from.root log.tree.leaders
            knows.leaders;
        roots = told_roots_finer (needed t.written store head) (needed t.written store named) finer store from.root log.overlay knows.roots;
      }

      replay : IsReplayOf (needed t.written store named) store r step.to
      replay = replayed t.written t store.secret store named from c step.changes step.to commit_in log kept_on r
          (segments ∙ ap (λ (es : List Entry). note_in (note_all log.segments (named_records es)) c.first) (sym entries))
          (overlay ∙ ap (noted_all c.count log.overlay) (sym entries)) tree

      abbrev allowed : Allows store from step.changes step.to
      allowed = allows store from step.changes step.to step.commit.allowed

      recovered : IsRecovered (needed t.written store named) store r step.to
      recovered = record {
        suite = suite ∙ knows.suite;
        count = count ∙ step.commit.next ∙ sym (ap (λ (s : StoreState). s.count) allowed.after_is);
        base = based ∙ knows.base ∙ sym (ap (λ (s : StoreState). s.base) allowed.after_is);
        space = replay.space;
        chunks = replay.chunks;
        root = replay.root;
        leaders = replay.leaders;
        roots = replay.roots;
      }

      -- Where the anchor was advanced, the log has the commit for its last.
      pub taken_made : (x : T) → result ≡ Ok x → HasTaken outside crash_states begun old new store history from next (Ok r)
      taken_made x is =
          let at : (outside new).anchor ≡ next = subst (λ (s : Result T E). OnOk s ((outside new).anchor ≡ next)) is (advanced tells) in
          let here : named ≡ (outside new).anchor = next_is ∙ sym at in
          let same : t.written ≡ (outside new).trace.written = ap (λ (u : Trace). u.written) (sym (trace tells)) in
          record {
            taken = taken;
            to = step.to;
            is = is_taken.0;
            same = is_taken.1;
            ran = record {
              ok = subst (λ (s : Result T E). OnOk s (RanOn outside crash_states store old taken [] new)) is advancing.ok;
              begun = tt;
            };
            log = subst (λ (ws : List WrittenPiece). IsLog ws store (outside new).anchor (history ++ taken) step.to) same
                (subst (λ (a : Anchor). IsLog t.written store a (history ++ taken) step.to) here step.whole);
            knows = subst (λ (ws : List WrittenPiece). IsRecovered (needed ws store (outside new).anchor) store r step.to) same
                (subst (λ (a : Anchor). IsRecovered (needed t.written store a) store r step.to) here recovered);
          }
