-- A log that was opened, with the commit that was begun behind it.
use Rattle.std.proofs.Common.{◌≡◌, ◌⊎◌, inl, inr, ⊎_elim, ℕ, ◌+◌, ◌<◌, ◌≤◌, Bool, true, false, List, [], ◌∷◌, ◌++◌}
use Rattle.std.proofs.Common.{IsTrue, Result, Ok, Err, IfErr, IfOk, refl, sym, ◌∙◌, ap, subst, append-nil, append_assoc}
use Rattle.std.specs.List.{AllByRecursion}
use Rattle.std.proofs.lemmas.List.{append_cancel_left}
use Rattle.sha2.specs.Sha256.{sha256}
use Rattle.tdb_append.specs.declared.head.Head.{Head}
use Rattle.tdb_base.specs.declared.piece.Piece.{Piece}
use Rattle.tdb_base.specs.Trace.{IsNumbered, ReadPiece, Trace, WrittenPiece}
use Rattle.tdb_list.specs.ChangeList.{IsList}
use Rattle.tdb_model.specs.Apply.{History}
use Rattle.tdb_platform.specs.Outside.{Anchor, Outside}
use Rattle.tdb_platform.specs.CrashStates.{CrashStates}
use Rattle.tdb_overlay.specs.Changes.{named_records}
use Rattle.tdb_overlay.specs.Found.{Store}
use Rattle.tdb_overlay.specs.Growth.{IsSettled}
use Rattle.tdb_overlay.specs.Log.{IsLog}
use Rattle.tdb_overlay.specs.Needed.{needed}
use Rattle.tdb_overlay.specs.Placement.{LiesBelow}
use Rattle.tdb_overlay.specs.Reading.{OnlyReads}
use Rattle.tdb_overlay.specs.Recovered.{IsRecovered}
use Rattle.tdb_overlay.specs.Required.{IsOpeningPiece, IsReadOf}
use Rattle.tdb_overlay.specs.StoreState.{StoreState}
use Rattle.tdb_overlay.specs.declared.recovered.Recovered.{Recovered}
use Rattle.tdb_overlay.proofs.RanLaws.{ran_itself}
use Rattle.tdb_overlay.proofs.ReadingLaws.{reads_then}
use Rattle.tdb_recover.specs.Ahead.{AsksAhead, HasSeen, IsAsShown, MayFollow}
use Rattle.tdb_recover.specs.Opening.{HasLookedAhead, HasNotRecovered, HasRecovered, HasShownWhole, HasTakenShown, StaysOrTakes}
use Rattle.tdb_recover.specs.Pending.{IsTaken}
use Rattle.tdb_recover.specs.Premises.{Premises}
use Rattle.tdb_recover.specs.Reads.{ReadsBeside, ReadsOnly}
use Rattle.tdb_recover.specs.Taking.{HasTaken, IsShownWhole}
use Rattle.tdb_recover.specs.Unwritten.{IsSure, WritesNothing}
use Rattle.tdb_recover.specs.declared.ahead.Pending.{Pending}
use Rattle.tdb_recover.specs.declared.error.OpenError.{OpenError}
use Rattle.tdb_recover.proofs.Composing.{tells_then}
use Rattle.tdb_recover.proofs.Carrying.{kept_back, kept_then, premises_before, premises_then, sure_then, writes_then}

-- What taking a commit asks of it.
pub record MayBeTaken (log : Recovered) (p : Pending) : Type 0 where
  pub next : p.commit.count ≡ log.head.count + 1
  pub few : log.head.count < log.head.base + 1000
  pub list : IsList p.entries.items
  pub lies : LiesBelow log.segments.segments p.commit.first
  pub records : AllByRecursion (LiesBelow log.segments.segments) (named_records p.entries.items)

may_follow : (secret : List ℕ) (log : Recovered) (reads : List ReadPiece) → AsksAhead secret log reads true → MayFollow log.head
may_follow secret log reads (inl asks) = asks.0
may_follow secret log reads (inr passed) = absurd (cc passed.1.1)

-- A commit that was shown whole may be taken.
pub shown : (secret : List ℕ) (log : Recovered) (reads : List ReadPiece) (p : Pending) → AsksAhead secret log reads true
    → IsAsShown secret log reads p → MayBeTaken log p
shown secret log [] p asks is = absurd is
shown secret log (r ∷ []) p asks is = absurd is.2
shown secret log (r ∷ l ∷ reads) p asks is = record {
  next = is.0.1.count;
  few = (may_follow secret log (r ∷ l ∷ reads) asks).few;
  list = is.2.list.list;
  lies = is.0.1.lies;
  records = is.2.records;
}

pub ok_is_no_err : {T E : Type 0} (x : T) (e : E) → Ok x ≡ Err e → ⊥
ok_is_no_err x e is = cc

-- The log of the anchor was read.
pub record IsLogRead {D : Type 0} (outside : D → Outside) (crash_states : D → CrashStates) (old mid : D) (secret : List ℕ)
    (log : Recovered) : Type 0 where
  pub reads : OnlyReads outside crash_states old mid
  pub settled : IsSettled outside crash_states mid
  pub sure : IsSure outside crash_states mid
  pub head : IsTrue (outside old).tells → (outside old).anchor ≡ (log.head.count, log.head.mark.0)
  pub recovered : (store : Store) (history : History) (last : StoreState) → Premises (outside old) (outside mid) secret store history last
      → IsRecovered (needed (outside old).trace.written store (outside old).anchor) store log last
  pub only : (store : Store) (history : History) (last : StoreState) → Premises (outside old) (outside mid) secret store history last
      → ReadsOnly (IsOpeningPiece (outside old).trace.written store (outside old).anchor) (outside old) (outside mid)

-- An error, up to which it was only read.
pub stopped_reading : {D : Type 0} (outside : D → Outside) (crash_states : D → CrashStates) (old new : D) (store : Store)
    (history : History) (from : StoreState) → OnlyReads outside crash_states old new
    → HasNotRecovered outside crash_states old new store history from
stopped_reading outside crash_states old new store history from reads =
    record { maybe = []; to = from; takes = inr (refl, refl); shown = inl refl; ran = inr (reads, refl) }

-- a commit that is taken, and that this anchor names
abbrev NamedStep : Store → History → StoreState → History → StoreState → Anchor → List WrittenPiece → Anchor → Type 0
NamedStep store history from taken to named written anchor =
    (is : IsTaken written store anchor history from taken to) × (named ≡ (is.commit.count, sha256 is.text))

module _ {D : Type 0} (outside : D → Outside) (crash_states : D → CrashStates)
    (counts : (p : D) (t u : ℕ) (i : List ℕ) (a : Anchor) → t ≤ u → u ≤ (outside p).clock → crash_states p u i a → crash_states p t i a)
    (numbered : (p : D) → IsTrue (outside p).tells → IsNumbered (outside p).trace) where
  -- Nothing was taken.
  pub took_nothing : (old new : D) (store : Store) (history : History) (from : StoreState) (log : Recovered)
      → OnlyReads outside crash_states old new → IsSettled outside crash_states new → IsTrue (outside old).tells
      → IsLog (outside old).trace.written store (outside old).anchor history from
      → IsRecovered (needed (outside old).trace.written store (outside old).anchor) store log from
      → HasRecovered outside crash_states old new store history from log
  took_nothing old new store history from log reads settled t is knows = record {
    taken = [];
    to = from;
    takes = inr (refl, refl);
    named = tt;
    ran = record { mid = new; reads = reads; settled = settled; rest = ran_itself outside crash_states counts numbered store new };
    log = subst (λ (h : History). IsLog (outside new).trace.written store (outside new).anchor h from) (sym (append-nil history))
        (kept_then outside crash_states old new reads t (λ (ws : List WrittenPiece) (a : Anchor). IsLog ws store a history from) is);
    knows = kept_then outside crash_states old new reads t
        (λ (ws : List WrittenPiece) (a : Anchor). IsRecovered (needed ws store a) store log from) knows;
  }

  -- Nothing was written since the log was read.
  module _ (old mid : D) (secret : List ℕ) (log : Recovered) (read : IsLogRead outside crash_states old mid secret log) where
    -- It stands for the state that is given, where that is given only later.
    pub known : (new : D) (store : Store) (history : History) (from : StoreState) → WritesNothing outside crash_states mid new
        → Premises (outside old) (outside new) secret store history from
        → IsRecovered (needed (outside old).trace.written store (outside old).anchor) store log from
    known new store history from after given =
        let t = tells_then outside crash_states old mid read.reads given.tells in
        read.recovered store history from
        (premises_before (outside old) (outside mid) (outside new) secret store history from (numbered mid t) (after.grows t) given)

    -- It was read ahead of it.
    pub looked : (new : D) (opened : Recovered) (took : Bool) (reads : List ReadPiece) → IsTrue (outside old).tells
        → WritesNothing outside crash_states mid new → ReadsBeside 3026 4161 (outside old) (outside new)
        → (outside new).trace.read ≡ (outside mid).trace.read ++ reads → AsksAhead secret log reads took
        → ((took ≡ false) × (opened ≡ log)) ⊎ ((took ≡ true) × HasTakenShown secret log reads opened)
        → HasLookedAhead (outside old) (outside new) secret opened
    looked new opened took reads t after few ahead asks came =
        let grows = read.reads.grows t in
        let told = tells_then outside crash_states old mid read.reads t in
        let all = ahead ∙ ap (λ (l : List ReadPiece). l ++ reads) grows.read
        ∙ append_assoc (outside old).trace.read grows.more_read reads in
        record {
          log = log;
          opening = grows.more_read;
          ahead = reads;
          took = took;
          in_order = all;
          most = few t (grows.more_read ++ reads) all;
          head = read.head t;
          asks = asks;
          came = came;
          knows = λ store history from given. known new store history from after given;
          only = λ store history from given.
              let pieces = IsOpeningPiece (outside old).trace.written store (outside old).anchor in
              let was = read.only store history from
              (premises_before (outside old) (outside mid) (outside new) secret store history from (numbered mid told) (after.grows told)
              given) in
              subst (AllByRecursion (λ (r : ReadPiece). (piece : Piece) × pieces piece × IsReadOf piece r))
              (append_cancel_left (outside old).trace.read was.read.more grows.more_read (sym was.read.read ∙ grows.read)) was.each;
        }

    -- A commit was shown whole behind it.
    module _ (then new : D) (p : Pending) (reads : List ReadPiece) (seen : HasSeen outside crash_states mid then reads)
        (asks : AsksAhead secret log reads true) (is : IsAsShown secret log reads p) (settled : IsSettled outside crash_states then)
        (after : WritesNothing outside crash_states then new) where
      whole : (store : Store) (history : History) (from : StoreState) → Premises (outside old) (outside new) secret store history from
          → IsShownWhole outside crash_states mid then (outside new) secret log p store history from
      whole store history from given =
          let t = given.tells in
          record {
            given = premises_then outside crash_states old mid (outside new) secret store history from read.reads given;
            knows = kept_then outside crash_states old mid read.reads t
                (λ (ws : List WrittenPiece) (a : Anchor). IsRecovered (needed ws store a) store log from)
                (known new store history from (writes_then outside crash_states counts mid then new seen.only after) given);
            head = read.reads.anchor t ∙ read.head t;
            reads = reads;
            seen = seen;
            asks = asks;
            shown = is;
            settled = settled;
            sure = sure_then outside crash_states counts mid then seen.only read.sure;
          }

      abbrev named : Anchor
      named = (p.commit.count, p.mark.0)

      both : OnlyReads outside crash_states old then
      both = reads_then outside crash_states counts old mid then read.reads seen.only

      -- what is a step of the log as it is behind the reads is one of it as it was before them
      before : (store : Store) (history : History) (from : StoreState) (taken : History) (to : StoreState) → IsTrue (outside old).tells
          → NamedStep store history from taken to named (outside mid).trace.written (outside mid).anchor
          → NamedStep store history from taken to named (outside old).trace.written (outside old).anchor
      before store history from taken to t step = kept_back outside crash_states old mid read.reads t
          (NamedStep store history from taken to named) step

      -- what showed it, under a secret that is the same
      abbrev shown_first : (of : List ℕ) → of ≡ secret → IsTrue (outside old).tells
          → (IsTrue (outside then).tells → (outside new).trace ≡ (outside then).trace)
          → HasShownWhole (outside old) (outside new) of
      shown_first of same t unread =
          let grows = read.reads.grows t in
          record {
            log = log;
            opening = grows.more_read;
            ahead = reads;
            pending = p;
            in_order = ap (λ (u : Trace). u.read) (unread (tells_then outside crash_states old then both t))
                ∙ seen.told (tells_then outside crash_states old mid read.reads t)
                ∙ ap (λ (l : List ReadPiece). l ++ reads) grows.read
                ∙ append_assoc (outside old).trace.read grows.more_read reads;
            head = read.head t;
            asks = subst (λ (s : List ℕ). AsksAhead s log reads true) (sym same) asks;
            shown = subst (λ (s : List ℕ). IsAsShown s log reads p) (sym same) is;
            knows = λ store history from given.
                known new store history from (writes_then outside crash_states counts mid then new seen.only after)
                (subst (λ (s : List ℕ). Premises (outside old) (outside new) s store history from) same given);
          }

      -- It was taken,
      pub took_it : (result : Result Recovered OpenError)
          → ((store : Store) (history : History) (from : StoreState)
          → IsShownWhole outside crash_states mid then (outside new) secret log p store history from
          → HasTaken outside crash_states mid then new store history from named result)
          → (IsTrue (outside then).tells → IfOk result (λ r. (outside new).anchor ≡ (r.head.count, r.head.mark.0)))
          → IfOk result (λ r. r.head ≡ record { count = p.commit.count; mark = p.mark; base = log.head.base })
          → IfOk result (λ r. (store : Store) (history : History) (from : StoreState)
          → Premises (outside old) (outside new) secret store history from → HasRecovered outside crash_states old new store history from r)
      took_it (Ok r) takes at head = λ store history from given.
          let h = takes store history from (whole store history from given) in
          let step = before store history from h.taken h.to given.tells (h.is, h.same) in
          record {
            taken = h.taken;
            to = h.to;
            takes = inl step.0;
            named = at (tells_then outside crash_states old then both given.tells)
                ∙ ap (λ (h : Head). let a : Anchor = (h.count, h.mark.0) in a) head ∙ step.1;
            ran = record { mid = then; reads = both; settled = settled; rest = h.ran.ok };
            log = h.log;
            knows = h.knows;
          }
      took_it (Err e) takes at head = tt

      -- or may have been.
      pub may_have_taken : (result : Result Recovered OpenError)
          → ((store : Store) (history : History) (from : StoreState)
          → IsShownWhole outside crash_states mid then (outside new) secret log p store history from
          → HasTaken outside crash_states mid then new store history from named result)
          → (IsTrue (outside then).tells → (outside new).trace ≡ (outside then).trace)
          → IfErr result (λ e. (store : Store) (history : History) (from : StoreState)
          → Premises (outside old) (outside new) secret store history from
          → HasNotRecovered outside crash_states old new store history from)
      may_have_taken (Ok r) takes unread = tt
      may_have_taken (Err e) takes unread = λ store history from given.
          let h = takes store history from (whole store history from given) in
          let step = before store history from h.taken h.to given.tells (h.is, h.same) in
          record {
            maybe = h.taken;
            to = h.to;
            takes = inl step.0;
            shown = inr (shown_first store.secret given.keys given.tells unread, step.1);
            ran = inl (record { mid = then; reads = both; settled = settled; rest = h.ran.begun });
          }

      -- After an error the anchor is as it was, or it names that commit.
      pub stays_or_takes : (result : Result Recovered OpenError) → IsTrue (outside old).tells
          → (IsTrue (outside then).tells → (outside new).trace ≡ (outside then).trace)
          → (IsTrue (outside then).tells
          → IfErr result (λ _. ((outside new).anchor ≡ (outside then).anchor) ⊎ ((outside new).anchor ≡ named)))
          → IfErr result (λ _. StaysOrTakes outside crash_states old new secret)
      stays_or_takes (Ok r) t unread either = tt
      stays_or_takes (Err e) t unread either = inr (
        shown_first secret refl t unread,
        ⊎_elim (λ stays. inl (stays ∙ both.anchor t)) (λ takes. inr takes) (either (tells_then outside crash_states old then both t)),
      )
