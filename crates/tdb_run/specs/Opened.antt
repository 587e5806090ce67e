-- How a run comes to the state in which its script begins, by the log that its anchor had at the start, and by the commit that was begun
-- behind that.
use Rattle.std.specs.Prelude.{◌≡◌, ◌≢◌, ◌⊎◌, ℕ, true, false, List, [], ◌∷◌, ◌++◌, Err}
use Rattle.tdb_append.specs.Put.{slot_place}
use Rattle.tdb_base.specs.declared.piece.Damage.{Damage}
use Rattle.tdb_base.specs.Trace.{Extends}
use Rattle.tdb_mark.specs.CommitText.{commit_key_of, commit_of}
use Rattle.tdb_mark.specs.Unforged.{IsUnforged}
use Rattle.tdb_model.specs.declared.change.Change.{Change}
use Rattle.tdb_model.specs.Apply.{History}
use Rattle.tdb_model.specs.Opening.{opening_changes}
use Rattle.tdb_model.specs.State.{State}
use Rattle.tdb_model.specs.declared.error.CommitError.{CommitError}
use Rattle.tdb_model.specs.declared.error.CommitError.TheVariants as refusals
use Rattle.tdb_platform.specs.CrashStates.{CrashStates}
use Rattle.tdb_platform.specs.Outside.{Anchor, Outside}
use Rattle.tdb_overlay.specs.Found.{Store}
use Rattle.tdb_overlay.specs.Log.{IsLog}
use Rattle.tdb_overlay.specs.Reading.{HasRead, OnlyReads}
use Rattle.tdb_overlay.specs.Required.{IsDamaged, IsOpeningPiece}
use Rattle.tdb_overlay.specs.Sound.{IsSound}
use Rattle.tdb_overlay.specs.StoreState.{StoreState, commit_on}
use Rattle.tdb_overlay.specs.declared.recovered.Recovered.{Recovered}
use Rattle.tdb_recover.specs.Damaged.{damaged_piece}
use Rattle.tdb_recover.specs.Opening.{HasLookedAhead, HasShownWhole, NamesTaken, shown_anchor}
use Rattle.tdb_recover.specs.Pending.{Takes}
use Rattle.tdb_recover.specs.Premises.{Premises}
use Rattle.tdb_recover.specs.Settled.{RanSettled}
use Rattle.tdb_chunk.specs.Standing.{StandsAt}
use Rattle.tdb_chunk.specs.StoreView.{StoreView, store_in}
use Rattle.tdb_run.specs.Opens.{HasNone, HasUserPartitions, MayOpen, Opens}
use Rattle.tdb_run.specs.declared.opening.NotOpened.{NotOpened}
use Rattle.tdb_run.specs.declared.opening.NotOpened.TheVariants.{AlreadyFormatted, Damaged, Memory, PlatformFault, Refused, Unformatted}
use Rattle.tdb_run.specs.declared.status.Finding.TheVariants.{Form, Tampered}
use Rattle.tdb_run.specs.declared.status.Refusal.{Refusal}
use Rattle.tdb_run.specs.declared.status.Refusal.TheVariants.{Counter, Full, Ring}

-- The store is open behind the commit of its partitions, where a run makes that, and nothing else was committed.
pub record HasOpened {D : Type 0} (outside : D → Outside) (crash_states : D → CrashStates) (store : Store) (old : D)
    (history : History) (from : StoreState) (s : StoreView D) : Type 0 where
  pub opening : History
  pub state : State
  pub opens : Opens store.suite from.chunks opening state
  pub same : store_in s ≡ store
  pub ran : RanSettled outside crash_states store old opening [] s.platform
  pub last : StoreState
  pub stands : StandsAt outside s (history ++ opening) last
  pub chunks : last.chunks ≡ state

-- The store isn't open. The commit of its partitions may have been made. Where the anchor wasn't told the calls only read.
pub record HasNotOpened {D : Type 0} (outside : D → Outside) (crash_states : D → CrashStates) (store : Store) (old new : D)
    (from : StoreState) : Type 0 where
  pub maybe : History
  pub may_open : MayOpen store.suite from.chunks maybe
  pub ran : RanSettled outside crash_states store old [] maybe new ⊎ (OnlyReads outside crash_states old new × (maybe ≡ []))

abbrev pub refusal_of : Refusal → CommitError
refusal_of (Full room) = refusals.NoRoom room
refusal_of Ring = refusals.RingFull
refusal_of Counter = refusals.CounterEnd

-- the log that the anchor has now ends in a state with these chunks, and the commit of the partitions is refused there
pub record IsRefusedThere (store : Store) (now : Outside) (chunks : State) (refusal : Refusal) : Type 0 where
  pub history : History
  pub last : StoreState
  pub log : IsLog now.trace.written store now.anchor history last
  pub same : last.chunks ≡ chunks
  pub refused : commit_on store last (opening_changes store.suite) ≡ Err (refusal_of refusal)

-- Damage that was told is that of a piece that opening the log reads: the last read of it gave bytes with another digest.
pub record IsToldDamage (store : Store) (old new : Outside) (damage : Damage) : Type 0 where
  pub size : ℕ
  pub is_needed : IsOpeningPiece new.trace.written store new.anchor (damaged_piece damage size)
  pub read : HasRead old new
  pub shown : IsDamaged read.more (damaged_piece damage size) damage.found.0

-- Why it isn't open. Damage is that of a text, the table or a list that the log needs. Form comes only where partitions 1 and 2 are
-- otherwise than a run makes them, and names the last text's slot. The commit of the partitions is refused by its cause.
abbrev pub IsWhyNot : Store → Outside → Outside → StoreState → NotOpened → Type 0
IsWhyNot store old new from (Damaged (Tampered damage)) = IsToldDamage store old new damage
IsWhyNot store old new from (Damaged (Form place)) = (HasUserPartitions from.chunks → ⊥) × (place.0 ≡ slot_place from.count)
IsWhyNot store old new from (Refused refusal) = HasNone from.chunks × IsRefusedThere store new from.chunks refusal
IsWhyNot store old new from AlreadyFormatted = Unit {0}
IsWhyNot store old new from Unformatted = Unit {0}
IsWhyNot store old new from PlatformFault = Unit {0}
IsWhyNot store old new from Memory = Unit {0}

-- A log was opened, and behind its own pieces it was read ahead of it: what was asked for there, and whether a commit was taken, follows
-- from what was shown.
pub record LookedAhead (old new : Outside) (store : Store) (taken : History) : Type 0 where
  pub opened : Outside
  pub log : Recovered
  pub looked : HasLookedAhead old opened store.secret log
  pub took : ((looked.took ≡ true) × ((one : ℕ × List Change) × (taken ≡ one ∷ []))) ⊎ ((looked.took ≡ false) × (taken ≡ []))
  pub grows : Extends opened.trace new.trace
  pub unforged : IsUnforged opened.trace (commit_of (commit_key_of store.secret))

-- Whatever commit was taken is the one that reading ahead of the log had shown whole by then.
abbrev pub TakesShown : (old new : Outside) → {store : Store} → {anchor : Anchor} → {history : History} → {from : StoreState}
    → {taken : History} → {mid : StoreState} → Takes old.trace.written store anchor history from taken mid → Type 0
TakesShown old new {store} {taken = taken} takes = (taken ≡ [])
    ⊎ ((then : Outside) × Extends then.trace new.trace
    × ((s : HasShownWhole old then store.secret) × NamesTaken takes (shown_anchor s)))

-- What a run commits before its script, behind the log that the anchor had at the start: the one commit that had been begun there, where
-- it is taken, and that of the partitions. It read ahead of that log, unless the store is new.
pub record OpensBehind (old new : Outside) (store : Store) (history : History) (from : StoreState) (opening : History)
    (state : State) : Type 0 where
  pub taken : History
  pub mid : StoreState
  pub takes : Takes old.trace.written store old.anchor history from taken mid
  pub shown : TakesShown old new takes
  pub made : History
  pub opens : Opens store.suite mid.chunks made state
  pub parts : opening ≡ taken ++ made
  pub ahead : (old.anchor.0 ≡ 0) ⊎ LookedAhead old new store taken

-- What it may have committed of these where it doesn't open its store, and why it doesn't.
pub record StopsBehind (old new : Outside) (store : Store) (history : History) (from : StoreState) (why : NotOpened)
    (all : History) : Type 0 where
  pub taken : History
  pub mid : StoreState
  pub takes : Takes old.trace.written store old.anchor history from taken mid
  pub shown : TakesShown old new takes
  pub made : History
  pub may_open : MayOpen store.suite mid.chunks made
  pub parts : all ≡ taken ++ made
  -- It read ahead of the log before it made or was refused the commit of the partitions, unless the store is new.
  pub ahead : ((made ≡ []) × ((refusal : Refusal) → why ≢ Refused refusal)) ⊎ (old.anchor.0 ≡ 0) ⊎ LookedAhead old new store taken
  pub is_why : IsWhyNot store old new mid why

-- The store is open behind these commits, and nothing else was committed.
pub record HasBegun {D : Type 0} (outside : D → Outside) (crash_states : D → CrashStates) (store : Store) (old : D)
    (history : History) (from : StoreState) (s : StoreView D) : Type 0 where
  pub opening : History
  pub state : State
  pub opens : OpensBehind (outside old) (outside s.platform) store history from opening state
  pub same : store_in s ≡ store
  pub ran : RanSettled outside crash_states store old opening [] s.platform
  pub last : StoreState
  pub stands : StandsAt outside s (history ++ opening) last
  pub chunks : last.chunks ≡ state

-- The store isn't open. A commit that had been begun and was taken is committed for sure, and nothing else may be; unless the platform
-- failed. Where it may have failed before the anchor was told, calls only read.
pub record HasNotBegun {D : Type 0} (outside : D → Outside) (crash_states : D → CrashStates) (store : Store) (old new : D)
    (history : History) (from : StoreState) (why : NotOpened) : Type 0 where
  pub opening : History
  pub maybe : History
  pub stops : StopsBehind (outside old) (outside new) store history from why (opening ++ maybe)
  pub sure : (opening ≡ stops.taken) ⊎ ((why ≡ PlatformFault) × (stops.made ≡ []))
  pub no_more : why ≢ PlatformFault → maybe ≡ []
  pub ran : RanSettled outside crash_states store old opening maybe new
      ⊎ (OnlyReads outside crash_states old new × (opening ++ maybe ≡ []) × (why ≡ PlatformFault))

-- what holds of each log that the anchor had at the start, of stores like these
abbrev pub OverLogs : Outside → Outside → List ℕ → (Store → History → StoreState → Type 0) → Type 0
OverLogs old new secret P = (store : Store) (history : History) (from : StoreState) → Premises old new secret store history from
    → P store history from

-- what holds of the state that a store is in
abbrev pub InItsState : {D : Type 0} → (D → Outside) → StoreView D → (State → Type 0) → Type 0
InItsState outside s Q = IsSound s.secret (outside s.platform) → (history : History) (last : StoreState) → StandsAt outside s history last
    → Q last.chunks

-- what holds wherever a store stood, where its trace has no collision and no forgery at the end
abbrev pub WhereItStands : {D : Type 0} → (D → Outside) → StoreView D → D → (History → StoreState → Type 0) → Type 0
WhereItStands outside s end Q = IsSound s.secret (outside end) → (history : History) (from : StoreState) → StandsAt outside s history from
    → Q history from
