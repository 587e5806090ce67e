-- What opening a log comes to, with the commit that was begun behind it.
use mathlib.Core.Logic.{inl, inr}
use Rattle.std.specs.Prelude.{◌≡◌, ◌⊎◌, ◌+◌, ℕ, Bool, true, false, List, [], ◌++◌}
use Rattle.std.specs.List.{AllByRecursion}
use Rattle.sha2.specs.Sha256.{sha256}
use Rattle.tdb_base.specs.declared.piece.Piece.{Piece}
use Rattle.tdb_base.specs.Trace.{ReadPiece, WrittenPiece}
use Rattle.tdb_model.specs.Apply.{History}
use Rattle.tdb_platform.specs.Outside.{Anchor, Outside}
use Rattle.tdb_platform.specs.CrashStates.{CrashStates}
use Rattle.tdb_overlay.specs.Found.{Store}
use Rattle.tdb_overlay.specs.Log.{IsLog}
use Rattle.tdb_overlay.specs.Needed.{needed}
use Rattle.tdb_overlay.specs.Reading.{OnlyReads}
use Rattle.tdb_overlay.specs.Recovered.{IsRecovered}
use Rattle.tdb_overlay.specs.Required.{IsOpeningPiece, IsReadOf}
use Rattle.tdb_overlay.specs.StoreState.{StoreState}
use Rattle.tdb_overlay.specs.declared.recovered.Recovered.{Recovered}
use Rattle.tdb_recover.specs.Ahead.{AsksAhead, IsAsShown}
use Rattle.tdb_recover.specs.Pending.{Takes}
use Rattle.tdb_recover.specs.Premises.{Premises}
use Rattle.tdb_recover.specs.Reads.{FewBeside}
use Rattle.tdb_recover.specs.Settled.{RanSettled}
use Rattle.tdb_recover.specs.declared.ahead.Pending.{Pending}

-- A commit that was taken, or none, is the one that this anchor names.
abbrev pub NamesTaken : {written : List WrittenPiece} → {store : Store} → {anchor : Anchor} → {history : History} → {from : StoreState}
    → {taken : History} → {to : StoreState} → Takes written store anchor history from taken to → Anchor → Type 0
NamesTaken (inl is) named = named ≡ (is.commit.count, sha256 is.text)
NamesTaken (inr none) named = Unit {0}

-- The log was opened. Behind its history at most one commit was taken that had been begun there; the anchor was advanced to it, and
-- what was recovered is the state after it.
pub record HasRecovered {D : Type 0} (outside : D → Outside) (crash_states : D → CrashStates) (old new : D) (store : Store)
    (history : History) (from : StoreState) (r : Recovered) : Type 0 where
  pub taken : History
  pub to : StoreState
  pub takes : Takes (outside old).trace.written store (outside old).anchor history from taken to
  pub named : NamesTaken takes (outside new).anchor
  pub ran : RanSettled outside crash_states store old taken [] new
  pub log : IsLog (outside new).trace.written store (outside new).anchor (history ++ taken) to
  pub knows : IsRecovered (needed (outside new).trace.written store (outside new).anchor) store r to

-- What was read before a commit was to be taken: pieces of the log, and behind them what reading ahead of it asks for, which showed
-- this commit whole.
pub record HasShownWhole (old new : Outside) (secret : List ℕ) : Type 0 where
  pub log : Recovered
  pub opening : List ReadPiece
  pub ahead : List ReadPiece
  pub pending : Pending
  pub in_order : new.trace.read ≡ old.trace.read ++ (opening ++ ahead)
  pub head : old.anchor ≡ (log.head.count, log.head.mark.0)
  pub asks : AsksAhead secret log ahead true
  pub shown : IsAsShown secret log ahead pending
  -- what was open is the log's state
  pub knows : (store : Store) (history : History) (from : StoreState) → Premises old new secret store history from
      → IsRecovered (needed old.trace.written store old.anchor) store log from

-- the anchor of the commit that was shown
abbrev pub shown_anchor : {old new : Outside} → {secret : List ℕ} → HasShownWhole old new secret → Anchor
shown_anchor s = (s.pending.commit.count, s.pending.mark.0)

-- The log wasn't opened. At most one commit may have been taken that had been begun behind it: the one that was shown whole.
pub record HasNotRecovered {D : Type 0} (outside : D → Outside) (crash_states : D → CrashStates) (old new : D) (store : Store)
    (history : History) (from : StoreState) : Type 0 where
  pub maybe : History
  pub to : StoreState
  pub takes : Takes (outside old).trace.written store (outside old).anchor history from maybe to
  pub shown : (maybe ≡ []) ⊎ ((s : HasShownWhole (outside old) (outside new) store.secret) × NamesTaken takes (shown_anchor s))
  pub ran : RanSettled outside crash_states store old [] maybe new ⊎ (OnlyReads outside crash_states old new × (maybe ≡ []))

-- The last text of what is open is that of the commit that the reads ahead of a log showed whole.
pub record HasTakenShown (secret : List ℕ) (log : Recovered) (ahead : List ReadPiece) (opened : Recovered) : Type 0 where
  pub pending : Pending
  pub shown : IsAsShown secret log ahead pending
  pub count : opened.head.count ≡ log.head.count + 1
  pub mark : opened.head.mark ≡ pending.mark
  -- the rest is the log's
  pub base : opened.head.base ≡ log.head.base
  pub suite : opened.suite ≡ log.suite
  pub segments : opened.segments.segments ≡ log.segments.segments

-- It was only read, or a commit was shown whole behind the log: then the anchor is as it was, or it names that commit.
abbrev pub StaysOrTakes : {D : Type 0} → (D → Outside) → (D → CrashStates) → D → D → List ℕ → Type 0
StaysOrTakes outside crash_states old new secret = OnlyReads outside crash_states old new
    ⊎ ((s : HasShownWhole (outside old) (outside new) secret)
    × (((outside new).anchor ≡ (outside old).anchor) ⊎ ((outside new).anchor ≡ shown_anchor s)))

-- What was read where a log was opened: first pieces of the log itself, and behind them what reading ahead of it asks for. Where a
-- commit was taken, the log that is now open has it for its last.
pub record HasLookedAhead (old new : Outside) (secret : List ℕ) (opened : Recovered) : Type 0 where
  -- the log before that
  pub log : Recovered
  pub opening : List ReadPiece
  pub ahead : List ReadPiece
  pub took : Bool
  pub in_order : new.trace.read ≡ old.trace.read ++ (opening ++ ahead)
  -- these are at most 4,161 for the roster, and 3,026 beside it
  pub most : FewBeside 3026 4161 (opening ++ ahead)
  pub head : old.anchor ≡ (log.head.count, log.head.mark.0)
  pub asks : AsksAhead secret log ahead took
  pub came : ((took ≡ false) × (opened ≡ log)) ⊎ ((took ≡ true) × HasTakenShown secret log ahead opened)
  pub knows : (store : Store) (history : History) (from : StoreState) → Premises old new secret store history from
      → IsRecovered (needed old.trace.written store old.anchor) store log from
  pub only : (store : Store) (history : History) (from : StoreState) → Premises old new secret store history from
      → AllByRecursion (λ r. (piece : Piece) × IsOpeningPiece old.trace.written store old.anchor piece × IsReadOf piece r) opening
