-- What a store tells of itself, in the words of a store of chunks.
use Rattle.std.specs.Prelude.{◌≡◌, ℕ, List, Err, IsTrue}
use Rattle.tdb_base.specs.declared.piece.Damage.{Damage}
use Rattle.tdb_base.specs.Trace.{Extends}
use Rattle.tdb_model.specs.Apply.{History}
use Rattle.tdb_model.specs.Meanings.{Meanings, Target}
use Rattle.tdb_model.specs.Meanings.Target.{OfBase, OfCheckpoint, OfChunk, OfPartition}
use Rattle.tdb_model.specs.State.{State}
use Rattle.tdb_model.specs.declared.change.Change.{Change}
use Rattle.tdb_model.specs.declared.error.CommitError.{CommitError}
use Rattle.tdb_platform.specs.CrashStates.{CrashStates}
use Rattle.tdb_platform.specs.Outside.{Anchor, Outside}
use Rattle.tdb_overlay.specs.Log.{IsLog}
use Rattle.tdb_overlay.specs.Sound.{IsSound}
use Rattle.tdb_overlay.specs.StoreState.{StoreState, commit_on}
use Rattle.tdb_chunk.specs.Shown.{Between, IsDamageOfChunk, IsMalformedChunk, IsVerifiedChunk}
use Rattle.tdb_chunk.specs.Standing.{IsInState, StandsAt, StoreRan}
use Rattle.tdb_chunk.specs.StoreView.{StoreView, store_in}

-- Its trace has no collision and no forgery.
abbrev pub IsSoundStore : {P : Type 0} → (P → Outside) → StoreView P → Type 0
IsSoundStore outside s = IsSound s.secret (outside s.platform)

-- The log of an anchor ends in this state, as this trace, or a sound one that extends it, tells it.
pub record Tells {P : Type 0} (outside : P → Outside) (s : StoreView P) (anchor : Anchor) (state : State) : Type 0 where
  pub later : Outside
  pub sound : IsSound s.secret later
  pub grows : Extends (outside s.platform).trace later.trace
  pub history : History
  pub last : StoreState
  pub log : IsLog later.trace.written (store_in s) anchor history last
  pub chunks : last.chunks ≡ state

-- A stop since that moment may leave an anchor whose log ends in this state.
pub record MayLeave {P : Type 0} (outside : P → Outside) (crash_states : P → CrashStates) (s : StoreView P) (moment : ℕ) (state : State)
    : Type 0 where
  pub image : List ℕ
  pub anchor : Anchor
  pub left : crash_states s.platform moment image anchor
  pub tells : Tells outside s anchor state

-- A commit of these changes on its state is refused so.
abbrev pub RefusesNow : {P : Type 0} → (P → Outside) → StoreView P → List Change → CommitError → Type 0
RefusesNow outside s changes error = IsSoundStore outside s → (history : History) (last : StoreState) → StandsAt outside s history last
    → commit_on (store_in s) last changes ≡ Err error

-- Damage was shown on the way to that. It is told of a chunk alone, as long as no call goes through a map.
abbrev pub ShowsDamage : {P : Type 0} → (P → Outside) → (P → CrashStates) → StoreView P → StoreView P → Damage → Target → Type 0
ShowsDamage outside crash_states old new damage (OfChunk part rank) =
    Between outside crash_states old new (IsDamageOfChunk outside part.0 rank.0 damage)
ShowsDamage outside crash_states old new damage (OfPartition part) = ⊥
ShowsDamage outside crash_states old new damage OfCheckpoint = ⊥
ShowsDamage outside crash_states old new damage OfBase = ⊥

-- It makes no checkpoint yet.
abbrev pub store_means : {P : Type 0} → (P → Outside) → (P → CrashStates) → Meanings (StoreView P)
store_means outside crash_states = record {
  told = IsSoundStore outside;
  verifies = λ s. IsTrue (outside s.platform).tells;
  state = IsInState outside;
  count = λ s. s.log.head.count;
  base = λ s. s.log.head.base;
  faults = λ s. (outside s.platform).faults;
  clock = λ s. (outside s.platform).clock;
  is_stopped = λ s. s.stopped;
  left = MayLeave outside crash_states;
  ran = StoreRan outside crash_states;
  refuses = RefusesNow outside;
  checkpoint_lacks_room = λ s room. ⊥;
  damage_seen = ShowsDamage outside crash_states;
  verified_reads = λ old new part rank. Between outside crash_states old new (IsVerifiedChunk outside part.0 rank.0);
  malformed_seen = λ old new place. Between outside crash_states old new (IsMalformedChunk outside place);
}
