-- Which lock keeps a transaction from another, and how a request for a lock is answered.
use Rattle.std.specs.Prelude.{◌≡◌, ◌≢◌, ◌≤◌, Bool, true, ◌||◌, None, Result, Ok, Err, IsSomeAnd}
use Rattle.tdb_base.specs.declared.names.Id.{Id}
use Rattle.tdb_base.specs.declared.names.TxId.{TxId}
use Rattle.tdb_lock.specs.HeldLocks.{HeldLocks, lock_of}
use Rattle.tdb_lock.specs.declared.error.LockError.{LockError}
use Rattle.tdb_lock.specs.declared.error.LockError.TheVariants.{Busy, Memory}

-- The lock of another transaction on the same object is in the way where one of the two is exclusive.
abbrev pub IsInTheWay : HeldLocks → TxId → Id → Bool → TxId → Type 0
IsInTheWay locks tx id exclusive other = (other ≢ tx) × IsSomeAnd (lock_of locks other id) (λ held. (exclusive || held) ≡ true)

-- no transaction's lock is in the way
abbrev pub IsFree : HeldLocks → TxId → Id → Bool → Type 0
IsFree locks tx id exclusive = (other : TxId) → ¬ IsInTheWay locks tx id exclusive other

-- this transaction's lock is in the way, and no lesser one's is
abbrev pub IsLeastInTheWay : HeldLocks → TxId → Id → Bool → TxId → Type 0
IsLeastInTheWay locks tx id exclusive holder =
    IsInTheWay locks tx id exclusive holder × ((other : TxId) → IsInTheWay locks tx id exclusive other → holder.0 ≤ other.0)

-- Busy exactly where a lock is in the way, by the least transaction. Memory may be wanting only for the first lock on an object.
abbrev pub IsAnswer : HeldLocks → TxId → Id → Bool → Result (Unit {0}) LockError → Type 0
IsAnswer locks tx id exclusive (Ok done) = IsFree locks tx id exclusive
IsAnswer locks tx id exclusive (Err (Busy holder)) = IsLeastInTheWay locks tx id exclusive holder
IsAnswer locks tx id exclusive (Err Memory) = IsFree locks tx id exclusive × (lock_of locks tx id ≡ None)
