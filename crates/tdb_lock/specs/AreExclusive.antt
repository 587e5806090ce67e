-- What one transaction has locked exclusively no other has locked.
use Rattle.std.specs.Prelude.{◌≡◌, ◌≢◌, true, Some, None}
use Rattle.tdb_base.specs.declared.names.Id.{Id}
use Rattle.tdb_base.specs.declared.names.TxId.{TxId}
use Rattle.tdb_lock.specs.HeldLocks.{HeldLocks, lock_of}

abbrev pub AreExclusive : HeldLocks → Type 0
AreExclusive locks = (id : Id) (tx other : TxId) → other ≢ tx → lock_of locks tx id ≡ Some true → lock_of locks other id ≡ None
