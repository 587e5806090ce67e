-- The locks that are held, and what a lock that is given or given back makes of them.
use Rattle.std.specs.Prelude.{ℕ, ◌==◌, Bool, false, not, ◌||◌, Option, unwrap_or}
use Rattle.std.specs.BTreeMap.{BTreeMap}
use Rattle.std.specs.Coded.{Coded, coded_ℕ, coded_bool, coded×, code_by}
use Rattle.std.specs.FinMap.{FinMap, from_entries, code, get, insert, retain_keys}
use Rattle.std.specs.Ordering.{nat_cmp, ordering_then}
use Rattle.std.specs.declared.cmp.Ordering.{Ordering}
use Rattle.std.proofs.Common.{refl}
use Rattle.tdb_base.specs.declared.names.Id.{Id}
use Rattle.tdb_base.specs.declared.names.TxId.{TxId}

-- objects by partition and then by rank
abbrev pub id_cmp : Id → Id → Ordering
id_cmp a b = ordering_then (nat_cmp a.part.0 b.part.0) (nat_cmp a.rank.0 b.rank.0)

-- an object and a transaction, by the object and then by the transaction's number
abbrev pub claim_cmp : Id × TxId → Id × TxId → Ordering
claim_cmp a b = ordering_then (id_cmp a.0 b.0) (nat_cmp a.1.0 b.1.0)

-- The set of all locks that are held. At an object and a transaction that holds no lock on it there is nothing, else
-- whether the lock is exclusive.
abbrev pub HeldLocks : Type 0
HeldLocks = FinMap claim_cmp Bool

-- the lock that a transaction holds on an object: whether it is exclusive
abbrev pub lock_of : HeldLocks → TxId → Id → Option Bool
lock_of locks tx id = get locks (id, tx)

-- the locks once a transaction was given one: what it had locked exclusively stays so
abbrev pub with_lock : HeldLocks → TxId → Id → Bool → HeldLocks
with_lock locks tx id exclusive = insert locks (id, tx) (exclusive || unwrap_or (lock_of locks tx id) false)

-- the locks of all other transactions
abbrev pub without_locks_of : TxId → HeldLocks → HeldLocks
without_locks_of tx locks = retain_keys locks (λ claim. not (claim.1.0 == tx.0))

-- the locks that the table's map has
abbrev pub locks_in : BTreeMap (Id × TxId) Bool → HeldLocks
locks_in map = from_entries map.entries

-- the code that a type in a contract has, which says nothing of its values
abbrev pub coded_claim : Coded (Id × TxId)
coded_claim = code_by ((ℕ × ℕ) × ℕ) (coded× (coded× coded_ℕ coded_ℕ) coded_ℕ)
    (λ c. ((c.0.part.0, c.0.rank.0), c.1.0))
    (λ t. (record { part = record { 0 = t.0.0 }; rank = record { 0 = t.0.1 } }, record { 0 = t.1 }))
    (λ _. refl)

abbrev pub coded_locks : Coded HeldLocks
coded_locks = code coded_claim coded_bool
