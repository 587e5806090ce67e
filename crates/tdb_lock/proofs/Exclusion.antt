-- Locks that are given where nothing is in the way, and locks that are given back, leave exclusive locks exclusive.
use Rattle.std.proofs.Common.{◌≡◌, ◌≢◌, ◌==◌, Bool, true, false, not, cond, ◌||◌, Option, Some, None, unwrap_or, refl, sym, subst, ◌∙◌, ap}
use Rattle.std.proofs.lemmas.Option.{same_Some, none-some}
use Rattle.std.specs.FinMap.{get, empty, retain_keys, get-empty, get-insert, get-retain_keys}
use Rattle.std.specs.Option.{IsSomeAnd}
use Rattle.std.specs.Ordering.{eq_by_cmp}
use Rattle.tdb_base.specs.declared.names.Id.{Id}
use Rattle.tdb_base.specs.declared.names.TxId.{TxId}
use Rattle.tdb_lock.specs.AreExclusive.{AreExclusive}
use Rattle.tdb_lock.specs.Conflict.{IsFree}
use Rattle.tdb_lock.specs.HeldLocks.{HeldLocks, claim_cmp, with_lock, without_locks_of}
use Rattle.tdb_lock.proofs.ClaimOrder.{claim_total, same_claim}
use Rattle.tdb_lock.proofs.Granting.{Claim, tied}

pub none_exclusive : AreExclusive empty
none_exclusive id tx other apart is = absurd (cc (is, get-empty {X = Bool} claim_cmp (id, tx)))

from_kept : (b : Bool) (o : Option Bool) → cond b o None ≡ Some true → o ≡ Some true
from_kept true o e = e
from_kept false o e = absurd (cc e)

none_kept : (b : Bool) (o : Option Bool) → o ≡ None → cond b o None ≡ None
none_kept true o e = e
none_kept false o e = refl

pub exclusive_given_back : (locks : HeldLocks) (tx : TxId) → AreExclusive locks → AreExclusive (without_locks_of tx locks)
exclusive_given_back locks tx exclusive id holder other apart is =
    let p : Claim → Bool = λ c. not (c.1.0 == tx.0) in
    let kept : (q : Claim) → get (retain_keys locks p) q ≡ cond (p q) (get locks q) None = λ q. get-retain_keys locks p q (λ x e. ap p (sym (same_claim q x e))) in
    kept (id, other) ∙ none_kept (p (id, other)) (get locks (id, other))
    (exclusive id holder other apart (from_kept (p (id, holder)) (get locks (id, holder)) (sym (kept (id, holder)) ∙ is)))

or_true : (a : Bool) → (a || true) ≡ true
or_true true = refl
or_true false = refl

was_exclusive : (o : Option Bool) → unwrap_or o false ≡ true → o ≡ Some true
was_exclusive None e = absurd (cc e)
was_exclusive (Some v) e = ap (λ (b : Bool). Some b) e

module _ (locks : HeldLocks) (tx : TxId) (id : Id) (exclusive_before : AreExclusive locks) where
  -- where the lock that is given is exclusive, no other holds one
  no_other : (exclusive : Bool) → IsFree locks tx id exclusive → (other : TxId) → other ≢ tx → (exclusive || unwrap_or (get locks (id, tx)) false) ≡ true → (o : Option Bool) → get locks (id, other) ≡ o → o ≡ None
  no_other exclusive free other apart kind None is = refl
  no_other true free other apart kind (Some v) is =
      absurd (free other (apart, subst (λ (o : Option Bool). IsSomeAnd o (λ held. (true || held) ≡ true)) (sym is) refl))
  no_other false free other apart kind (Some v) is =
      absurd (none-some v (sym (exclusive_before id tx other apart (was_exclusive (get locks (id, tx)) kind)) ∙ is))

  no_exclusive : (exclusive : Bool) → IsFree locks tx id exclusive → (other : TxId) → other ≢ tx → get locks (id, other) ≡ Some true → ⊥
  no_exclusive exclusive free other apart is =
      free other (apart, subst (λ (o : Option Bool). IsSomeAnd o (λ held. (exclusive || held) ≡ true)) (sym is) (or_true exclusive))

  given_at : (exclusive : Bool) → IsFree locks tx id exclusive → (at : Id) (holder other : TxId) → other ≢ holder
      → (t u : Bool) → eq_by_cmp claim_cmp (at, holder) (id, tx) ≡ t → eq_by_cmp claim_cmp (at, other) (id, tx) ≡ u
      → cond t (Some (exclusive || unwrap_or (get locks (id, tx)) false)) (get locks (at, holder)) ≡ Some true
      → cond u (Some (exclusive || unwrap_or (get locks (id, tx)) false)) (get locks (at, other)) ≡ None
  given_at exclusive free at holder other apart true true first second is =
      absurd (apart (ap (λ (c : Claim). c.1) (tied (at, other) (id, tx) second ∙ sym (tied (at, holder) (id, tx) first))))
  given_at exclusive free at holder other apart true false first second is =
      let here : (at, holder) ≡ (id, tx) = tied (at, holder) (id, tx) first in
      let same : at ≡ id = ap (λ (c : Claim). c.0) here in
      ap (λ (i : Id). get locks (i, other)) same
      ∙ no_other exclusive free other (λ e. apart (e ∙ sym (ap (λ (c : Claim). c.1) here))) (same_Some _ true is) (get locks (id, other)) refl
  given_at exclusive free at holder other apart false true first second is =
      let here : (at, other) ≡ (id, tx) = tied (at, other) (id, tx) second in
      let same : at ≡ id = ap (λ (c : Claim). c.0) here in
      absurd (no_exclusive exclusive free holder (λ e. apart (ap (λ (c : Claim). c.1) here ∙ sym e)) (ap (λ (i : Id). get locks (i, holder)) (sym same) ∙ is))
  given_at exclusive free at holder other apart false false first second is = exclusive_before at holder other apart is

pub exclusive_given : (locks : HeldLocks) (tx : TxId) (id : Id) (exclusive : Bool) → IsFree locks tx id exclusive → AreExclusive locks → AreExclusive (with_lock locks tx id exclusive)
exclusive_given locks tx id exclusive free before at holder other apart is =
    let w : Bool = exclusive || unwrap_or (get locks (id, tx)) false in
    get-insert claim_total locks (id, tx) w (at, other)
    ∙ given_at locks tx id before exclusive free at holder other apart _ _ refl refl (sym (get-insert claim_total locks (id, tx) w (at, holder)) ∙ is)
