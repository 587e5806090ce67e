-- Ordered maps of claims, and the locks that they stand for.
use Rattle.std.proofs.Common.{◌≡◌, ◌==◌, Bool, true, false, not, cond, List, [], ◌∷◌, Option, Some, None, refl, sym, ◌∙◌, ap}
use Rattle.std.specs.BTreeMap as tree
use Rattle.std.specs.BTreeMap.{BTreeMap, UpdatesBy, is_at}
use Rattle.std.specs.Cmp.{eq_by_cmp_equiv}
use Rattle.std.specs.FinMap.{find, get, insert, get-insert, get-retain_keys, get-from_entries, same_map}
use Rattle.std.specs.List.{filter}
use Rattle.std.specs.Map.{lookup}
use Rattle.std.specs.Ordering.{eq_by_cmp}
use Rattle.std.specs.Cmp.{Equal-is}
use Rattle.tdb_base.specs.declared.names.Id.{Id}
use Rattle.tdb_base.specs.declared.names.TxId.{TxId}
use Rattle.tdb_lock.specs.HeldLocks.{claim_cmp, locks_in, without_locks_of}
use Rattle.tdb_lock.proofs.ClaimOrder.{claim_total, same_claim}

abbrev pub Claim : Type 0
Claim = Id × TxId

find_lookup : (es : List (Claim × Bool)) (q : Claim) → find claim_cmp q es ≡ lookup (is_at (claim_cmp q)) es
find_lookup [] q = refl
find_lookup (e ∷ es) q = ap (cond (is_at (claim_cmp q) e.0) (Some e.1)) (find_lookup es q)

-- what the map has at a claim is the lock there
pub get_locks : (m : BTreeMap Claim Bool) (q : Claim) → get (locks_in m) q ≡ tree.get claim_cmp m q
get_locks m q = get-from_entries claim_total m.entries q ∙ find_lookup m.entries q

pub tied : (a b : Claim) → eq_by_cmp claim_cmp a b ≡ true → a ≡ b
tied a b e = same_claim a b ((Equal-is (claim_cmp a b)).0 e)

-- an entry that is put into the map is a lock more
pub granted : (m n : BTreeMap Claim Bool) (k : Claim) (w : Bool) → UpdatesBy claim_cmp (claim_cmp k) m n (Some w) → locks_in n ≡ insert (locks_in m) k w
granted m n k w updates = same_map claim_total same_claim _ _ (λ q. get_locks n q ∙ updates.0 q
    ∙ ap (λ (b : Bool). cond b (Some w) (tree.get claim_cmp m q)) ((eq_by_cmp_equiv claim_total).symm k q)
    ∙ ap (cond (eq_by_cmp claim_cmp q k) (Some w)) (sym (get_locks m q))
    ∙ sym (get-insert claim_total (locks_in m) k w q))

find_kept : (p : Claim → Bool) (q : Claim) (es : List (Claim × Bool)) → find claim_cmp q (filter (λ e. p e.0) es) ≡ cond (p q) (find claim_cmp q es) None
find_kept p q [] = elim (p q) as (λ (b : Bool). ◌≡◌ {A = Option Bool} None (cond b None None)) [ true ↦ refl | false ↦ refl ]
find_kept p q (e ∷ es) =
    let rest = find_kept p q es in
    elim (eq_by_cmp claim_cmp q e.0) as (λ (t : Bool). eq_by_cmp claim_cmp q e.0 ≡ t → find claim_cmp q (cond (p e.0) (e ∷ filter (λ e. p e.0) es) (filter (λ e. p e.0) es)) ≡ cond (p q) (cond t (Some e.1) (find claim_cmp q es)) None) [
      | true ↦ λ t. elim (p q) as (λ (b : Bool). p q ≡ b → find claim_cmp q (filter (λ e. p e.0) es) ≡ cond b (find claim_cmp q es) None → find claim_cmp q (cond (p e.0) (e ∷ filter (λ e. p e.0) es) (filter (λ e. p e.0) es)) ≡ cond b (Some e.1) None) [
        | true ↦ λ is r. ap (λ (b : Bool). find claim_cmp q (cond b (e ∷ filter (λ e. p e.0) es) (filter (λ e. p e.0) es))) (ap p (sym (tied q e.0 t)) ∙ is) ∙ ap (λ (b : Bool). cond b (Some e.1) (find claim_cmp q (filter (λ e. p e.0) es))) t
        | false ↦ λ is r. ap (λ (b : Bool). find claim_cmp q (cond b (e ∷ filter (λ e. p e.0) es) (filter (λ e. p e.0) es))) (ap p (sym (tied q e.0 t)) ∙ is) ∙ r
      ] refl rest
      | false ↦ λ t. elim (p e.0) as (λ (b : Bool). find claim_cmp q (cond b (e ∷ filter (λ e. p e.0) es) (filter (λ e. p e.0) es)) ≡ find claim_cmp q (filter (λ e. p e.0) es)) [
        | true ↦ ap (λ (b : Bool). cond b (Some e.1) (find claim_cmp q (filter (λ e. p e.0) es))) t
        | false ↦ refl
      ] ∙ rest
    ] refl

-- the entries of all others are the locks of all others
pub released : (m n : BTreeMap Claim Bool) (tx : TxId) → n.entries ≡ filter (λ e. not (e.0.1.0 == tx.0)) m.entries → locks_in n ≡ without_locks_of tx (locks_in m)
released m n tx is =
    let p : Claim → Bool = λ c. not (c.1.0 == tx.0) in
    same_map claim_total same_claim _ _ (λ q. get-from_entries claim_total n.entries q
    ∙ ap (find claim_cmp q) is ∙ find_kept p q m.entries
    ∙ ap (λ (o : Option Bool). cond (p q) o None) (sym (get-from_entries claim_total m.entries q))
    ∙ sym (get-retain_keys (locks_in m) p q (λ x e. ap p (sym (same_claim q x e)))))
