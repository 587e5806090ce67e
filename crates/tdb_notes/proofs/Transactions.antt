-- The open transaction of a session, and what it is in a script's state.
use Rattle.std.proofs.Common.{◌≡◌, inl, inr, Bool, true, false, Option, Some, None, refl, sym, ◌∙◌, ap, subst}
use Rattle.std.proofs.lemmas.Bool.{eq-eqb, eqb-true, false≢true}
use Rattle.std.specs.Prelude.{◌==◌, if◌then◌else◌}
use Rattle.tdb_base.specs.declared.names.TxId.{TxId}
use Rattle.tdb_script.specs.declared.reply.Reply.TheVariants.{RefusedNoTransaction}
use Rattle.tdb_notes.specs.Script as script
use Rattle.tdb_notes.specs.Script.{Answer, IsAnswerIn, ScriptState, replied}
use Rattle.tdb_notes.specs.SessionState.{IsSessionAt, numbered, transaction_in, transaction_of}
use Rattle.tdb_notes.specs.declared.session.Session.{Session}
use Rattle.tdb_notes.specs.declared.transaction.Transaction.{Transaction}

-- what the transaction is that was found
pub record IsNumbered (t : Option Transaction) (number : TxId) (open' : Transaction) : Type 0 where
  pub is_open : t ≡ Some open'
  pub same : open'.number.0 ≡ number.0

if_same : (b : Bool) (t open' : Transaction) → (if b then Some t else None) ≡ Some open' → (b ≡ true) × (t ≡ open')
if_same true t open' is = (refl, cc)
if_same false t open' is = absurd (cc)

pub numbered_some : (t : Option Transaction) (number : TxId) (open' : Transaction) → numbered t number ≡ Some open'
    → IsNumbered t number open'
numbered_some None number open' is = absurd (cc)
numbered_some (Some t) number open' is =
    let both = if_same (t.number.0 == number.0) t open' is in
    record {
      is_open = ap (λ (u : Transaction). Some u) both.1;
      same = ap (λ (u : Transaction). u.number.0) (sym both.1)
          ∙ eqb-true t.number.0 number.0 both.0;
    }

-- the state's transaction is the one that was found
module _ (session : Session) (number : TxId) (open' : Transaction) (found : numbered session.transaction number ≡ Some open')
    (state : ScriptState) (at : IsSessionAt session state) where
  pub state_transaction : state.transaction ≡ Some (transaction_of open')
  state_transaction = sym at.transaction ∙ ap transaction_in (numbered_some session.transaction number open' found).is_open

  -- a line of it is answered by it
  pub answered_in : (answers : script.Transaction → Answer → Type 0) (given : Answer) → answers (transaction_of open') given
      → IsAnswerIn state number.0 answers state.transaction given
  answered_in answers given is =
      subst (λ (t : Option script.Transaction). IsAnswerIn state number.0 answers t given) (sym state_transaction)
      (inl ((numbered_some session.transaction number open' found).same, is))

if_other : (b : Bool) (t : Transaction) → (if b then Some t else None) ≡ None → b ≡ false
if_other true t is = absurd (cc)
if_other false t is = refl

-- another transaction is open, or none
none_in : (t : Option Transaction) (number : TxId) (state : ScriptState) (answers : script.Transaction → Answer → Type 0)
    → numbered t number ≡ None
    → IsAnswerIn state number.0 answers (transaction_in t) (replied (RefusedNoTransaction number) state)
none_in None number state answers none = refl
none_in (Some t) number state answers none =
    inr ((λ same. false≢true (sym (if_other (t.number.0 == number.0) t none) ∙ eq-eqb t.number.0 number.0 same)), refl)

pub refused_in : (session : Session) (number : TxId) (state : ScriptState) (answers : script.Transaction → Answer → Type 0)
    → numbered session.transaction number ≡ None → IsSessionAt session state
    → IsAnswerIn state number.0 answers state.transaction (replied (RefusedNoTransaction number) state)
refused_in session number state answers none at =
    subst (λ (t : Option script.Transaction). IsAnswerIn state number.0 answers t (replied (RefusedNoTransaction number) state))
    at.transaction (none_in session.transaction number state answers none)
