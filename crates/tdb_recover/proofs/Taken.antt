-- What is taken for granted, as a whole log.
use Rattle.std.proofs.Common.{◌≡◌, ℕ, List, Some, subst}
use Rattle.tdb_mark.specs.CommitChain.{commit_chain}
use Rattle.tdb_mark.specs.CommitText.{commit_key_of, commit_of}
use Rattle.tdb_mark.specs.Unforged.{IsUnforged}
use Rattle.tdb_model.specs.Apply.{History}
use Rattle.tdb_platform.specs.Outside.{Outside}
use Rattle.tdb_overlay.specs.Found.{Store}
use Rattle.tdb_overlay.specs.StoreState.{StoreState}
use Rattle.tdb_recover.specs.Chain.{IsGiven, WholeLog}
use Rattle.tdb_recover.specs.Premises.{Premises}

module _ (old new : Outside) (secret : List ℕ) (store : Store) (history : History) (last : StoreState) (premises : Premises old new secret store history last) where
  abbrev pub whole_log : WholeLog
  whole_log = record { store = store; anchor = old.anchor; chain = premises.log.chain; history = history; last = last }

  pub is_given : IsGiven old.trace.written new.trace secret whole_log
  is_given = record {
    keys = premises.keys;
    unforged = subst (λ (s : List ℕ). IsUnforged new.trace (commit_of (commit_key_of s))) premises.keys premises.unforged;
    ends = subst (λ (s : List ℕ). commit_chain old.trace.written (commit_of (commit_key_of s)) old.anchor.0 old.anchor.1 ≡ Some premises.log.chain) premises.keys premises.log.ends;
    tells = premises.log.tells;
  }
