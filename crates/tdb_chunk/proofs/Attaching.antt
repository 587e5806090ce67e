-- A store that was opened on a platform.
use Rattle.std.proofs.Common.{◌≡◌, List, ℕ, ◌++◌, IsTrue, Result, Err, sym, ◌∙◌, ap, subst}
use Rattle.tdb_model.specs.Apply.{History}
use Rattle.tdb_platform.specs.CrashStates.{CrashStates}
use Rattle.tdb_platform.specs.Outside.{Anchor, Outside}
use Rattle.tdb_overlay.specs.Found.{Store}
use Rattle.tdb_overlay.specs.Log.{IsLog}
use Rattle.tdb_overlay.specs.Needed.{needed}
use Rattle.tdb_overlay.specs.Recovered.{IsRecovered}
use Rattle.tdb_overlay.specs.StoreState.{StoreState}
use Rattle.tdb_overlay.specs.declared.recovered.Recovered.{Recovered}
use Rattle.tdb_recover.specs.Opening.{HasRecovered}
use Rattle.tdb_recover.specs.Premises.{Premises}
use Rattle.tdb_recover.specs.declared.error.OpenError.{OpenError}
use Rattle.tdb_chunk.specs.Attached.{HasAttached}
use Rattle.tdb_chunk.specs.StoreView.{StoreView, head_in, store_in, written_in}

pub same_error : {T : Type 0} (a b : OpenError) → ◌≡◌ {A = Result T OpenError} (Err a) (Err b) → a ≡ b
same_error a b is = cc

-- the premises, of a secret that is the same
pub with_secret : (old new : Outside) (secret other : List ℕ) (store : Store) (history : History) (last : StoreState) → other ≡ secret
    → Premises old new secret store history last → Premises old new other store history last
with_secret old new secret other store history last is premises =
    subst (λ (k : List ℕ). Premises old new k store history last) (sym is) premises

module _ {P : Type 0} (outside : P → Outside) (crash_states : P → CrashStates) (s : StoreView P) (old : P)
    (secret : List ℕ) (log : Recovered) (keys_are : s.secret ≡ secret) (log_is : s.log ≡ log)
    (at_head : IsTrue (outside old).tells → (outside s.platform).anchor ≡ (log.head.count, log.head.mark.0))
    (store : Store) (history : History) (from : StoreState) (given : Premises (outside old) (outside s.platform) secret store history from)
    (recovered : HasRecovered outside crash_states old s.platform store history from log) where
  abbrev Both : Store → Anchor → Recovered → Type 0
  Both of anchor kept = IsLog (written_in outside s) of anchor (history ++ recovered.taken) recovered.to
      × IsRecovered (needed (written_in outside s) of anchor) of kept recovered.to

  same : store_in s ≡ store
  same = λ i. record {
    secret = (keys_are ∙ sym given.keys) i;
    suite = (ap (λ (r : Recovered). r.suite) log_is ∙ recovered.knows.suite) i;
  }

  both : Both store (log.head.count, log.head.mark.0) log
  both = subst (λ (a : Anchor). Both store a log) (at_head given.tells) (recovered.log, recovered.knows)

  both_seen : Both (store_in s) (head_in s) s.log
  both_seen = subst (λ (of : Store). Both of (head_in s) s.log) (sym same)
      (subst (λ (r : Recovered). Both store (r.head.count, r.head.mark.0) r) (sym log_is) both)

  -- It stands where the log of the anchor ends, or behind the one commit that was taken there.
  pub attached : HasAttached outside crash_states old store history from s
  attached = record {
    taken = recovered.taken;
    to = recovered.to;
    takes = recovered.takes;
    named = recovered.named;
    ran = recovered.ran;
    same = same;
    stands = record { log = both_seen.0; knows = both_seen.1 };
  }
