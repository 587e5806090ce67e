-- A store of chunks in memory, and what it tells.
use Rattle.std.specs.Prelude.{◌≡◌, ◌+◌, ◌≤◌, ℕ, false, List, [], ◌∷◌, ◌++◌}
use Rattle.std.specs.Coded.{Coded, coded_ℕ, coded×, code_by}
use Rattle.std.proofs.Common.{refl, ◌∙◌, ap, inr, arith}
use Rattle.tdb_base.specs.declared.suite.Suite.{Suite}
use Rattle.tdb_model.specs.Apply.{History, apply_all, replay}
use Rattle.tdb_model.specs.IsLawful.{IsLawful}
use Rattle.tdb_model.specs.Limits.{count_limit}
use Rattle.tdb_model.specs.Meanings.{Meanings}
use Rattle.tdb_model.specs.Memory.{coded_state, coded_suite}
use Rattle.tdb_model.specs.State.{State}
use Rattle.tdb_model.specs.declared.change.Change.{Change}
use Rattle.tdb_model.specs.declared.error.CommitError.TheVariants.{CounterEnd}

pub record InMemory : Type 0 where
  -- the suite that it was made with
  pub suite : Suite
  -- the count of the last commit, and 0 before the first
  pub count : ℕ
  pub state : State

abbrev pub coded_in_memory : Coded InMemory
coded_in_memory = code_by (Suite × (ℕ × State)) (coded× coded_suite (coded× coded_ℕ coded_state))
    (λ c. (c.suite, (c.count, c.state))) (λ t. record { suite = t.0; count = t.1.0; state = t.1.1 }) (λ _. refl)

-- what a commit of these changes makes of it
abbrev pub after_commit : List Change → InMemory → InMemory
after_commit changes c = record {
  suite = c.suite;
  count = c.count + 1;
  state = apply_all (c.count + 1) c.state changes;
}

-- The commits that were answered Ok make the later state of the earlier one. None is begun that isn't answered Ok.
pub record RanInMemory (old : InMemory) (surely : History) (new : InMemory) : Type 0 where
  pub state : new.state ≡ replay old.state surely
  pub count : old.count ≤ new.count

-- Its state stands in no device: there is no moment between its calls, and a stop leaves the state that it has.
-- It never stops, meets no fault, sees no damage, and verifies nothing.
-- It needs no checkpoint, so that it always stands at its base, and has room without end.
abbrev pub memory_means : Meanings InMemory
memory_means = record {
  told = λ c. Unit {0};
  verifies = λ c. ⊥;
  state = λ c s. c.state ≡ s;
  count = λ c. c.count;
  base = λ c. c.count;
  faults = λ c. 0;
  clock = λ c. 0;
  is_stopped = λ c. false;
  left = λ c t s. s ≡ c.state;
  ran = λ a surely maybe b. RanInMemory a surely b;
  refuses = λ c changes e. (e ≡ CounterEnd) × (c.count ≡ count_limit);
  checkpoint_lacks_room = λ c room. ⊥;
  damage_seen = λ a b damage of. ⊥;
  verified_reads = λ a b part rank. ⊥;
  malformed_seen = λ a b place. ⊥;
}

replay_both : (s : State) (xs ys : History) → replay (replay s xs) ys ≡ replay s (xs ++ ys)
replay_both s [] ys = refl
replay_both s (x ∷ xs) ys = replay_both (apply_all x.0 s x.1) xs ys

pub memory_lawful : IsLawful memory_means
memory_lawful = record {
  itself = λ a. record { state = refl; count = omega arith };
  joined = λ a b c xs ys maybe first then. record {
    state = then.state ∙ ap (λ (s : State). replay s ys) first.state ∙ replay_both a.state xs ys;
    count = let low = first.count in let high = then.count in omega (arith, low, high);
  };
  behind_fault = λ a b c xs maybe first then. record {
    state = then.state ∙ first.state;
    count = let low = first.count in let high = then.count in omega (arith, low, high);
  };
  wider = λ a b xs maybe is. is;
  told_before = λ a b xs maybe is told. tt;
  verifies_before = λ a b xs maybe is verifies. verifies;
  count_stays = λ a b xs maybe is. is.count;
  base_stays = λ a b xs maybe is. is.count;
  faults_stay = λ a b xs maybe is. omega arith;
  clock_stays = λ a b xs maybe is. omega arith;
  left_since = λ a t u s earlier within is. is;
  left_before = λ a b xs maybe t s is told within left. inr left;
  damage_before = λ a b c xs maybe damage of is bad. bad;
  damage_stays = λ a b c xs maybe damage of bad is. bad;
  verified_before = λ a b c xs maybe part rank is seen. seen;
  verified_stays = λ a b c xs maybe part rank seen is. seen;
  malformed_before = λ a b c xs maybe place is bad. bad;
  malformed_stays = λ a b c xs maybe place bad is. bad;
}
