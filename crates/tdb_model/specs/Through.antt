-- What a value tells that holds a store of chunks and passes on all that it tells.
use Rattle.tdb_model.specs.IsLawful.{IsLawful}
use Rattle.tdb_model.specs.Meanings.{Meanings}

-- Inner is the store that is held.
abbrev pub through : {A C : Type 0} → (A → C) → Meanings C → Meanings A
through inner m = record {
  told = λ a. m.told (inner a);
  verifies = λ a. m.verifies (inner a);
  state = λ a. m.state (inner a);
  count = λ a. m.count (inner a);
  base = λ a. m.base (inner a);
  faults = λ a. m.faults (inner a);
  clock = λ a. m.clock (inner a);
  is_stopped = λ a. m.is_stopped (inner a);
  left = λ a. m.left (inner a);
  ran = λ a xs maybe b. m.ran (inner a) xs maybe (inner b);
  refuses = λ a. m.refuses (inner a);
  checkpoint_lacks_room = λ a. m.checkpoint_lacks_room (inner a);
  damage_seen = λ a b. m.damage_seen (inner a) (inner b);
  verified_reads = λ a b. m.verified_reads (inner a) (inner b);
  malformed_seen = λ a b. m.malformed_seen (inner a) (inner b);
}

-- It keeps the laws.
pub through_lawful : {A C : Type 0} (inner : A → C) (m : Meanings C) → IsLawful m → IsLawful (through inner m)
through_lawful inner m laws = record {
  itself = λ a. laws.itself (inner a);
  joined = λ a b c. laws.joined (inner a) (inner b) (inner c);
  behind_fault = λ a b c. laws.behind_fault (inner a) (inner b) (inner c);
  wider = λ a b. laws.wider (inner a) (inner b);
  told_before = λ a b. laws.told_before (inner a) (inner b);
  verifies_before = λ a b. laws.verifies_before (inner a) (inner b);
  count_stays = λ a b. laws.count_stays (inner a) (inner b);
  base_stays = λ a b. laws.base_stays (inner a) (inner b);
  faults_stay = λ a b. laws.faults_stay (inner a) (inner b);
  clock_stays = λ a b. laws.clock_stays (inner a) (inner b);
  left_since = λ a. laws.left_since (inner a);
  left_before = λ a b. laws.left_before (inner a) (inner b);
  damage_before = λ a b c. laws.damage_before (inner a) (inner b) (inner c);
  damage_stays = λ a b c. laws.damage_stays (inner a) (inner b) (inner c);
  verified_before = λ a b c. laws.verified_before (inner a) (inner b) (inner c);
  verified_stays = λ a b c. laws.verified_stays (inner a) (inner b) (inner c);
  malformed_before = λ a b c. laws.malformed_before (inner a) (inner b) (inner c);
  malformed_stays = λ a b c. laws.malformed_stays (inner a) (inner b) (inner c);
}
