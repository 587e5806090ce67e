-- What is known of a log stays where nothing is written.
use Rattle.std.proofs.Common.{List, ℕ, Bool, IsTrue, sym, ◌∙◌, subst}
use Rattle.tdb_base.specs.Trace.{WrittenPiece}
use Rattle.tdb_model.specs.Apply.{History}
use Rattle.tdb_platform.specs.Outside.{Anchor, Outside}
use Rattle.tdb_overlay.specs.Found.{Store}
use Rattle.tdb_overlay.specs.Log.{IsLog}
use Rattle.tdb_overlay.specs.Needed.{needed}
use Rattle.tdb_overlay.specs.Recovered.{IsRecovered}
use Rattle.tdb_overlay.specs.StoreState.{StoreState}
use Rattle.tdb_overlay.specs.declared.recovered.Recovered.{Recovered}
use Rattle.tdb_check.specs.Behind.{IsUnwritten}
use Rattle.tdb_check.specs.NewCheckpoint.{HasKnownLog, KnowsLog, NamesHead, store_of_log}

module _ (old new : Outside) (unwritten : IsUnwritten old new) (tells : IsTrue new.tells) where
  told : IsTrue old.tells
  told = subst (λ (b : Bool). IsTrue b) unwritten.tells tells

  -- what holds of the trace and the anchor
  stays : (P : List WrittenPiece → Anchor → Type 0) → P old.trace.written old.anchor → P new.trace.written new.anchor
  stays P is =
      subst (λ (a : Anchor). P new.trace.written a) (sym (unwritten.anchor told))
      (subst (λ (ws : List WrittenPiece). P ws old.anchor) (sym (unwritten.written told)) is)

  pub log_stays : (store : Store) (history : History) (last : StoreState) → IsLog old.trace.written store old.anchor history last
      → IsLog new.trace.written store new.anchor history last
  log_stays store history last is = stays (λ (ws : List WrittenPiece) (a : Anchor). IsLog ws store a history last) is

  pub known_stays : (secret : List ℕ) (log : Recovered) (last : StoreState) → KnowsLog old secret log last → KnowsLog new secret log last
  known_stays secret log last is =
      let store : Store = store_of_log secret log in
      stays (λ (ws : List WrittenPiece) (a : Anchor). IsRecovered (needed ws store a) store log last) is

  pub has_log_still : (secret : List ℕ) (log : Recovered) → HasKnownLog old secret log → HasKnownLog new secret log
  has_log_still secret log has = record {
    before = has.before;
    last = has.last;
    is_log = log_stays (store_of_log secret log) has.before has.last has.is_log;
    known = known_stays secret log has.last has.known;
  }

  pub head_stays : (log : Recovered) → NamesHead old log → NamesHead new log
  head_stays log names again = unwritten.anchor told ∙ names told
