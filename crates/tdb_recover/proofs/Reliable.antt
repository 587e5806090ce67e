-- Opening a log on a reliable platform.
use Rattle.std.proofs.Common.{◌≡◌, List, ℕ, IsTrue, sym, subst}
use Rattle.tdb_base.specs.declared.piece.Damage.{Damage}
use Rattle.tdb_base.specs.declared.piece.Piece.{Piece}
use Rattle.tdb_base.specs.declared.suite.Suite.{Suite}
use Rattle.tdb_base.specs.Trace.{WrittenPiece}
use Rattle.tdb_platform.specs.Outside.{Anchor, Outside}
use Rattle.tdb_platform.specs.CrashStates.{CrashStates, now}
use Rattle.tdb_overlay.specs.Found.{Store}
use Rattle.tdb_overlay.specs.Images.{IsReliableUnder}
use Rattle.tdb_overlay.specs.Required.{IsOpeningPiece, IsRequired}
use Rattle.tdb_recover.specs.Damaged.{IsDamageOf, damaged_piece}

-- What a log needs is the same in each suite.
in_suite : (written : List WrittenPiece) (store : Store) (suite : Suite) (anchor : Anchor) (piece : Piece)
    → IsRequired written store anchor piece → IsRequired written (record { secret = store.secret; suite = suite }) anchor piece
in_suite written store suite anchor piece needs = record {
  chain = needs.chain;
  ends = needs.ends;
  text = needs.text;
  earlier = needs.earlier;
  later = needs.later;
  in_chain = needs.in_chain;
  since_base = needs.since_base;
  rests = needs.rests;
}

-- The image as it reads is intact for the anchor, so each piece that opening the log reads stands there, and no damage of one is told.
pub no_damage : {D : Type 0} (outside : D → Outside) (crash_states : D → CrashStates)
    → ((p : D) → IsTrue (outside p).honest → IsTrue (outside p).tells → now outside crash_states p (outside p).image (outside p).anchor)
    → (old : D) (new : Outside) (secret : List ℕ) (store : Store) (damage : Damage) → IsTrue (outside old).tells → store.secret ≡ secret
    → IsDamageOf (outside old) new (IsOpeningPiece (outside old).trace.written store (outside old).anchor) damage
    → IsReliableUnder outside crash_states secret old → ⊥
no_damage outside crash_states as_it_reads old new secret store damage tells keys is of =
    let reliable : IsReliableUnder outside crash_states store.secret old =
    subst (λ (s : List ℕ). IsReliableUnder outside crash_states s old) (sym keys) of in
    let left = as_it_reads old reliable.honest tells in
    let intact = reliable.intact (outside old).image (outside old).anchor left in
    is.hidden reliable.honest (intact.1.stand (damaged_piece damage is.size)
    (in_suite (outside old).trace.written store intact.0 (outside old).anchor (damaged_piece damage is.size) is.is_needed.required))
