use Rattle.std.proofs.Common.{subst, sym}
use Rattle.tdb_overlay.specs.Covering.{Covers}
use Rattle.tdb_check.specs.NewCheckpoint.{HasNoChange, store_of_log}
use Rattle.tdb_check.proofs.Behind.{checkpoint_known}
use Rattle.tdb_check.proofs.NoChange.{new_map_unchanged}
use Rattle.tdb_check.proofs.Unwritten.{head_stays, known_stays, log_stays}
use Rattle.tdb_check.proofs.laws.checkpoint_is_known.Goals as goal

pub returns-clause-stands : goal.returns-clause-stands
returns-clause-stands c old mid new secret was now_is k ps space told unwritten next sound at_head put kept history from is known =
    checkpoint_known mid new secret was now_is k ps space told next sound (head_stays old mid unwritten sound.tells was at_head) put kept
    history from (log_stays old mid unwritten sound.tells (store_of_log secret was) history from is)
    (known_stays old mid unwritten sound.tells secret was from known) old

pub returns-clause-unchanged : goal.returns-clause-unchanged
returns-clause-unchanged c o secret was now_is commit pieces space told next kept =
    subst (λ (covers : Covers). HasNoChange covers) (sym kept.overlay)
    (new_map_unchanged (store_of_log secret was) o pieces was.overlay was.tree.leaders told was.tree.root next.root next.map)
