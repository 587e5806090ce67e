-- A run over a reliable platform that met no fault came to its end.
use Rattle.std.proofs.Common.{◌≢◌, inl, inr, List, ℕ, IsTrue, true, false, refl}
use Rattle.tdb_platform.specs.CrashStates.{CrashStates}
use Rattle.tdb_platform.specs.Outside.{Outside}
use Rattle.tdb_stream.specs.SinkContent.{SinkContent}
use Rattle.tdb_stream.specs.SourceContent.{SourceContent}
use Rattle.tdb_run.specs.Command.{IsCommand}
use Rattle.tdb_run.specs.Conversed.{TellsFaults}
use Rattle.tdb_run.specs.Run.{EndsBy, IsCountFor, NoneFailed}
use Rattle.tdb_run.specs.Undamaged.{Completes}
use Rattle.tdb_run.specs.declared.status.Finding.{Finding}
use Rattle.tdb_run.specs.declared.status.Status.{Status}
use Rattle.tdb_run.specs.declared.status.Status.TheVariants.{Done, Usage, AnchorCount, Damaged, PlatformFault, SourceFault, SinkFault, Memory, End, Refused}

module _ {D : Type 0} (outside : D → Outside) (crash_states : D → CrashStates) (words : List (List ℕ)) (came gone : SourceContent)
    (before after : SinkContent) (old new : D) (command : IsCommand words) (tells : IsTrue (outside old).tells)
    (count : IsCountFor words (outside old)) (none : NoneFailed came gone before after (outside old) (outside new)) where
  pub completes_by : (status : Status) → EndsBy outside crash_states words old new status
      → TellsFaults came gone before after (outside old) (outside new) status → ((finding : Finding) → status ≢ Damaged finding)
      → Completes status
  completes_by (Done success) by faults undamaged = inl (success, refl)
  completes_by End by faults undamaged = inr (inl refl)
  completes_by (Refused refusal) by faults undamaged = inr (inr (inl (refusal, refl)))
  completes_by Memory by faults undamaged = inr (inr (inr refl))
  completes_by Usage by faults undamaged = absurd (by.usage.0 refl command)
  completes_by (AnchorCount true) by faults undamaged = let is = by.already refl in absurd (is.1 tells (count.0 is.0))
  completes_by (AnchorCount false) by faults undamaged = let is = by.unformatted refl in absurd (count.1 is.0 (is.1 tells))
  completes_by (Damaged finding) by faults undamaged = absurd (undamaged finding refl)
  completes_by PlatformFault by faults undamaged = absurd (none.2 faults.2)
  completes_by SourceFault by faults undamaged = absurd (none.0 faults.0)
  completes_by SinkFault by faults undamaged = absurd (none.1 faults.1)
