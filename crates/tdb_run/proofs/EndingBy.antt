-- Why a run ends, by its words and the count that its anchor had.
use Rattle.std.proofs.Common.{◌≡◌, ◌≢◌, ◌⊎◌, inl, inr, ⊎_elim, ℕ, List, IsTrue, true, false, refl, sym, ◌∙◌, ap, subst}
use Rattle.tdb_base.specs.declared.suite.Suite.{Suite}
use Rattle.tdb_platform.specs.CrashStates.{CrashStates}
use Rattle.tdb_platform.specs.Outside.{Outside}
use Rattle.tdb_serve.specs.declared.script_end.ScriptEnd.{ScriptEnd}
use Rattle.tdb_serve.specs.declared.script_end.ScriptEnd.TheVariants as ends
use Rattle.tdb_overlay.specs.Growth.{IsSettled}
use Rattle.tdb_overlay.specs.Reading.{OnlyReads}
use Rattle.tdb_recover.specs.Unwritten.{WritesNothing}
use Rattle.tdb_run.specs.Command.{IsFormat, IsNoCommand, IsRun, IsStart, MakesStore}
use Rattle.tdb_run.specs.Ends.{status_of_end, status_of_stop}
use Rattle.tdb_run.specs.Run.{EndsBy}
use Rattle.tdb_run.specs.declared.opening.NotOpened.{NotOpened}
use Rattle.tdb_run.specs.declared.opening.NotOpened.TheVariants as stops
use Rattle.tdb_run.specs.declared.status.Status.{Status}
use Rattle.tdb_run.specs.declared.status.Status.TheVariants.{Done, Usage, AnchorCount, Damaged, PlatformFault, SourceFault, SinkFault, Memory, End, Refused}
use Rattle.tdb_run.specs.declared.status.Success.TheVariants.{Script, Formatted}
use Rattle.tdb_run.proofs.Words.{format_not_run, start_not_format, start_not_run}

-- a status that a script ends with
abbrev IsOfScript : Status → Type 0
IsOfScript (Done Script) = Unit {0}
IsOfScript (Done (Formatted suite segments)) = ⊥
IsOfScript Usage = ⊥
IsOfScript (AnchorCount formatted) = ⊥
IsOfScript (Damaged finding) = ⊥
IsOfScript (Refused refusal) = ⊥
IsOfScript PlatformFault = Unit {0}
IsOfScript SourceFault = Unit {0}
IsOfScript SinkFault = Unit {0}
IsOfScript Memory = Unit {0}
IsOfScript End = Unit {0}

of_script : (end : ScriptEnd) → IsOfScript (status_of_end end)
of_script ends.Bye = tt
of_script ends.End = tt
of_script ends.SourceFault = tt
of_script ends.SinkFault = tt
of_script ends.PlatformFault = tt
of_script ends.Memory = tt

-- a status that a store ends with that wasn't opened
abbrev IsOfStop : Status → Type 0
IsOfStop (Done success) = ⊥
IsOfStop Usage = ⊥
IsOfStop (AnchorCount formatted) = Unit {0}
IsOfStop (Damaged finding) = Unit {0}
IsOfStop (Refused refusal) = Unit {0}
IsOfStop PlatformFault = Unit {0}
IsOfStop SourceFault = ⊥
IsOfStop SinkFault = ⊥
IsOfStop Memory = Unit {0}
IsOfStop End = ⊥

of_stop : (why : NotOpened) → IsOfStop (status_of_stop why)
of_stop stops.AlreadyFormatted = tt
of_stop stops.Unformatted = tt
of_stop (stops.Damaged finding) = tt
of_stop (stops.Refused refusal) = tt
of_stop stops.PlatformFault = tt
of_stop stops.Memory = tt

stop_already : (why : NotOpened) → status_of_stop why ≡ AnchorCount true → why ≡ stops.AlreadyFormatted
stop_already stops.AlreadyFormatted is = refl
stop_already stops.Unformatted is = absurd (cc is)
stop_already (stops.Damaged finding) is = absurd (cc is)
stop_already (stops.Refused refusal) is = absurd (cc is)
stop_already stops.PlatformFault is = absurd (cc is)
stop_already stops.Memory is = absurd (cc is)

stop_unformatted : (why : NotOpened) → status_of_stop why ≡ AnchorCount false → why ≡ stops.Unformatted
stop_unformatted stops.AlreadyFormatted is = absurd (cc is)
stop_unformatted stops.Unformatted is = refl
stop_unformatted (stops.Damaged finding) is = absurd (cc is)
stop_unformatted (stops.Refused refusal) is = absurd (cc is)
stop_unformatted stops.PlatformFault is = absurd (cc is)
stop_unformatted stops.Memory is = absurd (cc is)

-- one that a fault of the platform doesn't end with
no_fault : (why : NotOpened) (status : Status) → status ≢ PlatformFault → status_of_stop why ≡ status → why ≢ stops.PlatformFault
no_fault why status other is fault = other (sym is ∙ ap status_of_stop fault)

module _ {D : Type 0} (outside : D → Outside) (crash_states : D → CrashStates) (words : List (List ℕ)) (old : D) where
  -- the words are no command
  pub ends_in_usage : IsNoCommand words → EndsBy outside crash_states words old old Usage
  ends_in_usage none = record {
    usage = (λ is. none, λ is. refl);
    already = λ is. absurd (cc is);
    already_always = λ is. absurd (none (inl is));
    unformatted = λ is. absurd (cc is);
    unformatted_always = λ is. absurd (none (inr is));
    formatted = λ suite segments is. absurd (cc is);
    scripts = λ is. absurd (cc is);
    script_ends = λ is. absurd (cc is);
    not_opened = λ is. ⊎_elim (λ one. absurd (cc one)) (λ other. absurd (cc other)) is;
    damaged = λ finding run is. absurd (cc is);
  }

  module _ (new : D) where
    -- the words make a new store
    module _ (suite : Suite) (segments : ℕ) (makes : MakesStore words suite segments) where
      not_run : IsRun words → ⊥
      not_run run = ⊎_elim (λ start. start_not_run words suite segments start run)
          (λ format. format_not_run words suite segments format run) makes

      -- and no store was made
      pub ends_without_new : (why : NotOpened)
          → (why ≡ stops.AlreadyFormatted → (IsTrue (outside old).tells → (outside old).anchor.0 ≢ 0)
          × OnlyReads outside crash_states old new × IsSettled outside crash_states new)
          → (IsTrue (outside old).tells → (outside old).anchor.0 ≢ 0 → (why ≡ stops.AlreadyFormatted) ⊎ (why ≡ stops.PlatformFault))
          → why ≢ stops.Unformatted → EndsBy outside crash_states words old new (status_of_stop why)
      ends_without_new why already always never = record {
        usage = (λ is. absurd (subst IsOfStop is (of_stop why)), λ none. absurd (none (inl (suite, segments, makes))));
        already = λ is. ((suite, segments, makes), (already (stop_already why is)).0);
        already_always = λ new tells count. ⊎_elim (λ is. inl (ap status_of_stop is)) (λ is. inr (ap status_of_stop is))
            (always tells count);
        unformatted = λ is. absurd (never (stop_unformatted why is));
        unformatted_always = λ run. absurd (not_run run);
        formatted = λ other number is. absurd (subst IsOfStop is (of_stop why));
        scripts = λ is. absurd (subst IsOfStop is (of_stop why));
        script_ends = λ is. absurd (subst IsOfStop is (of_stop why));
        not_opened = λ is. ⊎_elim (λ one. let r = already (stop_already why one) in (r.1, r.2))
            (λ other. absurd (never (stop_unformatted why other))) is;
        damaged = λ finding run. absurd (not_run run);
      }

      -- and the store was made where the anchor's count was 0
      pub ends_with_new : IsFormat words suite segments → (IsTrue (outside old).tells → (outside old).anchor.0 ≡ 0)
          → EndsBy outside crash_states words old new (Done (Formatted suite segments))
      ends_with_new format zero = record {
        usage = (λ is. absurd (cc is), λ none. absurd (none (inl (suite, segments, makes))));
        already = λ is. absurd (cc is);
        already_always = λ new tells count. absurd (count (zero tells));
        unformatted = λ is. absurd (cc is);
        unformatted_always = λ run. absurd (not_run run);
        formatted = λ other number is. let same : Done (Formatted suite segments) ≡ Done (Formatted other number) = is in
            subst (λ (s : Suite). IsFormat words s number) (cc same) (subst (λ (n : ℕ). IsFormat words suite n) (cc same) format);
        scripts = λ is. absurd (cc is);
        script_ends = λ is. absurd (cc is);
        not_opened = λ is. ⊎_elim (λ one. absurd (cc one)) (λ other. absurd (cc other)) is;
        damaged = λ finding run is. absurd (cc is);
      }

      -- and a script was answered
      pub ends_after_start : IsStart words suite segments → (IsTrue (outside old).tells → (outside old).anchor.0 ≡ 0)
          → (status : Status) (end : ScriptEnd) → status ≡ status_of_end end → EndsBy outside crash_states words old new status
      ends_after_start start zero status end so = let is_of : IsOfScript status = subst IsOfScript (sym so) (of_script end) in record {
        usage = (λ is. absurd (subst IsOfScript is is_of), λ none. absurd (none (inl (suite, segments, makes))));
        already = λ is. absurd (subst IsOfScript is is_of);
        already_always = λ new tells count. absurd (count (zero tells));
        unformatted = λ is. absurd (subst IsOfScript is is_of);
        unformatted_always = λ run. absurd (not_run run);
        formatted = λ other number is. absurd (subst IsOfScript is is_of);
        scripts = λ is other number format. start_not_format words suite other segments number start format;
        script_ends = λ is other number format. start_not_format words suite other segments number start format;
        not_opened = λ is. ⊎_elim (λ one. absurd (subst IsOfScript one is_of)) (λ other. absurd (subst IsOfScript other is_of)) is;
        damaged = λ finding run. absurd (not_run run);
      }

    -- the words are `run`
    module _ (run : IsRun words) where
      no_new : (suite : Suite) (segments : ℕ) → MakesStore words suite segments → ⊥
      no_new suite segments makes =
          ⊎_elim (λ start. start_not_run words suite segments start run) (λ format. format_not_run words suite segments format run) makes

      -- and a script was answered
      pub ends_after_run : (IsTrue (outside old).tells → (outside old).anchor.0 ≢ 0) → (status : Status) (end : ScriptEnd)
          → status ≡ status_of_end end → EndsBy outside crash_states words old new status
      ends_after_run some status end so = let is_of : IsOfScript status = subst IsOfScript (sym so) (of_script end) in record {
        usage = (λ is. absurd (subst IsOfScript is is_of), λ none. absurd (none (inr run)));
        already = λ is. absurd (subst IsOfScript is is_of);
        already_always = λ new. absurd (no_new new.0 new.1 new.2);
        unformatted = λ is. absurd (subst IsOfScript is is_of);
        unformatted_always = λ run tells count. absurd (some tells count);
        formatted = λ other number is. absurd (subst IsOfScript is is_of);
        scripts = λ is other number format. format_not_run words other number format run;
        script_ends = λ is other number format. format_not_run words other number format run;
        not_opened = λ is. ⊎_elim (λ one. absurd (subst IsOfScript one is_of)) (λ other. absurd (subst IsOfScript other is_of)) is;
        damaged = λ finding run is. absurd (subst IsOfScript is is_of);
      }

      -- and the store wasn't opened
      pub ends_unopened : (why : NotOpened)
          → (why ≢ stops.PlatformFault → WritesNothing outside crash_states old new × IsSettled outside crash_states new)
          → (why ≡ stops.Unformatted → (IsTrue (outside old).tells → (outside old).anchor.0 ≡ 0)
          × OnlyReads outside crash_states old new × IsSettled outside crash_states new)
          → (IsTrue (outside old).tells → (outside old).anchor.0 ≡ 0 → (why ≡ stops.Unformatted) ⊎ (why ≡ stops.PlatformFault))
          → why ≢ stops.AlreadyFormatted → EndsBy outside crash_states words old new (status_of_stop why)
      ends_unopened why unwritten unformatted always never = record {
        usage = (λ is. absurd (subst IsOfStop is (of_stop why)), λ none. absurd (none (inr run)));
        already = λ is. absurd (never (stop_already why is));
        already_always = λ new. absurd (no_new new.0 new.1 new.2);
        unformatted = λ is. (run, (unformatted (stop_unformatted why is)).0);
        unformatted_always = λ run tells count. ⊎_elim (λ is. inl (ap status_of_stop is)) (λ is. inr (ap status_of_stop is))
            (always tells count);
        formatted = λ other number is. absurd (subst IsOfStop is (of_stop why));
        scripts = λ is. absurd (subst IsOfStop is (of_stop why));
        script_ends = λ is. absurd (subst IsOfStop is (of_stop why));
        not_opened = λ is. ⊎_elim (λ one. absurd (never (stop_already why one)))
            (λ other. let r = unformatted (stop_unformatted why other) in (r.1, r.2)) is;
        damaged = λ finding run is. unwritten (no_fault why (Damaged finding) (λ no. absurd (cc no)) is);
      }
