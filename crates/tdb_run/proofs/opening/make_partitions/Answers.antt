use Rattle.std.proofs.Common.{◌≡◌, ◌≢◌, ◌∙◌, ap, subst, sym, Err}
use Rattle.tdb_base.specs.declared.suite.Suite.{Suite}
use Rattle.tdb_model.specs.HasCommitted.{HasCommitted, IsCommitted}
use Rattle.tdb_model.specs.Opening.{opening_changes}
use Rattle.tdb_model.specs.declared.error.CommitError.{CommitError}
use Rattle.tdb_overlay.specs.Growth.{IsSettled}
use Rattle.tdb_overlay.specs.Reading.{OnlyReads}
use Rattle.tdb_overlay.proofs.ReadingLaws.{reads_nothing}
use Rattle.tdb_overlay.proofs.RanLaws.{sound_earlier}
use Rattle.tdb_chunk.specs.StoreMeans.{store_means}
use Rattle.tdb_chunk.specs.StoreView.{StoreView, store_in}
use Rattle.tdb_run.specs.Ends.{stop_of_commit}
use Rattle.tdb_run.specs.Opened.{IsWhyNot}
use Rattle.tdb_run.specs.declared.opening.NotOpened.{NotOpened}
use Rattle.tdb_run.specs.declared.opening.NotOpened.TheVariants.{Damaged}
use Rattle.tdb_run.proofs.MakingPartitions.{calls_not_made, not_made, why_not_made}
use Rattle.tdb_run.proofs.OpeningLaws.{opened_by}
use Rattle.tdb_run.specs.declared.status.Finding.TheVariants.{Tampered}
use Rattle.tdb_run.proofs.Sparing.{commit_untampered}
use Rattle.tdb_run.proofs.opening.make_partitions.Goals as goal

pub returns-in-Ok-clause-opened : goal.returns-in-Ok-clause-opened
returns-in-Ok-clause-opened g c sound history from stands =
    let outside = g.P.Platform.outside in
    let states = g.P.Platform.crash_states in
    let old = c.args.store in
    let new = c.commit.new.self in
    let done : IsCommitted (store_means outside states) (opening_changes old.log.suite) old new =
    subst (λ (s : Suite). IsCommitted (store_means outside states) (opening_changes s) old new) c.suite-suite.ensures c.in-Ok.ensures.committed.ok in
    opened_by outside states g.met.P.Platform.counts g.met.P.Platform.numbered old new c.requires.ready c.requires.running sound history
    from stands
    (c.requires.missing (sound_earlier outside states g.met.P.Platform.counts g.met.P.Platform.numbered (store_in old) old.platform
    new.platform done.runs.tells done.runs.grows sound) history from stands) done

pub returns-clause-not_opened : goal.returns-clause-not_opened
returns-clause-not_opened g c sound history from stands =
    let outside = g.P.Platform.outside in
    let states = g.P.Platform.crash_states in
    not_made outside states g.met.P.Platform.counts g.met.P.Platform.numbered c.args.store c.commit.new.self c.requires.ready
    c.requires.running c.in-Err.error
    (subst (λ (s : Suite). HasCommitted {C = StoreView g.row.P.Denot} (store_means outside states) (opening_changes s) c.args.store c.commit.new.self
    {T = Unit {0}} (Err c.in-Err.error)) c.suite-suite.ensures
    c.in-Err.ensures.committed) c.requires.missing c.close.result c.close.ensures.platform sound history from stands

pub returns-clause-why : goal.returns-clause-why
returns-clause-why g c sound history from stands earlier =
    let outside = g.P.Platform.outside in
    let states = g.P.Platform.crash_states in
    subst (λ (why : NotOpened). IsWhyNot (store_in c.args.store) earlier (outside c.close.result) from why) (sym c.stop_of_commit.ensures)
    (why_not_made outside states g.met.P.Platform.counts g.met.P.Platform.numbered c.args.store c.commit.new.self c.requires.ready
    c.requires.running c.in-Err.error
    (subst (λ (s : Suite). HasCommitted {C = StoreView g.row.P.Denot} (store_means outside states) (opening_changes s) c.args.store c.commit.new.self
    {T = Unit {0}} (Err c.in-Err.error)) c.suite-suite.ensures
    c.in-Err.ensures.committed) c.requires.missing c.close.result c.close.ensures.platform sound history from stands
    c.close.ensures.ready earlier c.slot_of-place.result)

pub returns-clause-calls_err : goal.returns-clause-calls_err
returns-clause-calls_err g c =
    let outside = g.P.Platform.outside in
    let states = g.P.Platform.crash_states in
    calls_not_made outside states g.met.P.Platform.counts g.met.P.Platform.numbered c.args.store c.commit.new.self c.requires.ready
    c.requires.running c.in-Err.error
    (subst (λ (s : Suite). HasCommitted {C = StoreView g.row.P.Denot} (store_means outside states) (opening_changes s) c.args.store c.commit.new.self
    {T = Unit {0}} (Err c.in-Err.error)) c.suite-suite.ensures
    c.in-Err.ensures.committed) c.requires.missing c.close.result c.close.ensures.platform

pub returns-clause-only_read : goal.returns-clause-only_read
returns-clause-only_read g c isnt =
    let outside = g.P.Platform.outside in
    let states = g.P.Platform.crash_states in
    let old = c.args.store in
    let same : c.commit.new.self ≡ old = c.in-Err.ensures.refused (λ fault. isnt
    (c.stop_of_commit.ensures ∙ ap (λ (e : CommitError). stop_of_commit e c.slot_of-place.result) fault)) in
    let back : c.close.result ≡ old.platform = c.close.ensures.platform ∙ ap (λ (s : StoreView g.row.P.Denot). s.platform) same in (
      subst (λ (p : g.row.P.Denot). OnlyReads outside states old.platform p) (sym back)
          (reads_nothing outside states g.met.P.Platform.counts old.platform),
      subst (λ (p : g.row.P.Denot). IsSettled outside states p) (sym back) (c.requires.ready.settled c.requires.running),
    )

pub returns-clause-untampered : goal.returns-clause-untampered
returns-clause-untampered g c damage = subst (λ (why : NotOpened). why ≢ Damaged (Tampered damage)) (sym c.stop_of_commit.ensures)
    (commit_untampered c.slot_of-place.result c.in-Err.error damage)
