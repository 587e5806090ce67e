use Rattle.std.proofs.Common.{inl, refl, sym, subst, ap, ◌∙◌, [], append-nil}
use Rattle.tdb_append.specs.Put.{slot_place}
use Rattle.tdb_model.specs.Apply.{History}
use Rattle.tdb_overlay.specs.Growth.{IsSettled}
use Rattle.tdb_overlay.specs.Reading.{OnlyReads}
use Rattle.tdb_overlay.specs.Sound.{IsSound}
use Rattle.tdb_overlay.proofs.ReadingLaws.{reads_nothing}
use Rattle.tdb_chunk.specs.Standing.{StandsAt}
use Rattle.tdb_chunk.specs.StoreLaws.{store_itself}
use Rattle.tdb_chunk.specs.StoreView.{store_in}
use Rattle.tdb_run.specs.Calls.{Calls}
use Rattle.tdb_run.specs.Opened.{HasNotOpened}
use Rattle.tdb_run.proofs.OpeningLaws.{calls_none, only_settled, refused_by}
use Rattle.tdb_run.proofs.opening.with_partitions.Goals as goal

pub make_partitions-requires-clause-missing : goal.make_partitions-requires-clause-missing
make_partitions-requires-clause-missing g c = c.user_partitions.ensures.missing c.in-Missing.is

pub returns-in-Made-clause-opened : goal.returns-in-Made-clause-opened
returns-in-Made-clause-opened g c sound history from stands =
    let outside = g.P.Platform.outside in
    let states = g.P.Platform.crash_states in
    let s = c.args.store in
    record {
      opening = [];
      state = from.chunks;
      opens = inl (c.user_partitions.ensures.made c.in-Made.is sound history from stands, refl, refl);
      same = refl;
      ran = only_settled outside states g.met.P.Platform.counts g.met.P.Platform.numbered (store_in s) s.platform s.platform
          (reads_nothing outside states g.met.P.Platform.counts s.platform) (c.requires.ready.settled c.requires.running);
      last = from;
      stands = subst (λ (h : History). StandsAt outside s h from) (sym (append-nil history)) stands;
      chunks = refl;
    }

pub returns-in-Made-clause-calls : goal.returns-in-Made-clause-calls
returns-in-Made-clause-calls g c = calls_none g.P.Platform.outside g.P.Platform.crash_states g.met.P.Platform.counts
    g.met.P.Platform.numbered c.args.store.secret c.args.store.platform

pub returns-in-Other-clause-not_opened : goal.returns-in-Other-clause-not_opened
returns-in-Other-clause-not_opened g c sound history from stands =
    let outside = g.P.Platform.outside in
    let states = g.P.Platform.crash_states in
    let s = c.args.store in
    subst (λ (p : g.row.P.Denot). HasNotOpened outside states (store_in s) s.platform p from) (sym c.close.ensures.platform)
    (refused_by outside states g.met.P.Platform.counts g.met.P.Platform.numbered s s c.requires.ready c.requires.running
    (subst (λ (p : g.row.P.Denot). IsSound s.secret (outside p)) c.close.ensures.platform sound) history from stands
    (store_itself outside states g.met.P.Platform.counts g.met.P.Platform.numbered s))

pub returns-in-Other-clause-why : goal.returns-in-Other-clause-why
returns-in-Other-clause-why g c sound history from stands earlier =
    let outside = g.P.Platform.outside in
    let s = c.args.store in (
      c.user_partitions.ensures.other c.in-Other.is
          (subst (λ (p : g.row.P.Denot). IsSound s.secret (outside p)) c.close.ensures.platform sound) history from stands,
      c.slot_of-place.ensures.place ∙ ap slot_place (c.count.ensures.count ∙ stands.knows.count),
    )

pub returns-in-Other-clause-calls_err : goal.returns-in-Other-clause-calls_err
returns-in-Other-clause-calls_err g c =
    let outside = g.P.Platform.outside in
    let states = g.P.Platform.crash_states in
    let s = c.args.store in
    subst (λ (p : g.row.P.Denot). Calls outside states s.secret s.platform p) (sym c.close.ensures.platform)
    (calls_none outside states g.met.P.Platform.counts g.met.P.Platform.numbered s.secret s.platform)

pub returns-in-Other-clause-only_read : goal.returns-in-Other-clause-only_read
returns-in-Other-clause-only_read g c isnt =
    let outside = g.P.Platform.outside in
    let states = g.P.Platform.crash_states in
    let s = c.args.store in
    subst (λ (p : g.row.P.Denot). OnlyReads outside states s.platform p × IsSettled outside states p) (sym c.close.ensures.platform)
    (reads_nothing outside states g.met.P.Platform.counts s.platform, c.requires.ready.settled c.requires.running)
