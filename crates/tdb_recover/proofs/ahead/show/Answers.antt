use Rattle.std.proofs.Common.{◌≡◌, Err, arith, length, refl, take}
use Rattle.std.proofs.lemmas.Grind.{common_steps}
use Rattle.tdb_recover.proofs.AheadSlot.{shown_one}
use Rattle.tdb_recover.proofs.Counted.{most_none, most_one}
use Rattle.tdb_recover.proofs.ReadingAhead.{stopped_fault, stopped_memory}
use Rattle.tdb_recover.proofs.ahead.show.Goals as goal

pub returns-in_default-clause-asks : goal.returns-in_default-clause-asks
returns-in_default-clause-asks g c =
    stopped_memory g.P.Platform.outside g.P.Platform.crash_states g.met.P.Platform.counts c.args.platform.now

pub returns-in_default-read-clause-asks : goal.returns-in_default-read-clause-asks
returns-in_default-read-clause-asks g c =
    let e = c.in_default-read.ensures in
    stopped_fault g.P.Platform.outside g.P.Platform.crash_states g.met.P.Platform.counts c.args.platform.now c.read.new.self
    (Err c.in_default-read.field-0) refl e.trace_err e.image e.anchor e.now e.time e.told

pub returns-clause-asks : goal.returns-clause-asks
returns-clause-asks g c =
    let e = c.in-Ok-read.ensures in
    let long : length c.as_mut_slice.result.now ≡ c.args.length = grind (arith, common_steps) in
    let same : take c.in-Ok-read.count c.read.new.into ≡ c.truncate.new.self.items = grind (arith, common_steps) in
    shown_one g.P.Platform.outside g.P.Platform.crash_states g.met.P.Platform.counts c.args.platform.now c.read.new.self _
    c.args.place.0 _ c.args.length _ _ long same e.trace e.piece e.image e.anchor e.now e.time e.told e.quiet

pub returns-in_default-clause-most : goal.returns-in_default-clause-most
returns-in_default-clause-most g c =
    most_none 1 (g.P.Platform.outside c.args.platform.now) (g.P.Platform.outside c.args.platform.now) (λ t. refl)

pub returns-in_default-read-clause-most : goal.returns-in_default-read-clause-most
returns-in_default-read-clause-most g c =
    most_none 1 (g.P.Platform.outside c.args.platform.now) (g.P.Platform.outside c.read.new.self) c.in_default-read.ensures.trace_err

pub returns-clause-most : goal.returns-clause-most
returns-clause-most g c =
    most_one (g.P.Platform.outside c.args.platform.now) (g.P.Platform.outside c.read.new.self) c.args.place.0 _ _ c.in-Ok-read.ensures.trace
