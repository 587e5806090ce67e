use Rattle.tdb_overlay.proofs.ReadingLaws.{reads_none, reads_then}
use Rattle.tdb_recover.proofs.opening.begin.Goals as goal

pub returns-in_default-clause-reads : goal.returns-in_default-clause-reads
returns-in_default-clause-reads g c =
    reads_none g.P.Platform.outside g.P.Platform.crash_states g.met.P.Platform.counts c.args.platform.now c.anchor.new.self c.anchor.result
    c.anchor.ensures.trace c.anchor.ensures.image c.anchor.ensures.anchor c.anchor.ensures.now c.anchor.ensures.time c.anchor.ensures.told

pub returns-then-count-eq0-clause-reads : goal.returns-then-count-eq0-clause-reads
returns-then-count-eq0-clause-reads g c =
    reads_none g.P.Platform.outside g.P.Platform.crash_states g.met.P.Platform.counts c.args.platform.now c.anchor.new.self c.anchor.result
    c.anchor.ensures.trace c.anchor.ensures.image c.anchor.ensures.anchor c.anchor.ensures.now c.anchor.ensures.time c.anchor.ensures.told

pub returns-in-Err-clause-reads : goal.returns-in-Err-clause-reads
returns-in-Err-clause-reads g c =
    let outside = g.P.Platform.outside in
    let states = g.P.Platform.crash_states in
    let counts = g.met.P.Platform.counts in
    let old = c.args.platform.now in
    let mid = c.anchor.new.self in
    let new = c.sync.new.self in
    reads_then outside states counts old mid new
    (reads_none outside states counts old mid c.anchor.result
    c.anchor.ensures.trace c.anchor.ensures.image c.anchor.ensures.anchor c.anchor.ensures.now c.anchor.ensures.time c.anchor.ensures.told)
    (reads_none outside states counts mid new c.sync.result
    c.sync.ensures.trace c.sync.ensures.image c.sync.ensures.anchor c.sync.ensures.now c.sync.ensures.time c.sync.ensures.told)

pub returns-in-Ok-sync-clause-reads : goal.returns-in-Ok-sync-clause-reads
returns-in-Ok-sync-clause-reads g c =
    let outside = g.P.Platform.outside in
    let states = g.P.Platform.crash_states in
    let counts = g.met.P.Platform.counts in
    let old = c.args.platform.now in
    let mid = c.anchor.new.self in
    let new = c.sync.new.self in
    reads_then outside states counts old mid new
    (reads_none outside states counts old mid c.anchor.result
    c.anchor.ensures.trace c.anchor.ensures.image c.anchor.ensures.anchor c.anchor.ensures.now c.anchor.ensures.time c.anchor.ensures.told)
    (reads_none outside states counts mid new c.sync.result
    c.sync.ensures.trace c.sync.ensures.image c.sync.ensures.anchor c.sync.ensures.now c.sync.ensures.time c.sync.ensures.told)
