use Rattle.std.proofs.Common.{◌≡◌, ◌∙◌, Some, refl, sym, subst, ap}
use Rattle.std.proofs.lemmas.Bool.{false≢true}
use Rattle.tdb_node.specs.declared.leader.Leader.{Leader as NodeLeader}
use Rattle.tdb_overlay.specs.Roster.{kept_of}
use Rattle.tdb_overlay.proofs.ReadingLaws.{reads_nothing}
use Rattle.tdb_recover.specs.Explained.{IsExplained}
use Rattle.tdb_recover.proofs.Answering.{if_err_and}
use Rattle.tdb_recover.proofs.Counted.{most_none}
use Rattle.tdb_recover.proofs.Leaders.{leader_is, leader_record, leader_spelled}
use Rattle.tdb_recover.proofs.roster.read_partition.Goals as goal

pub returns-then-not-holds-clause-reads : goal.returns-then-not-holds-clause-reads
returns-then-not-holds-clause-reads g c =
    reads_nothing g.P.Platform.outside g.P.Platform.crash_states g.met.P.Platform.counts c.args.platform.now

pub returns-then-not-holds-clause-most : goal.returns-then-not-holds-clause-most
returns-then-not-holds-clause-most g c =
    most_none 1 (g.P.Platform.outside c.args.platform.now) (g.P.Platform.outside c.args.platform.now) (λ t. refl)

pub returns-then-not-holds-clause-explained : goal.returns-then-not-holds-clause-explained
returns-then-not-holds-clause-explained g c t l given = false≢true (sym c.if-not-holds.true ∙ c.holds.ensures.1 given.lies)

pub returns-in_err-plain-clause-explained : goal.returns-in_err-plain-clause-explained
returns-in_err-plain-clause-explained g c t =
    let old = g.P.Platform.outside c.args.platform.now in
    let new = g.P.Platform.outside c.open_record.new.platform in
    if_err_and c.from_residual.result _ _ c.from_residual.ensures.1
    (λ e is l given.
    subst (IsExplained old new (λ p. p ≡ c.args.piece.now)) (sym is)
    (c.in_err-plain.ensures.explained t given.is.plain
    (leader_record old.trace.written new.trace c.args.keys.now c.args.suite c.args.segments.now.segments c.args.part.0 c.args.piece.now l given)))

pub returns-in_default-clause-explained : goal.returns-in_default-clause-explained
returns-in_default-clause-explained g c t l given =
    let old = g.P.Platform.outside c.args.platform.now in
    let new = g.P.Platform.outside c.open_record.new.platform in
    let is = c.deref.ensures.value ∙ c.in_ok-plain.ensures.plain t given.is.plain
    (leader_record old.trace.written new.trace c.args.keys.now c.args.suite c.args.segments.now.segments c.args.part.0 c.args.piece.now l given) in
    c.in_default.ensures.form.1 l
    (leader_spelled old.trace.written new.trace c.args.keys.now c.args.suite c.args.segments.now.segments c.args.part.0 c.args.piece.now l given
    c.deref.result.now is)

pub returns-in-Some-clause-explained : goal.returns-in-Some-clause-explained
returns-in-Some-clause-explained g c t l given =
    let old = g.P.Platform.outside c.args.platform.now in
    let new = g.P.Platform.outside c.open_record.new.platform in
    let is = c.deref.ensures.value ∙ c.in_ok-plain.ensures.plain t given.is.plain
    (leader_record old.trace.written new.trace c.args.keys.now c.args.suite c.args.segments.now.segments c.args.part.0 c.args.piece.now l given) in
    let same : c.in-Ok.leader ≡ l = leader_is old.trace.written new.trace c.args.keys.now c.args.suite c.args.segments.now.segments c.args.part.0
    c.args.piece.now l given c.in-Ok.leader c.deref.result.now is c.in-Ok.ensures.found in
    let root : l.root ≡ Some c.in-Some.root = ap (λ (x : NodeLeader). x.root) (sym same) ∙ c.in-Some.is in
    false≢true (c.if-not-holds-2.ensures.1 (given.root_lies c.in-Some.root root))

pub returns-clause-leader : goal.returns-clause-leader
returns-clause-leader g c t l given =
    let old = g.P.Platform.outside c.args.platform.now in
    let new = g.P.Platform.outside c.open_record.new.platform in
    let is = c.deref.ensures.value ∙ c.in_ok-plain.ensures.plain t given.is.plain
    (leader_record old.trace.written new.trace c.args.keys.now c.args.suite c.args.segments.now.segments c.args.part.0 c.args.piece.now l given) in
    c.kept.ensures.fields
    ∙ ap (λ (x : NodeLeader). kept_of x) (leader_is old.trace.written new.trace c.args.keys.now c.args.suite c.args.segments.now.segments
    c.args.part.0 c.args.piece.now l given c.in-Ok.leader c.deref.result.now is c.in-Ok.ensures.found)
