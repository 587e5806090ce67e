use Rattle.std.proofs.Common.{None}
use Rattle.tdb_overlay.specs.Covering.{cover_made}
use Rattle.tdb_overlay.proofs.InRanges.{made_in_range, put_in_range}
use Rattle.tdb_overlay.proofs.KeptCovers.{put, no_edits}
use Rattle.tdb_overlay.proofs.overlay.Partitions.make.Goals as goal

pub returns : goal.returns
returns c =
    let e = c.args.entry.now in
    put c.self.inside.by_number c.insert.new.self c.args.self.now e.part
    _
    (cover_made c.args.count e) c.self.view_is c.in_ok-insert.ensures.updates
    (λ i. record { suite = c.suite_of.ensures i; home = e.part; birth = c.args.count; next = 0; parent = 0; born = c.args.count; root = None; edits = no_edits c.new.result c.new.ensures.empty i })

pub invariant_of-self-2 : goal.invariant_of-self-2
invariant_of-self-2 c =
    let e = c.args.entry.now in
    put_in_range c.self.inside.by_number c.insert.new.self e.part
    _
    (cover_made c.args.count e) c.in_ok-insert.ensures.updates
    (λ i. record { suite = c.suite_of.ensures i; home = e.part; birth = c.args.count; next = 0; parent = 0; born = c.args.count; root = None; edits = no_edits c.new.result c.new.ensures.empty i })
    c.self.invariant (made_in_range c.args.count e c.requires.some c.requires.number)
