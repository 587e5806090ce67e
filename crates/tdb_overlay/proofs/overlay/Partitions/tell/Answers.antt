use Rattle.tdb_overlay.specs.Lookup.{cover_told}
use Rattle.tdb_overlay.proofs.InRanges.{put_in_range, told_in_range}
use Rattle.tdb_overlay.proofs.KeptCovers.{no_edits, put}
use Rattle.tdb_overlay.proofs.overlay.Partitions.tell.Goals as goal

pub returns : goal.returns
returns c =
    let l = c.args.leader.now in
    put c.self.inside.by_number c.insert.new.self c.args.self.now c.args.part
    _
    (cover_told l) c.self.view_is c.in_ok-insert.ensures.updates
    (λ i. record { suite = l.suite; home = l.home; birth = l.birth; next = l.next; parent = l.parent; born = l.born; root = l.root; edits = no_edits c.new.result c.new.ensures.empty i })

pub invariant_of-self-2 : goal.invariant_of-self-2
invariant_of-self-2 c =
    let l = c.args.leader.now in
    put_in_range c.self.inside.by_number c.insert.new.self c.args.part
    _
    (cover_told l) c.in_ok-insert.ensures.updates
    (λ i. record { suite = l.suite; home = l.home; birth = l.birth; next = l.next; parent = l.parent; born = l.born; root = l.root; edits = no_edits c.new.result c.new.ensures.empty i })
    c.self.invariant (told_in_range c.args.part l c.requires.number c.requires.format)
