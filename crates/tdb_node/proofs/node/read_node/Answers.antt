use Rattle.std.proofs.Common.{◌≡◌, ◌∙◌, sym}
use Rattle.tdb_node.proofs.NodeSpelling.{same_entries, length-node}
use Rattle.tdb_node.proofs.node.read_node.Goals as goal

pub returns-then-bytes-ne-NODE_LENGTH-clause-form : goal.returns-then-bytes-ne-NODE_LENGTH-clause-form
returns-then-bytes-ne-NODE_LENGTH-clause-form c e entries is = c.if-bytes-ne-NODE_LENGTH.true (length-node entries c.args.bytes.now is)

pub returns-then-is_empty-clause-form : goal.returns-then-is_empty-clause-form
returns-then-is_empty-clause-form c e entries is =
    let value = c.in_ok-read_entries.ensures.value in
    let read = c.read_entries.new.entries in
    let same : entries ≡ read = same_entries entries read is.value.each value.each (is.value.count ∙ sym value.count) (sym is.spelled ∙ c.in_ok-read_entries.ensures.spelled) in
    is.format.some (same ∙ c.is_empty.ensures.0 c.if-is_empty.true)
