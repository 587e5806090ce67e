use Rattle.std.proofs.Common.{◌≡◌, ◌∙◌, ℕ, List, length, ap, arith}
use Rattle.tdb_node.proofs.NodeSpelling.{length-node}
use Rattle.tdb_map.proofs.SealLemmas.{record_size}
use Rattle.tdb_map.proofs.TreeLemmas.{if_ok_then}
use Rattle.tdb_map.proofs.storing.seal_node.Goals as goal

pub seal_record-requires : goal.seal_record-requires
seal_record-requires c =
    let long : length c.deref.result.now ≡ 3072 = ap (λ (l : List ℕ). length l) c.deref.ensures.value ∙ length-node c.args.node.now.entries c.in_ok-plain.plain.items c.in_ok-plain.ensures in
    record { size = omega (arith, long) }

pub returns-clause-some : goal.returns-clause-some
returns-clause-some c =
    let long : length c.deref.result.now ≡ 3072 = ap (λ (l : List ℕ). length l) c.deref.ensures.value ∙ length-node c.args.node.now.entries c.in_ok-plain.plain.items c.in_ok-plain.ensures in
    if_ok_then c.seal_record.result (λ bytes is. (record_size c.args.tree.now.key.0 c.node_name.result c.deref.result.now bytes.items long is).0) c.seal_record.ensures

pub returns-clause-most : goal.returns-clause-most
returns-clause-most c =
    let long : length c.deref.result.now ≡ 3072 = ap (λ (l : List ℕ). length l) c.deref.ensures.value ∙ length-node c.args.node.now.entries c.in_ok-plain.plain.items c.in_ok-plain.ensures in
    if_ok_then c.seal_record.result (λ bytes is. (record_size c.args.tree.now.key.0 c.node_name.result c.deref.result.now bytes.items long is).1) c.seal_record.ensures
