use Rattle.std.proofs.Common.{◌≡◌, ◌⊎◌, None, subst}
use Rattle.tdb_cache.specs.CachedNodes.{with_node, nodes_in, node_under}
use Rattle.tdb_cache.proofs.Cached.{kept}
use Rattle.tdb_cache.proofs.cache.NodeCache.keep.Goals as goal

pub returns : goal.returns
returns c =
    let put = kept c.self.inside.nodes c.put.new.self c.args.digest c.args.node c.put.result c.put.ensures.entries c.put.ensures.err c.put.ensures.succeeds in
    subst (λ s. (nodes_in c.put.new.self ≡ with_node s c.args.digest c.args.node.value) ⊎ ((nodes_in c.put.new.self ≡ s) × (node_under s c.args.digest ≡ None))) c.self.view_is put
