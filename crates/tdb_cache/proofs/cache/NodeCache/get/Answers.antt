use Rattle.std.proofs.Common.{◌≡◌, refl, ap, subst, ◌∙◌}
use Rattle.tdb_cache.specs.CachedNodes.{asked, nodes_in, node_under}
use Rattle.tdb_cache.proofs.Cached.{promoted-asked, under_asked}
use Rattle.tdb_cache.proofs.cache.NodeCache.get.Goals as goal

pub returns : goal.returns
returns c =
    let after : nodes_in c.promote.new.self ≡ asked (nodes_in c.self.inside.nodes) c.args.digest.now = ap nodes_in c.promote.ensures.entries ∙ promoted-asked c.args.digest.now c.self.inside.nodes in
    let left : nodes_in c.promote.new.self ≡ asked c.args.self.now c.args.digest.now = subst (λ s. nodes_in c.promote.new.self ≡ asked s c.args.digest.now) c.self.view_is after in
    let found = c.first.ensures in
    ((refl, (λ _. tt), left), record { used = tt; node = found ∙ ap (λ s. node_under s c.args.digest.now) left ∙ under_asked c.args.self.now c.args.digest.now })
