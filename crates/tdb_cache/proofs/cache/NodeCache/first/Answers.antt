use Rattle.std.proofs.Common.{rules, ◌≡◌, option_copied}
use Rattle.std.specs.Map.{lookup}
use Rattle.tdb_cache.specs.CachedNodes.{is_digest}
use Rattle.tdb_cache.proofs.Cached.{node_under-lookup}
use Rattle.tdb_cache.proofs.cache.NodeCache.first.Goals as goal

pub returns-in-Some : goal.returns-in-Some
returns-in-Some c =
    let found : option_copied c.peek.result ≡ lookup (is_digest c.args.digest.now) c.self.inside.nodes.entries = c.peek.ensures in
    let under = node_under-lookup c.args.digest.now c.self.inside.nodes in
    search (rules, found, under, c.self.view_is, c.in-Some.is, c.deref.ensures)

pub returns-in-None : goal.returns-in-None
returns-in-None c =
    let found : option_copied c.peek.result ≡ lookup (is_digest c.args.digest.now) c.self.inside.nodes.entries = c.peek.ensures in
    let under = node_under-lookup c.args.digest.now c.self.inside.nodes in
    search (rules, found, under, c.self.view_is, c.in-None.is)
