-- What a cache is once the node that it lent has been given back.
use Rattle.std.specs.Prelude.{◌≡◌, ⊤}
use Rattle.std.specs.Borrow.{Fml, MutBor, follows_so}
use mathlib.Core.Option.{none}
use Rattle.tdb_cache.specs.CachedNodes.{CachedNodes}
use Rattle.tdb_cache.specs.contracts.cache.NodeCache.{the_row}

abbrev pub EndsAs : MutBor CachedNodes → CachedNodes → Fml
EndsAs cache last = follows_so the_row the_row cache.ghost_name none (λ _ _. ⊤) (λ n. n ≡ last)
