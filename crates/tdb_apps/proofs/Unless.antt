-- What holds of nothing.
use Rattle.std.proofs.Common.{Option, Some, None, IsSome}
use Rattle.std.specs.Prelude.{IfNone}
use Rattle.std.proofs.lemmas.Bool.{false≢true}

pub unless_some : {T P : Type 0} (o : Option T) → ((IsSome o → ⊥) → P) → IfNone o P
unless_some None p = p (λ some. false≢true some)
unless_some (Some x) p = tt
