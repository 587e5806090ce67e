use Rattle.std.proofs.Common.{◌≡◌, Option, Some, None, IsSome, Bor, refl, sym, ◌∙◌, ap}
use Rattle.std.specs.Prelude.{option_copied}
use Rattle.std.proofs.lemmas.Bool.{false≢true}
use Rattle.tdb_class.proofs.laws.given_back.Goals as goal

-- some object that can only be x is x
only : {A : Type 0} (o : Option (Bor A)) (x : A) → IsSome o → ((y : A) → option_copied o ≡ Some y → y ≡ x) → option_copied o ≡ Some x
only None x some is = absurd (false≢true some)
only (Some y) x some is = ap Some (is y.now refl)

pub returns : goal.returns
returns g c x is =
    only c.of_ref.result x (c.of_ref.ensures.some.1 (ap g.U.Universe.class_of (sym is) ∙ g.met.T.Class.class_is x))
    (λ y found. g.met.T.Class.one_wrapped y x (c.of_ref.ensures.object y found ∙ sym is))
