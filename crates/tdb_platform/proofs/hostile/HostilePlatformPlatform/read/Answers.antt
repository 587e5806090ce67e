use Rattle.std.proofs.Common.{◌≡◌, ◌==◌, List, ℕ, length, take, drop, find, refl, ◌∙◌, ap}
use Rattle.std.specs.Prelude.{Result, Ok, Err, IfOk, Option, Some, None}
use Rattle.tdb_platform.specs.declared.hostile.Answer.{Answer}
use Rattle.tdb_platform.specs.Hostile.{device_bytes, given_answers, in_place_of, shown}
use Rattle.tdb_platform.proofs.hostile.HostilePlatformPlatform.read.Goals as goal

gave_the_same : {E : Type 0} (r : Result ℕ E) (into bytes others : List ℕ) → bytes ≡ others → IfOk r (λ n. take n into ≡ bytes) → IfOk r (λ n. take n into ≡ others)
gave_the_same (Ok n) into bytes others same gave = gave ∙ same
gave_the_same (Err e) into bytes others same gave = tt

-- what is shown, by the answer that was found
by_found : (answers given : List Answer) (number asked : ℕ) (bytes : List ℕ) (found : Option Answer) → given ≡ answers → found ≡ find (λ answer. answer.nth == number) given
    → in_place_of bytes asked found ≡ shown answers number asked bytes
by_found answers given number asked bytes found same is =
    ap (in_place_of bytes asked) (is ∙ ap (find (λ answer. answer.nth == number)) same)

pub returns-in-Some-clause-shown : goal.returns-in-Some-clause-shown
returns-in-Some-clause-shown c =
    let asked = length c.args.into.now in
    let bytes = take asked (drop c.args.at (device_bytes c.args.self.now)) in
    gave_the_same c.show.result c.show.new.into _ _
    (ap (take asked) c.deref-in-Some.ensures.value
    ∙ by_found (given_answers c.args.self.now) c.deref.result.now c.saturating_add-self.result asked bytes (Some c.in-Some.answer.now) c.deref.ensures.value c.in-Some.ensures)
    c.show.ensures.piece

pub returns-in-None-clause-shown : goal.returns-in-None-clause-shown
returns-in-None-clause-shown c =
    let asked = length c.args.into.now in
    let bytes = take asked (drop c.args.at (device_bytes c.args.self.now)) in
    gave_the_same c.read.result c.read.new.into _ _
    (by_found (given_answers c.args.self.now) c.deref.result.now c.saturating_add-self.result asked bytes None c.deref.ensures.value c.in-None.ensures)
    (c.read.ensures.piece refl)
