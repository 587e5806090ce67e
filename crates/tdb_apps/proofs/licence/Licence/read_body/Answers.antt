use Rattle.std.proofs.Common.{◌++◌, [], ℕ, List, sym, ◌∙◌, subst, arith, append_assoc}
use Rattle.std.specs.Int.{w32, to_be_bytes}
use Rattle.tdb_base.proofs.SameFields.{same_u32}
use Rattle.tdb_class.specs.TextBytes.{text_bytes}
use Rattle.tdb_class.specs.Word.{IsWord}
use Rattle.tdb_class.proofs.SameText.{same_text}
use Rattle.tdb_apps.proofs.Unless.{unless_some}
use Rattle.tdb_apps.proofs.licence.Licence.read_body.Goals as goal

pub returns-clause-none : goal.returns-clause-none
returns-clause-none c =
    unless_some c.new.result (λ isnt licence is e.
    let found = c.in-Some.ensures.some in
    let limit = c.split_u32-limit.result in
    let played = c.split_u32-played.result in
    let numbers : List ℕ = to_be_bytes w32 licence.limit ++ to_be_bytes w32 licence.played in
    let title = same_text c.in-Some.parts.0 licence.title c.in-Some.parts.1.now numbers (omega (arith, found.0)) (omega (arith, is.title.1))
    (sym found.1 ∙ e ∙ append_assoc (text_bytes licence.title) (to_be_bytes w32 licence.limit) (to_be_bytes w32 licence.played)) in
    let same_limit = same_u32 limit.0 licence.limit limit.1.now (to_be_bytes w32 licence.played) (omega arith) is.limit (sym c.split_u32-limit.ensures ∙ title.1) in
    let same_played = same_u32 played.0 licence.played played.1.now [] (omega arith) (omega (arith, is.limit, is.played)) (sym c.split_u32-played.ensures ∙ same_limit.1) in
    isnt (c.new.ensures.some.1 (subst IsWord (sym title.0) is.title, omega (arith, same_limit.0, same_played.0, is.played))))
