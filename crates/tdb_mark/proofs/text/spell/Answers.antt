use Rattle.std.proofs.Common.{◌≡◌, ◌++◌, ℕ, List, take, ap, sym, ◌∙◌, arith, length-take}
use Rattle.std.proofs.lemmas.List.{take_all}
use Rattle.tdb_mac.specs.Hmac.{hmac_of}
use Rattle.tdb_mark.specs.CommitText.{commit_fields}
use Rattle.tdb_mark.proofs.text.spell.Goals as goal

pub slice_bounds-tag-end : goal.slice_bounds-tag-end
slice_bounds-tag-end c = omega (arith, length-take 224 c.put_fields.new.text, c.put_fields.array_long)

pub returns : goal.returns
returns c =
    let x = c.args.commit.now in
    let done : take 224 c.put_fields.new.text ≡ commit_fields x = c.put_fields.ensures in
    sym (take_all 256 c.put_bytes32.new.text (omega arith))
    ∙ c.put_bytes32.ensures.front
    ∙ ap (λ (l : List ℕ). l ++ c.tag-tag.result) done
    ∙ ap (λ (t : List ℕ). commit_fields x ++ t) (c.tag-tag.ensures ∙ ap (hmac_of c.args.key.now) done)
