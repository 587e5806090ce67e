use Rattle.std.proofs.Common.{◌≡◌, [], ◌∷◌, length, get_or, refl, sym, ◌∙◌, rules}
use Rattle.std.proofs.lemmas.Nat.{be_bytes_4}
use Rattle.tdb_aes.proofs.Sixteen.{sixteen}
use Rattle.tdb_aes.proofs.WordBytes.{bytes_of_words-from}
use Rattle.tdb_aes.proofs.state.State.from_block.Goals as goal

pub returns : goal.returns
returns c =
    let s = c.args.block in
    let long : length s ≡ 16 = search rules in
    bytes_of_words-from _ _ _ _ _ _ _ _
    (be_bytes_4 (get_or s 0 0 ∷ get_or s 1 0 ∷ get_or s 2 0 ∷ get_or s 3 0 ∷ []) _ refl (search rules) c.from_be_bytes.ensures)
    (be_bytes_4 (get_or s 4 0 ∷ get_or s 5 0 ∷ get_or s 6 0 ∷ get_or s 7 0 ∷ []) _ refl (search rules) c.from_be_bytes-2.ensures)
    (be_bytes_4 (get_or s 8 0 ∷ get_or s 9 0 ∷ get_or s 10 0 ∷ get_or s 11 0 ∷ []) _ refl (search rules) c.from_be_bytes-3.ensures)
    (be_bytes_4 (get_or s 12 0 ∷ get_or s 13 0 ∷ get_or s 14 0 ∷ get_or s 15 0 ∷ []) _ refl (search rules) c.from_be_bytes-4.ensures)
    ∙ sym (sixteen s long)
