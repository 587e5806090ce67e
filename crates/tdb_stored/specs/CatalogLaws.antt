-- The bytes of no collection in the catalog begin those of another.
use Rattle.std.specs.Prelude.{◌≡◌, ℕ, List, ◌++◌}
use Rattle.std.proofs.Common.{sym, ◌∙◌, arith, append_assoc}
use Rattle.std.specs.Int.{w32, to_be_bytes}
use Rattle.tdb_base.proofs.SameFields.{same_u32}
use Rattle.tdb_class.specs.TextBytes.{text_bytes}
use Rattle.tdb_class.proofs.SameText.{same_text}
use Rattle.tdb_stored.specs.Catalog.{listed_bytes, IsListed}
use Rattle.tdb_stored.specs.declared.catalog.Listed.{Listed}

listed_of : ℕ → List ℕ → ℕ → Listed
listed_of number name head = record { number = number; name = name; head = head }

regroup : (number name head rest : List ℕ) → number ++ name ++ head ++ rest ≡ number ++ (name ++ (head ++ rest))
regroup number name head rest = simp append_assoc

pub one_listed : (a b : Listed) (r s : List ℕ) → IsListed a → IsListed b → listed_bytes a ++ r ≡ listed_bytes b ++ s → (a ≡ b) × (r ≡ s)
unfolding listed_of
one_listed a b r s is_a is_b e =
    let behind : Listed → List ℕ → List ℕ = λ l rest. text_bytes l.name ++ (to_be_bytes w32 l.head ++ rest) in
    let grouped : to_be_bytes w32 a.number ++ behind a r ≡ to_be_bytes w32 b.number ++ behind b s =
    sym (regroup (to_be_bytes w32 a.number) (text_bytes a.name) (to_be_bytes w32 a.head) r) ∙ e
    ∙ regroup (to_be_bytes w32 b.number) (text_bytes b.name) (to_be_bytes w32 b.head) s in
    let number = same_u32 a.number b.number (behind a r) (behind b s) is_a.number is_b.number grouped in
    let name = same_text a.name b.name (to_be_bytes w32 a.head ++ r) (to_be_bytes w32 b.head ++ s)
    (omega (arith, is_a.name)) (omega (arith, is_b.name)) number.1 in
    let head = same_u32 a.head b.head r s is_a.head is_b.head name.1 in
    let same : listed_of a.number a.name a.head ≡ listed_of b.number b.name b.head = cc (number.0, name.0, head.0) in
    (same, head.1)
