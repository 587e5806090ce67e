-- The bytes of a leader are those of one leader.
use Rattle.std.proofs.Common.{◌≡◌, ℕ, ◌^◌, ◌<◌, List, ◌++◌, length, Option, Some, refl, sym, ap, ◌∙◌, arith, lit<}
use Rattle.std.specs.Prelude.{codes}
use Rattle.std.specs.Int.{w32, w64, to_be_bytes}
use Rattle.tdb_base.specs.declared.piece.Piece.{Piece}
use Rattle.tdb_base.specs.declared.suite.Suite.{Suite}
use Rattle.tdb_base.specs.declared.suite.Suite.TheVariants.{Plain, Aes128, Aes256}
use Rattle.tdb_base.specs.SuiteNumber.{suite_number, suite_of_number}
use Rattle.tdb_base.specs.PieceBytes.{entry_bytes}
use Rattle.tdb_base.proofs.SameFields.{same_front, same_u32, same_u64}
use Rattle.tdb_base.proofs.FieldLemmas.{length-entry_bytes}
use Rattle.tdb_node.specs.declared.leader.Leader.{Leader}
use Rattle.tdb_node.specs.Leader.{leader_bytes, IsLeaderValue, IsLeader}
use Rattle.tdb_node.proofs.EntrySpelling.{same_entry_bytes}

pub suite_small : (s : Suite) → suite_number s < 3
suite_small Plain = lit< tt
suite_small Aes128 = lit< tt
suite_small Aes256 = lit< tt

suite_again : (s : Suite) → suite_of_number (suite_number s) ≡ Some s
suite_again Plain = refl
suite_again Aes128 = refl
suite_again Aes256 = refl

pub same_suite : (s t : Suite) → suite_number s ≡ suite_number t → s ≡ t
same_suite s t e = let same : Some s ≡ Some t = sym (suite_again s) ∙ ap (λ (n : ℕ). suite_of_number n) e ∙ suite_again t in cc same

pub length-leader_bytes : (l : Leader) → IsLeaderValue l → length (leader_bytes l) ≡ 88
length-leader_bytes l is = omega (arith, length-entry_bytes l.root is.root)

-- what stands at the places of a leader's fields, where the bytes are a leader's
pub record HasFields (l : Leader) (front : List ℕ) (suite home birth next parent born : ℕ) (field : List ℕ) : Type 0 where
  pub magic : front ≡ codes "TDBLDR01"
  pub suite_is : suite ≡ suite_number l.suite
  pub home_is : home ≡ l.home
  pub birth_is : birth ≡ l.birth
  pub next_is : next ≡ l.next
  pub parent_is : parent ≡ l.parent
  pub born_is : born ≡ l.born
  pub root_is : field ≡ entry_bytes l.root

pub fields_of : (l : Leader) (bytes front : List ℕ) (suite home birth next parent born : ℕ) (field : List ℕ) → IsLeader l bytes → length front ≡ 8
    → suite < 2 ^ 32 → home < 2 ^ 32 → birth < 2 ^ 64 → next < 2 ^ 32 → parent < 2 ^ 32 → born < 2 ^ 64
    → bytes ≡ front ++ (to_be_bytes w32 suite ++ (to_be_bytes w32 home ++ (to_be_bytes w64 birth ++ (to_be_bytes w32 next ++ (to_be_bytes w32 parent ++ (to_be_bytes w64 born ++ field))))))
    → HasFields l front suite home birth next parent born field
fields_of l bytes front suite home birth next parent born field is long suite_fits home_fits birth_fits next_fits parent_fits born_fits e =
    let tail5 = to_be_bytes w64 l.born ++ entry_bytes l.root in
    let tail4 = to_be_bytes w32 l.parent ++ tail5 in
    let tail3 = to_be_bytes w32 l.next ++ tail4 in
    let tail2 = to_be_bytes w64 l.birth ++ tail3 in
    let tail1 = to_be_bytes w32 l.home ++ tail2 in
    let rest5 = to_be_bytes w64 born ++ field in
    let rest4 = to_be_bytes w32 parent ++ rest5 in
    let rest3 = to_be_bytes w32 next ++ rest4 in
    let rest2 = to_be_bytes w64 birth ++ rest3 in
    let rest1 = to_be_bytes w32 home ++ rest2 in
    let a = same_front front (codes "TDBLDR01") (to_be_bytes w32 suite ++ rest1) (to_be_bytes w32 (suite_number l.suite) ++ tail1) long (sym e ∙ is.spelled) in
    let b = same_u32 suite (suite_number l.suite) rest1 tail1 suite_fits (omega (arith, suite_small l.suite)) a.1 in
    let c = same_u32 home l.home rest2 tail2 home_fits is.value.home b.1 in
    let d = same_u64 birth l.birth rest3 tail3 birth_fits is.value.birth c.1 in
    let f = same_u32 next l.next rest4 tail4 next_fits is.value.next d.1 in
    let g = same_u32 parent l.parent rest5 tail5 parent_fits is.value.parent f.1 in
    let h = same_u64 born l.born field (entry_bytes l.root) born_fits is.value.born g.1 in
    record { magic = a.0; suite_is = b.0; home_is = c.0; birth_is = d.0; next_is = f.0; parent_is = g.0; born_is = h.0; root_is = h.1 }

leader_of : (suite : Suite) (home birth next parent born : ℕ) (root : Option Piece) → Leader
leader_of suite home birth next parent born root =
    record { suite = suite; home = home; birth = birth; next = next; parent = parent; born = born; root = root }

leader_of-fields : (l : Leader) → leader_of l.suite l.home l.birth l.next l.parent l.born l.root ≡ l
unfolding leader_of
leader_of-fields l = refl

-- leaders with the same fields are one
pub from_fields : (a b : Leader) → a.suite ≡ b.suite → a.home ≡ b.home → a.birth ≡ b.birth → a.next ≡ b.next → a.parent ≡ b.parent → a.born ≡ b.born → a.root ≡ b.root → a ≡ b
from_fields a b suite home birth next parent born root = cc (leader_of-fields a, leader_of-fields b)

-- two leaders with one spelling are one
pub same_leader : (a b : Leader) (bytes : List ℕ) → IsLeader a bytes → IsLeader b bytes → a ≡ b
same_leader a b bytes is_a is_b =
    let f = fields_of b bytes (codes "TDBLDR01") (suite_number a.suite) a.home a.birth a.next a.parent a.born (entry_bytes a.root) is_b refl (omega (arith, suite_small a.suite))
    is_a.value.home is_a.value.birth is_a.value.next is_a.value.parent is_a.value.born is_a.spelled in
    from_fields a b (same_suite a.suite b.suite f.suite_is) f.home_is f.birth_is f.next_is f.parent_is f.born_is (same_entry_bytes a.root b.root is_a.value.root is_b.value.root f.root_is)
