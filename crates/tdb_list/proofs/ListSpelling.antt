-- The bytes of a list are those of one list.
use Rattle.std.proofs.Common.{◌≡◌, ℕ, ◌+◌, ◌*◌, ◌^◌, ◌<◌, List, [], ◌∷◌, ◌++◌, length, refl, sym, subst, ap, ◌∙◌, arith, append_assoc, append-nil, length-append}
use Rattle.std.specs.Prelude.{codes}
use Rattle.std.specs.List.{flat_map, AllByRecursion}
use Rattle.std.specs.Int.{w32, to_be_bytes}
use Rattle.tdb_base.proofs.SameFields.{same_front, same_u32}
use Rattle.tdb_list.specs.declared.entry.Entry.{Entry}
use Rattle.tdb_list.specs.Entry.{entry_bytes, IsEntry, IsEntryValue}
use Rattle.tdb_list.specs.ChangeList.{list_bytes, IsChangeList}
use Rattle.tdb_list.proofs.EntrySpelling.{length-entry_bytes, same_entry}

abbrev pub spelled : List Entry → List ℕ
spelled entries = flat_map entry_bytes entries

pub length-spelled : (entries : List Entry) → AllByRecursion IsEntryValue entries → length (spelled entries) ≡ 72 * length entries
length-spelled [] all = refl
length-spelled (e ∷ es) all = omega (arith, length-append (entry_bytes e) (spelled es), length-entry_bytes e all.0, length-spelled es all.1)

-- an entry outside the grammar stands in no list, whatever stands in front of it
pub is_refused : (done entries : List Entry) (bad : Entry) (behind : List ℕ) → AllByRecursion IsEntryValue done → AllByRecursion IsEntryValue entries
    → AllByRecursion IsEntry entries → IsEntryValue bad → (IsEntry bad → ⊥) → spelled done ++ (entry_bytes bad ++ behind) ≡ spelled entries → ⊥
is_refused [] [] bad behind done_values values each value isnt e =
    omega (arith, ap (λ (l : List ℕ). length l) e, length-append (entry_bytes bad) behind, length-entry_bytes bad value)
is_refused [] (x ∷ xs) bad behind done_values values each value isnt e =
    let same = same_entry bad x behind (spelled xs) value values.0 e in
    isnt (subst IsEntry (sym same.0) each.0)
is_refused (d ∷ ds) [] bad behind done_values values each value isnt e =
    omega (arith, ap (λ (l : List ℕ). length l) (sym (append_assoc (entry_bytes d) (spelled ds) (entry_bytes bad ++ behind)) ∙ e), length-append (entry_bytes d) (spelled ds ++ (entry_bytes bad ++ behind)), length-entry_bytes d done_values.0)
is_refused (d ∷ ds) (x ∷ xs) bad behind done_values values each value isnt e =
    let same = same_entry d x (spelled ds ++ (entry_bytes bad ++ behind)) (spelled xs) done_values.0 values.0 (sym (append_assoc (entry_bytes d) (spelled ds) (entry_bytes bad ++ behind)) ∙ e) in
    is_refused ds xs bad behind done_values.1 values.1 each.1 value isnt same.1

-- what stands at the places of a list's head, where the bytes are a list's
pub record HasHead (entries : List Entry) (front : List ℕ) (number zeros : ℕ) (behind : List ℕ) : Type 0 where
  pub magic : front ≡ codes "TDBLST01"
  pub count : number ≡ length entries
  pub reserved : zeros ≡ 0
  pub rest : behind ≡ spelled entries

pub head_of : (entries : List Entry) (bytes front : List ℕ) (count zeros : ℕ) (rest : List ℕ) → IsChangeList entries bytes → count < 2 ^ 32 → zeros < 2 ^ 32
    → length front ≡ 8 → bytes ≡ front ++ (to_be_bytes w32 count ++ (to_be_bytes w32 zeros ++ rest)) → HasHead entries front count zeros rest
head_of entries bytes front count zeros rest is count_fits zeros_fit long e =
    let n : ℕ = length entries in
    let magic = same_front front (codes "TDBLST01") (to_be_bytes w32 count ++ (to_be_bytes w32 zeros ++ rest)) (to_be_bytes w32 n ++ (to_be_bytes w32 0 ++ spelled entries)) long (sym e ∙ is.spelled) in
    let number = same_u32 count n (to_be_bytes w32 zeros ++ rest) (to_be_bytes w32 0 ++ spelled entries) count_fits (omega (arith, is.list.most)) magic.1 in
    let reserved = same_u32 zeros 0 rest (spelled entries) zeros_fit (omega arith) number.1 in
    record { magic = magic.0; count = number.0; reserved = reserved.0; rest = reserved.1 }

pub length-list_bytes : (entries : List Entry) → AllByRecursion IsEntryValue entries → length (list_bytes entries) ≡ 16 + 72 * length entries
length-list_bytes entries values = omega (arith, length-spelled entries values)

same_spelled : (a b : List Entry) → AllByRecursion IsEntryValue a → AllByRecursion IsEntryValue b → length a ≡ length b → spelled a ≡ spelled b → a ≡ b
same_spelled [] [] a_values b_values same e = refl
same_spelled [] (y ∷ ys) a_values b_values same e = absurd (omega arith)
same_spelled (x ∷ xs) [] a_values b_values same e = absurd (omega arith)
same_spelled (x ∷ xs) (y ∷ ys) a_values b_values same e =
    let first = same_entry x y (spelled xs) (spelled ys) a_values.0 b_values.0 e in
    let rest = same_spelled xs ys a_values.1 b_values.1 (omega arith) first.1 in
    cc (first.0, rest)

-- two lists with one spelling are one
pub same_list : (a b : List Entry) (bytes : List ℕ) → IsChangeList a bytes → IsChangeList b bytes → a ≡ b
same_list a b bytes is_a is_b =
    let n : ℕ = length a in
    let head = head_of b bytes (codes "TDBLST01") n 0 (spelled a) is_b (omega (arith, is_a.list.most)) (omega arith) refl is_a.spelled in
    same_spelled a b is_a.values is_b.values head.count head.rest

-- entries are added at the end
pub push_all : (P : Entry → Type 0) (entries : List Entry) (e : Entry) → AllByRecursion P entries → P e → AllByRecursion P (entries ++ e ∷ [])
push_all P [] e all holds = (holds, tt)
push_all P (x ∷ xs) e all holds = (all.0, push_all P xs e all.1 holds)

pub push_spelled : (done : List Entry) (e : Entry) (rest : List ℕ) → spelled done ++ (entry_bytes e ++ rest) ≡ spelled (done ++ e ∷ []) ++ rest
push_spelled [] e rest = ap (λ (l : List ℕ). l ++ rest) (sym (append-nil (entry_bytes e)))
push_spelled (x ∷ xs) e rest =
    append_assoc (entry_bytes x) (spelled xs) (entry_bytes e ++ rest)
    ∙ ap (λ (l : List ℕ). entry_bytes x ++ l) (push_spelled xs e rest)
    ∙ sym (append_assoc (entry_bytes x) (spelled (xs ++ e ∷ [])) rest)
