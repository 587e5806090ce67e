-- The bytes of a node are those of one node.
use Rattle.std.proofs.Common.{◌≡◌, ℕ, zero, suc, ◌+◌, ◌*◌, ◌<◌, ◌≤◌, List, [], ◌∷◌, ◌++◌, length, get_or, take, set, replicate, Option, None, refl, sym, ap, ◌∙◌, arith, append_assoc, append-nil, add-one, length-append}
use Rattle.std.proofs.lemmas.List.{take_all}
use Rattle.tdb_base.specs.declared.piece.Piece.{Piece}
use Rattle.tdb_base.specs.PieceBytes.{entry_bytes}
use Rattle.tdb_base.proofs.SameFields.{same_front}
use Rattle.tdb_base.proofs.FieldLemmas.{length-entry_bytes}
use Rattle.tdb_node.specs.Node.{IsEntry, IsEntryValue, IsNode, empty_node, node_bytes}
use Rattle.tdb_node.proofs.EntrySpelling.{same_entry}

-- each entry of the list is such a one
abbrev pub Each : (Option Piece → Type 0) → List (Option Piece) → Type 0
Each P entries = (k : ℕ) → P (get_or entries k None)

-- what holds of the first entries holds of each of their list
pub each_taken : (P : Option Piece → Type 0) → P None → (n : ℕ) (entries : List (Option Piece)) → ((k : ℕ) → k < n → P (get_or entries k None)) → Each P (take n entries)
each_taken P none zero entries h k = none
each_taken P none (suc n) [] h k = none
each_taken P none (suc n) (e ∷ es) h zero = h 0 (omega arith)
each_taken P none (suc n) (e ∷ es) h (suc k) = each_taken P none n es (λ j below. h (suc j) (omega (arith, below))) k

-- what holds of the first entries holds of each where there are no more
pub each_of : (P : Option Piece → Type 0) → P None → (n : ℕ) (entries : List (Option Piece)) → length entries ≤ n → ((k : ℕ) → k < n → P (get_or entries k None)) → Each P entries
each_of P none n [] few h k = none
each_of P none zero (e ∷ es) few h k = absurd (omega (arith, few))
each_of P none (suc n) (e ∷ es) few h zero = h 0 (omega arith)
each_of P none (suc n) (e ∷ es) few h (suc k) = each_of P none n es (omega (arith, few)) (λ j below. h (suc j) (omega (arith, below))) k

nothing : (rest : List ℕ) → length rest ≡ 0 → rest ≡ []
nothing [] e = refl
nothing (b ∷ bs) e = absurd (omega (arith, e))

pub whole_node : (n : ℕ) (entries : List (Option Piece)) (bytes rest : List ℕ) → length entries ≡ n → length rest ≡ 0 → bytes ≡ node_bytes (take n entries) ++ rest → bytes ≡ node_bytes entries
whole_node n entries bytes rest long none e =
    e ∙ ap (λ (l : List ℕ). node_bytes (take n entries) ++ l) (nothing rest none) ∙ append-nil (node_bytes (take n entries)) ∙ ap (λ (l : List (Option Piece)). node_bytes l) (take_all n entries (omega (arith, long)))

-- an entry more behind those so far
pub spelled_more : (at : ℕ) (entries : List (Option Piece)) (entry : Option Piece) (behind : List ℕ) → at < length entries
    → node_bytes (take (at + 1) (set entries at entry)) ++ behind ≡ node_bytes (take at entries) ++ (entry_bytes entry ++ behind)
spelled_more at [] entry behind inside = absurd (omega (arith, inside))
spelled_more zero (e ∷ es) entry behind inside = ap (λ (l : List ℕ). l ++ behind) (append-nil (entry_bytes entry))
spelled_more (suc at) (e ∷ es) entry behind inside =
    rw (add-one (suc at)) (append_assoc (entry_bytes e) (node_bytes (take (suc at) (set es at entry))) behind
    ∙ ap (λ (l : List ℕ). entry_bytes e ++ l) (ap (λ (n : ℕ). node_bytes (take n (set es at entry)) ++ behind) (let s : suc at ≡ at + 1 = omega arith in s) ∙ spelled_more at es entry behind (omega (arith, inside)))
    ∙ sym (append_assoc (entry_bytes e) (node_bytes (take at es)) (entry_bytes entry ++ behind)))

pub length-node_bytes : (entries : List (Option Piece)) → Each IsEntryValue entries → length (node_bytes entries) ≡ 48 * length entries
length-node_bytes [] values = refl
length-node_bytes (e ∷ es) values =
    omega (arith, length-append (entry_bytes e) (node_bytes es), length-entry_bytes e (values 0), length-node_bytes es (λ k. values (suc k)))

-- bytes that are no entry stand in no node, whatever stands in front of them
pub is_refused : (done entries : List (Option Piece)) (field behind : List ℕ) → Each IsEntryValue done → Each IsEntryValue entries → Each IsEntry entries → length field ≡ 48
    → ((entry : Option Piece) → IsEntryValue entry → IsEntry entry → field ≡ entry_bytes entry → ⊥) → node_bytes done ++ (field ++ behind) ≡ node_bytes entries → ⊥
is_refused [] [] field behind done_values values each long none e =
    omega (arith, ap (λ (l : List ℕ). length l) e, length-append field behind)
is_refused [] (x ∷ xs) field behind done_values values each long none e =
    none x (values 0) (each 0) (same_front field (entry_bytes x) behind (node_bytes xs) (long ∙ sym (length-entry_bytes x (values 0))) e).0
is_refused (d ∷ ds) [] field behind done_values values each long none e =
    omega (arith, ap (λ (l : List ℕ). length l) (sym (append_assoc (entry_bytes d) (node_bytes ds) (field ++ behind)) ∙ e), length-append (entry_bytes d) (node_bytes ds ++ (field ++ behind)), length-entry_bytes d (done_values 0))
is_refused (d ∷ ds) (x ∷ xs) field behind done_values values each long none e =
    let same = same_entry d x (node_bytes ds ++ (field ++ behind)) (node_bytes xs) (done_values 0) (values 0) (sym (append_assoc (entry_bytes d) (node_bytes ds) (field ++ behind)) ∙ e) in
    is_refused ds xs field behind (λ k. done_values (suc k)) (λ k. values (suc k)) (λ k. each (suc k)) long none same.1

pub same_entries : (a b : List (Option Piece)) → Each IsEntryValue a → Each IsEntryValue b → length a ≡ length b → node_bytes a ≡ node_bytes b → a ≡ b
same_entries [] [] a_values b_values same e = refl
same_entries [] (y ∷ ys) a_values b_values same e = absurd (omega arith)
same_entries (x ∷ xs) [] a_values b_values same e = absurd (omega arith)
same_entries (x ∷ xs) (y ∷ ys) a_values b_values same e =
    let first = same_entry x y (node_bytes xs) (node_bytes ys) (a_values 0) (b_values 0) e in
    let rest = same_entries xs ys (λ k. a_values (suc k)) (λ k. b_values (suc k)) (omega arith) first.1 in
    cc (first.0, rest)

-- two nodes with one spelling are one
pub same_node : (a b : List (Option Piece)) (bytes : List ℕ) → IsNode a bytes → IsNode b bytes → a ≡ b
same_node a b bytes is_a is_b =
    same_entries a b is_a.value.each is_b.value.each (is_a.value.count ∙ sym is_b.value.count) (sym is_a.spelled ∙ is_b.spelled)

pub length-node : (entries : List (Option Piece)) (bytes : List ℕ) → IsNode entries bytes → length bytes ≡ 3072
length-node entries bytes is = omega (arith, ap (λ (l : List ℕ). length l) is.spelled, length-node_bytes entries is.value.each, is.value.count)

all_none : (n : ℕ) (entries : List (Option Piece)) → length entries ≡ n → ((k : ℕ) → k < n → get_or entries k None ≡ None) → entries ≡ replicate n None
all_none zero [] long none = refl
all_none zero (e ∷ es) long none = absurd (omega (arith, long))
all_none (suc n) [] long none = absurd (omega (arith, long))
all_none (suc n) (e ∷ es) long none =
    let first : e ≡ None = none 0 (omega arith) in
    let rest = all_none n es (omega (arith, long)) (λ k below. none (suc k) (omega (arith, below))) in
    cc (first, rest)

none_there : (n k : ℕ) → get_or (replicate n (let o : Option Piece = None in o)) k None ≡ None
none_there zero k = refl
none_there (suc n) zero = refl
none_there (suc n) (suc k) = none_there n k

-- a node of which no entry is there
pub is_empty_node : (entries : List (Option Piece)) → length entries ≡ 64 → ((k : ℕ) → k < 64 → get_or entries k None ≡ None) → entries ≡ empty_node
unfolding empty_node
is_empty_node entries long none = all_none 64 entries long none

pub empty_node_at : (k : ℕ) → get_or empty_node k None ≡ None
unfolding empty_node
empty_node_at k = none_there 64 k

pub length-empty_node : length empty_node ≡ 64
unfolding empty_node
length-empty_node = refl
