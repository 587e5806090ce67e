-- The bytes of a table are those of one table.
use Rattle.std.proofs.Common.{◌≡◌, ℕ, suc, ◌*◌, ◌^◌, ◌<◌, List, [], ◌∷◌, ◌++◌, length, get_or, replicate, inl, inr, refl, sym, ap, ◌∙◌, arith}
use Rattle.std.specs.Prelude.{codes}
use Rattle.std.specs.List.{flat_map}
use Rattle.std.specs.Int.{w32, w64, to_be_bytes}
use Rattle.std.proofs.lemmas.Bool.{cases_lt}
use Rattle.std.proofs.lemmas.List.{get_or-replicate, get_or_past, length-replicate}
use Rattle.tdb_base.proofs.SameFields.{same_front, same_u32, same_u64}
use Rattle.tdb_node.specs.declared.table.Table.{Table}
use Rattle.tdb_node.specs.SegmentTable.{table_bytes, IsTableValue, IsSegmentTable}

abbrev words : List ℕ → List ℕ
words ns = flat_map (to_be_bytes w64) ns

length-words : (ns : List ℕ) → length (words ns) ≡ 8 * length ns
length-words [] = refl
length-words (n ∷ ns) = omega (arith, length-words ns)

pub same_words : (ns ms : List ℕ) → length ns ≡ length ms → ((k : ℕ) → get_or ns k 0 < 2 ^ 64) → ((k : ℕ) → get_or ms k 0 < 2 ^ 64) → words ns ≡ words ms → ns ≡ ms
same_words [] [] same ns_fit ms_fit e = refl
same_words [] (m ∷ ms) same ns_fit ms_fit e = absurd (omega arith)
same_words (n ∷ ns) [] same ns_fit ms_fit e = absurd (omega arith)
same_words (n ∷ ns) (m ∷ ms) same ns_fit ms_fit e =
    let parts = same_u64 n m (words ns) (words ms) (ns_fit 0) (ms_fit 0) e in
    let rest = same_words ns ms (omega arith) (λ k. ns_fit (suc k)) (λ k. ms_fit (suc k)) parts.1 in
    ap (λ (x : ℕ). x ∷ ns) parts.0 ∙ ap (λ (xs : List ℕ). m ∷ xs) rest

pub length-table_bytes : (t : Table) → IsTableValue t → length (table_bytes t) ≡ 528
length-table_bytes t is = omega (arith, length-words t.used, is.words)

-- what stands at the places of a table's fields, where the bytes are a table's
pub record HasFields (t : Table) (front : List ℕ) (segments zeros : ℕ) (used : List ℕ) : Type 0 where
  pub magic : front ≡ codes "TDBSEG01"
  pub reserved : zeros ≡ 0
  pub table : ◌≡◌ {A = Table} (record { segments = segments; used = used }) t

pub fields_of : (t : Table) (bytes magic : List ℕ) (segments reserved : ℕ) (used : List ℕ) → IsSegmentTable t bytes
    → segments < 2 ^ 32 → reserved < 2 ^ 32 → length used ≡ 64 → ((k : ℕ) → get_or used k 0 < 2 ^ 64) → length magic ≡ 8
    → bytes ≡ magic ++ (to_be_bytes w32 segments ++ (to_be_bytes w32 reserved ++ words used)) → HasFields t magic segments reserved used
fields_of t bytes magic segments reserved used is segments_fit reserved_fit count fit long e =
    let first = same_front magic (codes "TDBSEG01") (to_be_bytes w32 segments ++ (to_be_bytes w32 reserved ++ words used)) (to_be_bytes w32 t.segments ++ (to_be_bytes w32 0 ++ words t.used)) long (sym e ∙ is.spelled) in
    let second = same_u32 segments t.segments (to_be_bytes w32 reserved ++ words used) (to_be_bytes w32 0 ++ words t.used) segments_fit (omega (arith, is.table.most)) first.1 in
    let third = same_u32 reserved 0 (words used) (words t.used) reserved_fit (omega arith) second.1 in
    let last = same_words used t.used (omega (arith, count, is.value.words)) fit is.value.word third.1 in
    record {
      magic = first.0;
      reserved = third.0;
      table = ap (λ (n : ℕ). let u : Table = record { segments = n; used = used } in u) second.0 ∙ ap (λ (ns : List ℕ). let u : Table = record { segments = t.segments; used = ns } in u) last;
    }

-- two tables with one spelling are one
pub same_table : (t u : Table) (bytes : List ℕ) → IsSegmentTable t bytes → IsSegmentTable u bytes → t ≡ u
same_table t u bytes a b =
    (fields_of u bytes (codes "TDBSEG01") t.segments 0 t.used b (omega (arith, a.table.most)) (omega arith) a.value.words a.value.word refl a.spelled).table

pub zeros_fit : (n k : ℕ) → get_or (replicate n 0) k 0 < 2 ^ 64
zeros_fit n k = elim (cases_lt k n) [
  | inl lt ↦ rw (get_or-replicate {A = ℕ} n k 0 0 lt) (omega arith)
  | inr le ↦ rw (get_or_past {X = ℕ} (replicate n 0) k 0 (omega (arith, length-replicate {A = ℕ} n 0))) (omega arith)
]
