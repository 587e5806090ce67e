-- The bytes of an item are those of one item.
use Rattle.std.proofs.Common.{◌≡◌, ◌⊎◌, ℕ, ◌+◌, ◌^◌, ◌<◌, ◌≤◌, List, [], ◌++◌, length, drop, Option, Some, None, inl, inr, refl, sym, ap, subst, ◌∙◌, arith}
use Rattle.std.specs.Int.{w32, to_be_bytes}
use Rattle.tdb_base.specs.declared.suite.Suite.{Suite}
use Rattle.tdb_base.specs.declared.suite.Suite.TheVariants.{Plain, Aes128, Aes256}
use Rattle.tdb_base.proofs.SameFields.{same_u32}
use Rattle.tdb_seal.specs.SealedRecord.{IsSealedRecord, body_length}
use Rattle.tdb_seal.proofs.RecordSpelling.{length-sealed_record, same_plain}
use Rattle.tdb_bakfmt.specs.declared.header.Header.{Header}
use Rattle.tdb_bakfmt.specs.declared.header.TheConstants.{INCREMENTAL}
use Rattle.tdb_bakfmt.specs.declared.item.Item.{Item}
use Rattle.tdb_bakfmt.specs.Item.{IsAbsence, IsContent, IsItemText, IsKept, item_head, item_name}

body_short : (suite : Suite) (n : ℕ) → body_length suite n ≤ n + 16
body_short Plain n = omega arith
body_short Aes128 n = omega arith
body_short Aes256 n = omega arith

-- the length of an item's record fits four bytes
pub record_fits : (header : Header) (key : List ℕ) (rank : ℕ) (plain sealed : List ℕ) → length plain ≤ 65536 → IsSealedRecord key (item_name header rank) plain sealed → length sealed < 2 ^ 32
record_fits header key rank plain sealed short opened =
    omega (arith, length-sealed_record key (item_name header rank) plain sealed opened, body_short header.suite (length plain))

-- what stands behind the rank of an item with bytes
pub behind_rank : (header : Header) (key : List ℕ) (rank : ℕ) (plain rest : List ℕ) (kept : IsKept header key rank plain (item_head 1 rank ++ rest)) → rest ≡ to_be_bytes w32 (length kept.sealed) ++ kept.sealed
behind_rank header key rank plain rest kept = ap (drop 8) kept.spelled

-- the record of an item, by what stands behind the rank
pub record HasRecord (header : Header) (key : List ℕ) (rank : ℕ) (plain : List ℕ) (long : ℕ) (sealed : List ℕ) : Type 0 where
  pub long_is : long ≡ length sealed
  pub short : length plain ≤ 65536
  pub opened : IsSealedRecord key (item_name header rank) plain sealed

pub record_behind : (header : Header) (key : List ℕ) (rank : ℕ) (plain rest : List ℕ) (long : ℕ) (sealed : List ℕ) → IsKept header key rank plain (item_head 1 rank ++ rest) → long < 2 ^ 32 → rest ≡ to_be_bytes w32 long ++ sealed
    → HasRecord header key rank plain long sealed
record_behind header key rank plain rest long sealed kept fits is =
    let both = same_u32 long (length kept.sealed) sealed kept.sealed fits (record_fits header key rank plain kept.sealed kept.short kept.opened) (sym is ∙ behind_rank header key rank plain rest kept) in
    record {
      long_is = both.0 ∙ ap (λ (l : List ℕ). length l) (sym both.1);
      short = kept.short;
      opened = subst (λ (l : List ℕ). IsSealedRecord key (item_name header rank) plain l) (sym both.1) kept.opened;
    }

-- the fields of an item, by what its bytes begin with
pub record HasKept (header : Header) (key : List ℕ) (item : Item) (kind rank : ℕ) (rest : List ℕ) : Type 0 where
  pub kind_is : kind ≡ 1
  pub rank_is : rank ≡ item.rank
  pub plain : List ℕ
  pub bytes_are : item.bytes ≡ Some plain
  pub kept : IsKept header key rank plain (item_head 1 rank ++ rest)

pub record HasAbsence (header : Header) (item : Item) (kind rank : ℕ) (rest : List ℕ) : Type 0 where
  pub kind_is : kind ≡ 2
  pub rank_is : rank ≡ item.rank
  pub bytes_are : item.bytes ≡ None
  pub incremental : header.kind ≡ INCREMENTAL
  pub rest_is : rest ≡ []

content_fields : (header : Header) (key : List ℕ) (item : Item) (bytes : Option (List ℕ)) (text : List ℕ) (kind rank : ℕ) (rest : List ℕ) → item.bytes ≡ bytes → item.rank < 262144 → IsContent header key item.rank bytes text
    → kind < 2 ^ 32 → rank < 2 ^ 32 → text ≡ to_be_bytes w32 kind ++ (to_be_bytes w32 rank ++ rest) → HasKept header key item kind rank rest ⊎ HasAbsence header item kind rank rest
content_fields header key item (Some plain) text kind rank rest bytes_are short content kind_fits rank_fits is =
    let first = same_u32 kind 1 (to_be_bytes w32 rank ++ rest) (to_be_bytes w32 item.rank ++ (to_be_bytes w32 (length content.sealed) ++ content.sealed)) kind_fits (omega arith) (sym is ∙ content.spelled) in
    let second = same_u32 rank item.rank rest (to_be_bytes w32 (length content.sealed) ++ content.sealed) rank_fits (omega arith) first.1 in
    inl (record {
      kind_is = first.0;
      rank_is = second.0;
      plain = plain;
      bytes_are = bytes_are;
      kept = record {
        short = content.short;
        sealed = content.sealed;
        opened = subst (λ (n : ℕ). IsSealedRecord key (item_name header n) plain content.sealed) (sym second.0) content.opened;
        spelled = ap (λ (l : List ℕ). item_head 1 rank ++ l) second.1;
      };
    })
content_fields header key item None text kind rank rest bytes_are short content kind_fits rank_fits is =
    let first = same_u32 kind 2 (to_be_bytes w32 rank ++ rest) (to_be_bytes w32 item.rank ++ []) kind_fits (omega arith) (sym is ∙ content.spelled) in
    let second = same_u32 rank item.rank rest [] rank_fits (omega arith) first.1 in
    inr (record { kind_is = first.0; rank_is = second.0; bytes_are = bytes_are; incremental = content.kind; rest_is = second.1 })

pub item_fields : (header : Header) (key : List ℕ) (item : Item) (text : List ℕ) (kind rank : ℕ) (rest : List ℕ) → IsItemText header key item text → kind < 2 ^ 32 → rank < 2 ^ 32
    → text ≡ to_be_bytes w32 kind ++ (to_be_bytes w32 rank ++ rest) → HasKept header key item kind rank rest ⊎ HasAbsence header item kind rank rest
item_fields header key item text kind rank rest is kind_fits rank_fits spelled = content_fields header key item item.bytes text kind rank rest refl is.rank is.content kind_fits rank_fits spelled

-- an item has eight bytes at least
content_long : (header : Header) (key : List ℕ) (rank : ℕ) (bytes : Option (List ℕ)) (text : List ℕ) → IsContent header key rank bytes text → 8 ≤ length text
content_long header key rank (Some plain) text content = omega (arith, ap (λ (l : List ℕ). length l) content.spelled)
content_long header key rank None text content = omega (arith, ap (λ (l : List ℕ). length l) content.spelled)

pub item_long : (header : Header) (key : List ℕ) (item : Item) (text : List ℕ) → IsItemText header key item text → 8 ≤ length text
item_long header key item text is = content_long header key item.rank item.bytes text is.content

-- ---- one spelling

same_texts : (header : Header) (key : List ℕ) (rank : ℕ) (bytes : Option (List ℕ)) (one other : List ℕ) → IsContent header key rank bytes one → IsContent header key rank bytes other → one ≡ other
same_texts header key rank (Some plain) one other a b =
    let sealed : a.sealed ≡ b.sealed = a.opened.spelled ∙ sym b.opened.spelled in
    a.spelled ∙ ap (λ (l : List ℕ). item_head 1 rank ++ (to_be_bytes w32 (length l) ++ l)) sealed ∙ sym b.spelled
same_texts header key rank None one other a b = a.spelled ∙ sym b.spelled

pub one_text : (header : Header) (key : List ℕ) (item : Item) (one other : List ℕ) → IsItemText header key item one → IsItemText header key item other → one ≡ other
one_text header key item one other a b = same_texts header key item.rank item.bytes one other a.content b.content

item_is : (one other : Item) → one.rank ≡ other.rank → one.bytes ≡ other.bytes → one ≡ other
item_is one other rank bytes = λ i. let x : Item = record { rank = rank i; bytes = bytes i } in x

-- what a text begins with, where it is an item
begins : (header : Header) (key : List ℕ) (one : Item) (other : Item) (bytes : Option (List ℕ)) (text : List ℕ) → one.bytes ≡ bytes → one.rank < 262144 → IsContent header key one.rank bytes text → IsItemText header key other text → one ≡ other
begins header key one other (Some plain) text bytes_are short content is =
    elim (item_fields header key other text 1 one.rank (to_be_bytes w32 (length content.sealed) ++ content.sealed) is (omega arith) (omega arith) content.spelled) [
      | inl h ↦
          let has = record_behind header key one.rank h.plain (to_be_bytes w32 (length content.sealed) ++ content.sealed) (length content.sealed) content.sealed h.kept
          (record_fits header key one.rank plain content.sealed content.short content.opened) refl in
          let plains : plain ≡ h.plain = same_plain key (item_name header one.rank) plain h.plain content.sealed content.opened has.opened in
          item_is one other h.rank_is (bytes_are ∙ ap Some plains ∙ sym h.bytes_are)
      | inr h ↦ absurd (omega (arith, h.kind_is))
    ]
begins header key one other None text bytes_are short content is =
    elim (item_fields header key other text 2 one.rank [] is (omega arith) (omega arith) content.spelled) [
      | inl h ↦ absurd (omega (arith, h.kind_is))
      | inr h ↦ item_is one other h.rank_is (bytes_are ∙ sym h.bytes_are)
    ]

pub one_item : (header : Header) (key : List ℕ) (one other : Item) (text : List ℕ) → IsItemText header key one text → IsItemText header key other text → one ≡ other
one_item header key one other text a b = begins header key one other one.bytes text refl a.rank a.content b
