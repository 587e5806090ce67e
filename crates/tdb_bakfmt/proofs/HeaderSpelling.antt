-- The bytes of a header are those of one header.
use Rattle.std.proofs.Common.{◌≡◌, ℕ, ◌^◌, ◌<◌, List, length, take, drop, Option, Some, inl, inr, refl, sym, ap, ◌∙◌, arith}
use Rattle.std.specs.Int.{w32, w64, from_be_bytes}
use Rattle.std.proofs.lemmas.Nat.{from_be_bytes-to_be_bytes_4, from_be_bytes-to_be_bytes_8}
use Rattle.tdb_base.specs.declared.suite.Suite.{Suite}
use Rattle.tdb_base.specs.declared.suite.Suite.TheVariants.{Plain, Aes128, Aes256}
use Rattle.tdb_base.specs.SuiteNumber.{suite_number, suite_of_number}
use Rattle.tdb_bakfmt.specs.declared.header.Header.{Header}
use Rattle.tdb_bakfmt.specs.Header.{IsHeader, IsHeaderValue, header_bytes, header_from}

pub length-header_bytes : (h : Header) → length (header_bytes h) ≡ 48
unfolding header_bytes
length-header_bytes h = refl

kind_fits : (h : Header) → IsHeader h → h.kind < 2 ^ 32
kind_fits h is = elim is.base [ inl full ↦ omega (arith, full.0) | inr incremental ↦ omega (arith, incremental.0) ]

base_fits : (h : Header) → IsHeader h → h.base_part < 2 ^ 32
base_fits h is = elim is.base [ inl full ↦ omega (arith, full.1) | inr incremental ↦ omega (arith, incremental.2) ]

suite_fits : (suite : Suite) → suite_number suite < 2 ^ 32
suite_fits Plain = omega arith
suite_fits Aes128 = omega arith
suite_fits Aes256 = omega arith

suite_again : (suite : Suite) → suite_of_number (suite_number suite) ≡ Some suite
suite_again Plain = refl
suite_again Aes128 = refl
suite_again Aes256 = refl

-- the suite that a header's text has
pub suite_at : (h : Header) (bytes : List ℕ) → bytes ≡ header_bytes h → suite_of_number (from_be_bytes w32 (take 4 (drop 12 bytes))) ≡ Some h.suite
unfolding header_bytes
suite_at h bytes spelled =
    ap (λ (l : List ℕ). suite_of_number (from_be_bytes w32 (take 4 (drop 12 l)))) spelled
    ∙ ap suite_of_number (from_be_bytes-to_be_bytes_4 (suite_number h.suite) (suite_fits h.suite)) ∙ suite_again h.suite

header_is : (kind part born base_part base_born : ℕ) (suite : Suite) (h : Header) → kind ≡ h.kind → suite ≡ h.suite → part ≡ h.part → born ≡ h.born → base_part ≡ h.base_part → base_born ≡ h.base_born
    → ◌≡◌ {A = Header} (record { kind = kind; suite = suite; part = part; born = born; base_part = base_part; base_born = base_born }) h
header_is kind part born base_part base_born suite h kind_is suite_is part_is born_is base_part_is base_born_is =
    λ i. let x : Header = record { kind = kind_is i; suite = suite_is i; part = part_is i; born = born_is i; base_part = base_part_is i; base_born = base_born_is i } in x

-- the header that is read where one was written
pub header_again : (h : Header) (bytes : List ℕ) (suite : Suite) → IsHeaderValue h → IsHeader h → bytes ≡ header_bytes h → suite ≡ h.suite → header_from bytes suite ≡ h
unfolding header_bytes
header_again h bytes suite value is spelled same =
    ap (λ (l : List ℕ). header_from l suite) spelled
    ∙ header_is _ _ _ _ _ suite h
    (from_be_bytes-to_be_bytes_4 h.kind (kind_fits h is)) same (from_be_bytes-to_be_bytes_4 h.part (omega (arith, is.part))) (from_be_bytes-to_be_bytes_8 h.born value.born)
    (from_be_bytes-to_be_bytes_4 h.base_part (base_fits h is)) (from_be_bytes-to_be_bytes_8 h.base_born value.base_born)

pub one_header : (one other : Header) → IsHeaderValue one → IsHeader one → IsHeaderValue other → IsHeader other → header_bytes one ≡ header_bytes other → one ≡ other
one_header one other one_value one_is other_value other_is same =
    let suite : one.suite ≡ other.suite = cc (sym (suite_at one (header_bytes one) refl) ∙ suite_at other (header_bytes one) same) in
    sym (header_again one (header_bytes one) one.suite one_value one_is refl refl) ∙ header_again other (header_bytes one) one.suite other_value other_is same suite
