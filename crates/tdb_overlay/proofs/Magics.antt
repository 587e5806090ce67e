-- The first eight bytes tell a sealed record from a text.
use Rattle.std.proofs.Common.{◌≡◌, ℕ, List, take, get_or, codes, refl, sym, ◌∙◌, ap, arith}
use Rattle.tdb_base.specs.declared.suite.Suite.{Suite}
use Rattle.tdb_base.specs.declared.suite.Suite.TheVariants.{Plain, Aes128, Aes256}
use Rattle.tdb_mark.specs.declared.commit.Commit.{Commit}
use Rattle.tdb_mark.specs.CommitText.{commit_fields, commit_key_of, commit_text}
use Rattle.tdb_mark.proofs.TextLemmas.{commit_of_is}
use Rattle.tdb_seal.specs.declared.record.Name.{Name}
use Rattle.tdb_seal.specs.SealedRecord.{IsSealedRecord, ciphered_record, record_head, sealed_under}
use Rattle.tdb_overlay.specs.WellFormedLog.{IsAccepted}

record_magic : (suite : Suite) (key : List ℕ) (name : Name) (plain : List ℕ) → take 8 (sealed_under suite key name plain) ≡ codes "TDBREC01"
unfolding record_head ciphered_record
record_magic Plain key name plain = refl
record_magic Aes128 key name plain = refl
record_magic Aes256 key name plain = refl

text_magic : (key : List ℕ) (c : Commit) → take 8 (commit_text key c) ≡ codes "TDBCMT01"
unfolding commit_fields
text_magic key c = refl

-- A sealed record, under whatever key, is no text.
pub sealed_is_no_text : (secret bytes key plain : List ℕ) (name : Name) (c : Commit) → IsSealedRecord key name plain bytes
    → IsAccepted secret bytes c → ⊥
sealed_is_no_text secret bytes key plain name c sealed accepted =
    let spelled : bytes ≡ commit_text (commit_key_of secret) c = (commit_of_is (commit_key_of secret) bytes c accepted).spelled in
    let of_record : take 8 bytes ≡ codes "TDBREC01" = ap (take 8) sealed.spelled ∙ record_magic name.suite key name plain in
    let of_text : take 8 bytes ≡ codes "TDBCMT01" = ap (take 8) spelled ∙ text_magic (commit_key_of secret) c in
    let third : 82 ≡ 67 = ap (λ (l : List ℕ). get_or l 3 0) (sym of_record ∙ of_text) in
    absurd (omega (arith, third))
