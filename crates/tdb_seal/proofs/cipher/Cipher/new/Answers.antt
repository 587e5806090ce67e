use Rattle.std.specs.Int.{w64, to_be_bytes}
use Rattle.std.proofs.Common.{◌≡◌, ℕ, List, ◌++◌, take, codes, Some, ap, sym, ◌∙◌, arith}
use Rattle.std.proofs.lemmas.List.{take_all}
use Rattle.tdb_base.specs.declared.suite.Suite.{Suite}
use Rattle.tdb_base.specs.declared.suite.Suite.TheVariants.{Aes128, Aes256}
use Rattle.tdb_base.specs.SuiteNumber.{suite_number}
use Rattle.tdb_mac.proofs.HmacLemmas.{length-hmac_of}
use Rattle.tdb_mac.specs.Derive.{derived_key}
use Rattle.tdb_seal.specs.CipherKey.{cipher_key}
use Rattle.tdb_seal.specs.CipherOf.{cipher_of}
use Rattle.tdb_seal.proofs.cipher.Cipher.new.Goals as goal
use Rattle.tdb_seal.proofs.cipher.Cipher.new.Goals.{in-Aes128, in-Aes256}

pub returns : goal.returns
returns c =
    let key : List ℕ = c.args.key.now.0 in
    elim c.match-suite.branch [
      | in-Aes128 w ↦
          let schedule : c.match-suite.schedule ≡ cipher_key Aes128 key =
          w.schedule-is ∙ w.new128-schedule.ensures ∙ w.first_16.ensures
          ∙ ap (take 16) (w.derived.ensures ∙ ap (λ (s : Suite). derived_key key (codes "TDBcrypt") (suite_number s) 0) w.in-Aes128.is) in
          (λ i. Some (record { schedule = schedule i; mac = c.new.ensures i })) ∙ sym (ap (λ (s : Suite). cipher_of s key) w.in-Aes128.is)
      | in-Aes256 w ↦
          let whole : take 32 (derived_key key (codes "TDBcrypt") 2 0) ≡ derived_key key (codes "TDBcrypt") 2 0 =
          take_all 32 (derived_key key (codes "TDBcrypt") 2 0) (omega (arith, length-hmac_of key (codes "TDBcrypt" ++ to_be_bytes w64 2 ++ to_be_bytes w64 0))) in
          let schedule : c.match-suite.schedule ≡ cipher_key Aes256 key =
          w.schedule-is ∙ w.new256-schedule.ensures
          ∙ w.derived-in-Aes256.ensures ∙ ap (λ (s : Suite). derived_key key (codes "TDBcrypt") (suite_number s) 0) w.in-Aes256.is ∙ sym whole in
          (λ i. Some (record { schedule = schedule i; mac = c.new.ensures i })) ∙ sym (ap (λ (s : Suite). cipher_of s key) w.in-Aes256.is)
    ]
