-- What the words of a prepared key make of a block.
use Rattle.std.proofs.Common.{◌≡◌, ℕ, ◌-◌, List, inl, inr, ap, sym, ◌∙◌, arith}
use Rattle.tdb_aes.specs.Cipher.{cipher, cipher_with, inverse_cipher, inverse_cipher_with}
use Rattle.tdb_aes.specs.KeyExpansion.{key_schedule, round_count}
use Rattle.tdb_aes.specs.Schedule.{IsExpanded, key_of}
use Rattle.tdb_aes.specs.declared.schedule.Schedule.TheInside.{Inside}
use Rattle.tdb_aes.proofs.CipherLaws.{cipher_with-same, inverse_cipher_with-same}
use Rattle.tdb_aes.proofs.ScheduleLaws.{length-bytes_of_first, round_key-begins}

round_count-key_of : (s : Inside) → IsExpanded s → round_count (key_of s) ≡ s.rounds
round_count-key_of s h =
    let long = length-bytes_of_first s.encryption (s.rounds - 6) in
    elim h.size [
      | inl short ↦ omega arith
      | inr tall ↦ omega arith
    ]

pub cipher-key_of : (s : Inside) (block : List ℕ) → IsExpanded s → cipher_with s.encryption s.rounds block ≡ cipher (key_of s) block
cipher-key_of s block h =
    let count = round_count-key_of s h in
    cipher_with-same s.encryption (key_schedule (key_of s)) s.rounds block (λ k low. round_key-begins (key_of s) s.encryption k h.forward (omega arith))
    ∙ ap (λ (n : ℕ). cipher_with (key_schedule (key_of s)) n block) (sym count)

pub inverse_cipher-key_of : (s : Inside) (block : List ℕ) → IsExpanded s
    → inverse_cipher_with s.encryption s.rounds block ≡ inverse_cipher (key_of s) block
inverse_cipher-key_of s block h =
    let count = round_count-key_of s h in
    inverse_cipher_with-same s.encryption (key_schedule (key_of s)) s.rounds block
    (λ k low. round_key-begins (key_of s) s.encryption k h.forward (omega arith))
    ∙ ap (λ (n : ℕ). inverse_cipher_with (key_schedule (key_of s)) n block) (sym count)
