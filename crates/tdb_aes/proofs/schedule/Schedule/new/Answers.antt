use Rattle.std.proofs.Common.{◌≡◌, ◌-◌, arith}
use Rattle.tdb_aes.specs.KeyExpansion.{bytes_of_first}
use Rattle.tdb_aes.proofs.ScheduleLaws.{bytes_of_first-key}
use Rattle.tdb_aes.proofs.schedule.Schedule.new.Goals as goal

pub invariant_of-result : goal.invariant_of-result
invariant_of-result c =
    let is_key : bytes_of_first c.expanded-encryption.result (c.args.rounds - 6) ≡ c.args.key.now =
    bytes_of_first-key c.args.key.now c.expanded-encryption.result (c.args.rounds - 6) c.requires.key_length
    (λ k. omega (arith, c.type_inv.key k)) c.expanded-encryption.ensures in
    record {
      size = c.requires.rounds;
      forward = rw is_key c.expanded-encryption.ensures;
      backward = c.inverse_words-decryption.ensures;
    }

pub returns : goal.returns
returns c =
    bytes_of_first-key c.args.key.now c.expanded-encryption.result (c.args.rounds - 6) c.requires.key_length
    (λ k. omega (arith, c.type_inv.key k)) c.expanded-encryption.ensures
