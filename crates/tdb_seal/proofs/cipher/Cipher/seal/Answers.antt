use Rattle.std.proofs.Common.{◌≡◌, ℕ, List, ◌++◌, length, ap, ◌∙◌, append_assoc}
use Rattle.tdb_cbc.specs.Sealed.{sealed}
use Rattle.tdb_seal.specs.InitialVector.{initial_vector}
use Rattle.tdb_seal.specs.SealedRecord.{record_head, ciphered_head, ciphered_record}
use Rattle.tdb_seal.proofs.cipher.Cipher.seal.Goals as goal

pub returns : goal.returns
unfolding ciphered_record
returns c =
    let cipher : List ℕ = c.args.self.now.schedule in
    let key : List ℕ = c.args.self.now.mac in
    let plain : List ℕ = c.args.plain.now in
    let head : List ℕ = c.head_of-head.result in
    let vector : List ℕ = c.vector-vector.result in
    let head_is : head ≡ ciphered_head c.args.name.now (length plain) =
    c.head_of-head.ensures ∙ ap (record_head c.args.name.now (length plain)) c.padded_length-body_length.ensures in
    let vector_is : vector ≡ initial_vector key (ciphered_head c.args.name.now (length plain)) plain =
    c.vector-vector.ensures ∙ ap (λ (h : List ℕ). initial_vector key h plain) head_is in
    c.in_ok-push_sealed.ensures.items
    ∙ ap (λ (s : List ℕ). s ++ sealed cipher vector plain)
    (c.in_ok-extend_from_slice-2.ensures.items
    ∙ ap (λ (s : List ℕ). s ++ vector) (c.in_ok-extend_from_slice.ensures.items ∙ ap (λ (s : List ℕ). s ++ head) c.in_ok-bytes.ensures.items))
    ∙ append_assoc head vector (sealed cipher vector plain)
    ∙ (λ i. head_is i ++ (vector_is i ++ sealed cipher (vector_is i) plain))
