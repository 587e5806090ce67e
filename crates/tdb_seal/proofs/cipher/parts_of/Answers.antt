use Rattle.std.proofs.Common.{◌≡◌, ◌++◌, ℕ, List, length, take, drop, ap, sym, subst, ◌∙◌, length-append, arith}
use Rattle.std.specs.Int.{w32, from_be_bytes}
use Rattle.std.proofs.lemmas.Bool.Decides.{Decides-eqb}
use Rattle.std.proofs.lemmas.List.{take_all}
use Rattle.std.proofs.lemmas.Slice.Eq.{slice_eq-Decides}
use Rattle.tdb_cbc.proofs.BlockLaws.{AreBytes-drop}
use Rattle.tdb_seal.specs.SealedRecord.{AreBytes, record_head, ciphered_head, ciphered_length}
use Rattle.tdb_seal.proofs.RecordSpelling.{head_of_bytes, length-record_head, plain_length-at, whole}
use Rattle.tdb_seal.proofs.cipher.parts_of.Goals as goal
use Rattle.tdb_seal.proofs.cipher.parts_of.Goals.{then-plain_length-gt-PLAIN_LIMIT-via-then-plain_length-gt-PLAIN_LIMIT, then-plain_length-gt-PLAIN_LIMIT-via-else-plain_length-gt-PLAIN_LIMIT+then-body-padded_length}

pub returns-then-bytes-clause-none : goal.returns-then-bytes-clause-none
returns-then-bytes-clause-none c n vector body short vector_long body_long spelled =
    omega (arith, ap (λ (l : List ℕ). length l) spelled, length-append (ciphered_head c.args.name.now n) (vector ++ body), length-append vector body, length-record_head c.args.name.now n (ciphered_length n))

pub returns-then-plain_length-gt-PLAIN_LIMIT-clause-none : goal.returns-then-plain_length-gt-PLAIN_LIMIT-clause-none
returns-then-plain_length-gt-PLAIN_LIMIT-clause-none c n vector body short vector_long body_long spelled =
    let front : List ℕ = c.split_at.result.0.now in
    let rest : List ℕ = c.split_at.result.1.now in
    let parts = head_of_bytes c.args.name.now n c.args.bytes.now front rest vector body (omega arith) vector_long c.split_at.ensures.front c.split_at.ensures.back spelled in
    let said : c.u32_at-plain_length.result ≡ n =
    c.u32_at-plain_length.ensures ∙ ap (λ (l : List ℕ). from_be_bytes w32 (take 4 (drop 24 l))) parts.head ∙ plain_length-at c.args.name.now n (ciphered_length n) (omega arith) in
    elim c.then-plain_length-gt-PLAIN_LIMIT.branch [
      | then-plain_length-gt-PLAIN_LIMIT-via-then-plain_length-gt-PLAIN_LIMIT w ↦ omega (arith, w.if-plain_length-gt-PLAIN_LIMIT.true, said)
      | then-plain_length-gt-PLAIN_LIMIT-via-else-plain_length-gt-PLAIN_LIMIT+then-body-padded_length w ↦
          w.if-body-padded_length.true (ap (λ (l : List ℕ). length l) (c.split_at-2.ensures.back ∙ parts.body_is) ∙ body_long ∙ sym (w.padded_length.ensures ∙ ap ciphered_length said))
    ]

pub returns-then-eq-clause-head : goal.returns-then-eq-clause-head
returns-then-eq-clause-head c = c.head_of-head.ensures ∙ ap (record_head c.args.name.now c.u32_at-plain_length.result) (omega (arith, c.padded_length.ensures))

pub returns-then-eq-clause-body : goal.returns-then-eq-clause-body
returns-then-eq-clause-body c = omega (arith, c.padded_length.ensures)

pub returns-then-eq-clause-are_bytes : goal.returns-then-eq-clause-are_bytes
returns-then-eq-clause-are_bytes c =
    subst AreBytes (sym (c.split_at-2.ensures.back ∙ ap (drop 16) c.split_at.ensures.back))
    (AreBytes-drop 16 (drop 32 c.args.bytes.now) (AreBytes-drop 32 c.args.bytes.now (λ k. omega (arith, c.type_inv.bytes k))))

pub returns-then-eq-clause-whole : goal.returns-then-eq-clause-whole
returns-then-eq-clause-whole c =
    let front : List ℕ = c.split_at.result.0.now in
    let initial : List ℕ = c.split_at-2.result.0.now in
    let body : List ℕ = c.split_at-2.result.1.now in
    let head : front ≡ c.head_of-head.result = (slice_eq-Decides Decides-eqb _ _ _ c.eq.ensures).0 c.if-eq.true ∙ c.as_slice.ensures in
    let vector : initial ≡ c.first_16.result = sym (take_all 16 initial (omega arith)) ∙ sym c.first_16.ensures in
    whole 32 16 c.args.bytes.now front c.split_at.result.1.now initial body c.split_at.ensures.front c.split_at.ensures.back c.split_at-2.ensures.front c.split_at-2.ensures.back
    ∙ (λ i. head i ++ (vector i ++ body))

pub returns-else-eq-clause-none : goal.returns-else-eq-clause-none
returns-else-eq-clause-none c n vector body short vector_long body_long spelled =
    let front : List ℕ = c.split_at.result.0.now in
    let rest : List ℕ = c.split_at.result.1.now in
    let parts = head_of_bytes c.args.name.now n c.args.bytes.now front rest vector body (omega arith) vector_long c.split_at.ensures.front c.split_at.ensures.back spelled in
    let said : c.u32_at-plain_length.result ≡ n =
    c.u32_at-plain_length.ensures ∙ ap (λ (l : List ℕ). from_be_bytes w32 (take 4 (drop 24 l))) parts.head ∙ plain_length-at c.args.name.now n (ciphered_length n) (omega arith) in
    let long : length c.split_at-2.result.1.now ≡ ciphered_length n = ap (λ (l : List ℕ). length l) (c.split_at-2.ensures.back ∙ parts.body_is) ∙ body_long in
    let head : front ≡ c.as_slice.result.now =
    parts.head ∙ (λ i. record_head c.args.name.now (sym said i) (sym long i)) ∙ sym c.head_of-head.ensures ∙ sym c.as_slice.ensures in
    absurd (cc ((slice_eq-Decides Decides-eqb _ _ _ c.eq.ensures).1 head, c.if-eq.false))
