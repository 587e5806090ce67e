use Rattle.std.proofs.Common.{◌≡◌, ◌++◌, ℕ, List, length, replicate, arith, ap, sym, ◌∙◌}
use Rattle.std.proofs.lemmas.Bool.Decides.{Decides-eqb}
use Rattle.std.proofs.lemmas.Slice.Eq.{slice_eq-Decides}
use Rattle.tdb_seal.specs.SealedRecord.{record_head}
use Rattle.tdb_seal.proofs.RecordSpelling.{parts_of, whole, length-plain_record}
use Rattle.tdb_seal.proofs.plain.open_plain.Goals as goal
use Rattle.tdb_seal.proofs.plain.open_plain.Goals.{else-eq-via-then-eq+else-eq-2, else-eq-via-else-eq}

pub returns-then-bytes-clause-none : goal.returns-then-bytes-clause-none
returns-then-bytes-clause-none c plain size spelled =
    omega (arith, ap (λ (l : List ℕ). length l) spelled, length-plain_record c.args.name.now plain)

pub returns-then-plain-gt-PLAIN_LIMIT-clause-none : goal.returns-then-plain-gt-PLAIN_LIMIT-clause-none
returns-then-plain-gt-PLAIN_LIMIT-clause-none c plain size spelled =
    omega (arith, ap (λ (l : List ℕ). length l) spelled, length-plain_record c.args.name.now plain)

pub returns-then-eq-2-clause-some : goal.returns-then-eq-2-clause-some
returns-then-eq-2-clause-some c =
    let plain = c.split_at-2.result.1.now in
    let n : ℕ = length plain in
    let split = whole 32 16 c.args.bytes.now c.split_at.result.0.now c.split_at.result.1.now c.split_at-2.result.0.now plain
    c.split_at.ensures.front c.split_at.ensures.back c.split_at-2.ensures.front c.split_at-2.ensures.back in
    let head : c.split_at.result.0.now ≡ record_head c.args.name.now n n =
    (slice_eq-Decides Decides-eqb _ _ _ c.eq.ensures).0 c.if-eq.true ∙ c.as_slice.ensures ∙ c.head_of-expected.ensures in
    let vector : c.split_at-2.result.0.now ≡ replicate 16 0 =
    (slice_eq-Decides Decides-eqb _ _ _ c.eq-then-eq.ensures).0 c.if-eq-2.true ∙ c.as_slice-then-eq.ensures in (
      omega arith,
      split ∙ ap (λ (l : List ℕ). l ++ (c.split_at-2.result.0.now ++ plain)) head ∙ ap (λ (l : List ℕ). record_head c.args.name.now n n ++ (l ++ plain)) vector,
    )

pub returns-else-eq-clause-none : goal.returns-else-eq-clause-none
returns-else-eq-clause-none c plain size spelled =
    let body = c.split_at-2.result.1.now in
    let split = whole 32 16 c.args.bytes.now c.split_at.result.0.now c.split_at.result.1.now c.split_at-2.result.0.now body
    c.split_at.ensures.front c.split_at.ensures.back c.split_at-2.ensures.front c.split_at-2.ensures.back in
    let parts = parts_of c.args.name.now plain c.args.bytes.now c.split_at.result.0.now c.split_at-2.result.0.now body spelled (omega arith) (omega arith) split in
    let head : c.split_at.result.0.now ≡ c.as_slice.result.now =
    parts.head ∙ ap (λ (n : ℕ). record_head c.args.name.now n n) (ap (λ (l : List ℕ). length l) (sym parts.plain_is)) ∙ sym c.head_of-expected.ensures ∙ sym c.as_slice.ensures in
    elim c.else-eq.branch [
      | else-eq-via-then-eq+else-eq-2 w ↦ absurd (cc ((slice_eq-Decides Decides-eqb _ _ _ w.eq-then-eq.ensures).1 (parts.zeros ∙ sym w.as_slice-then-eq.ensures), w.if-eq-2.false))
      | else-eq-via-else-eq w ↦ absurd (cc ((slice_eq-Decides Decides-eqb _ _ _ c.eq.ensures).1 head, w.if-eq.false))
    ]
