use Rattle.std.proofs.Common.{◌≡◌, ℕ, List, Err, length, ap, sym, subst, ◌∙◌, arith}
use Rattle.std.proofs.lemmas.Bool.Decides.{Decides-eqb}
use Rattle.std.proofs.lemmas.Slice.Eq.{slice_eq-Decides}
use Rattle.tdb_aes.proofs.StateLaws.{IsState}
use Rattle.tdb_cbc.specs.Sealed.{sealed}
use Rattle.tdb_cbc.proofs.CbcLaws.{AreBytes-opens, length-sealed}
use Rattle.tdb_seal.specs.InitialVector.{initial_vector}
use Rattle.tdb_seal.specs.SealedRecord.{ciphered_head, ciphered_length, ciphered_record}
use Rattle.tdb_seal.proofs.RecordSpelling.{IsState-initial_vector, ciphered_from_parts, ciphered_parts_of, length-initial_vector, length-record_head, opened_as, opened_same, same_plain_length}
use Rattle.tdb_seal.proofs.cipher.Cipher.read.Goals as goal
use Rattle.tdb_seal.proofs.cipher.Cipher.read.Goals.{else-len-parts-via-then-len-parts+else-eq, else-len-parts-via-else-len-parts}

pub returns-in_default-clause-form : goal.returns-in_default-clause-form
unfolding ciphered_record
returns-in_default-clause-form c same plain small short spelled =
    let cipher : List ℕ = c.args.self.now.schedule in
    let key : List ℕ = c.args.self.now.mac in
    let head : List ℕ = ciphered_head c.args.name.now (length plain) in
    let vector : List ℕ = initial_vector key head plain in
    c.in_default.ensures.none (length plain) vector (sealed cipher vector plain) short (length-initial_vector key head plain)
    (length-sealed cipher vector plain (IsState-initial_vector key head plain) small) spelled

pub returns-in-Err-Length-clause-form : goal.returns-in-Err-Length-clause-form
returns-in-Err-Length-clause-form c same plain small short spelled =
    let p = c.in-Some.parts in
    let parts = ciphered_parts_of c.args.self.now.schedule c.args.self.now.mac c.args.name.now plain c.args.bytes.now p.head p.vector p.body.now spelled
    (ap (λ (l : List ℕ). length l) c.in-Some.ensures.head ∙ length-record_head c.args.name.now p.plain_length (ciphered_length p.plain_length)) c.in-Some.ensures.vector c.in-Some.ensures.whole in
    let opens = opened_as c.args.self.now.schedule c.args.self.now.mac c.args.name.now plain p.head p.vector p.body.now parts small in
    opens.whole (c.in-Err-Length.ensures.length.0 (ap Err c.in-Err-Length.field-0-is))

pub returns-in-Err-Padding-clause-form : goal.returns-in-Err-Padding-clause-form
returns-in-Err-Padding-clause-form c same plain small short spelled =
    let p = c.in-Some.parts in
    let parts = ciphered_parts_of c.args.self.now.schedule c.args.self.now.mac c.args.name.now plain c.args.bytes.now p.head p.vector p.body.now spelled
    (ap (λ (l : List ℕ). length l) c.in-Some.ensures.head ∙ length-record_head c.args.name.now p.plain_length (ciphered_length p.plain_length)) c.in-Some.ensures.vector c.in-Some.ensures.whole in
    let opens = opened_as c.args.self.now.schedule c.args.self.now.mac c.args.name.now plain p.head p.vector p.body.now parts small in
    (c.in-Err-Padding.ensures.padding.0 (ap Err c.in-Err-Padding.field-0-is)).1 plain opens

pub returns-then-eq-clause-found : goal.returns-then-eq-clause-found
returns-then-eq-clause-found c =
    let p = c.in-Some.parts in
    let plain : List ℕ = c.in-Ok.plain.items in
    let cipher : List ℕ = c.args.self.now.schedule in
    let key : List ℕ = c.args.self.now.mac in
    let long : p.plain_length ≡ length plain = omega arith in
    let head : p.head ≡ ciphered_head c.args.name.now (length plain) = c.in-Some.ensures.head ∙ ap (ciphered_head c.args.name.now) long in
    let equal : c.vector.result ≡ p.vector = (slice_eq-Decides Decides-eqb _ _ _ c.eq.ensures).0 c.if-eq.true in
    let vector : p.vector ≡ initial_vector key (ciphered_head c.args.name.now (length plain)) plain =
    sym equal ∙ c.vector.ensures ∙ (λ i. initial_vector key (head i) (c.as_slice.ensures.value i)) in
    let is : IsState p.vector = subst IsState (sym vector) (IsState-initial_vector key (ciphered_head c.args.name.now (length plain)) plain) in (
      AreBytes-opens cipher p.vector p.body.now plain is c.in-Some.ensures.are_bytes c.in-Ok.ensures.value,
      omega (arith, c.in-Some.ensures.short),
      ciphered_from_parts cipher key c.args.name.now plain c.args.bytes.now p.head p.vector p.body.now (record { head = head; vector_is = vector; body_is = c.in-Ok.ensures.again }) c.in-Some.ensures.whole,
    )

pub returns-else-len-parts-clause-form : goal.returns-else-len-parts-clause-form
returns-else-len-parts-clause-form c same plain small short spelled =
    let p = c.in-Some.parts in
    let cipher : List ℕ = c.args.self.now.schedule in
    let key : List ℕ = c.args.self.now.mac in
    let parts = ciphered_parts_of cipher key c.args.name.now plain c.args.bytes.now p.head p.vector p.body.now spelled
    (ap (λ (l : List ℕ). length l) c.in-Some.ensures.head ∙ length-record_head c.args.name.now p.plain_length (ciphered_length p.plain_length)) c.in-Some.ensures.vector c.in-Some.ensures.whole in
    let given : c.in-Ok.plain.items ≡ plain = opened_same cipher key c.args.name.now plain p.head p.vector p.body.now c.in-Ok.plain.items parts small c.in-Ok.ensures.value in
    let long : p.plain_length ≡ length plain =
    same_plain_length c.args.name.now p.plain_length (ciphered_length p.plain_length) (length plain) (ciphered_length (length plain)) (omega (arith, c.in-Some.ensures.short)) (omega arith)
    (sym c.in-Some.ensures.head ∙ parts.head) in
    elim c.else-len-parts.branch [
      | else-len-parts-via-then-len-parts+else-eq w ↦
          let equal : w.vector.result ≡ p.vector =
          w.vector.ensures ∙ (λ i. initial_vector key (parts.head i) ((w.as_slice.ensures.value ∙ given) i)) ∙ sym parts.vector_is in
          absurd (cc ((slice_eq-Decides Decides-eqb _ _ _ w.eq.ensures).1 equal, w.if-eq.false))
      | else-len-parts-via-else-len-parts w ↦ w.if-len-parts.false (omega (arith, ap (λ (l : List ℕ). length l) given, long))
    ]
