use Rattle.std.proofs.Common.{◌≡◌, ℕ, List, Err, Result, sym, ◌∙◌, ap, subst}
use Rattle.tdb_base.specs.declared.piece.Damage.{Damage}
use Rattle.tdb_mark.specs.CommitText.{commit_key_of, commit_of}
use Rattle.tdb_model.specs.declared.error.ReadError.{ReadError}
use Rattle.tdb_model.specs.declared.error.ReadError.TheVariants as answers
use Rattle.tdb_overlay.specs.Keys.{partition_key}
use Rattle.tdb_overlay.specs.declared.fetching.FetchError.{FetchError}
use Rattle.tdb_seal.specs.SealedRecord.{IsSealedRecord}
use Rattle.tdb_seal.specs.declared.record.SealError.{SealError}
use Rattle.tdb_chunk.specs.Reading.{IsDamageOf, name_of}
use Rattle.tdb_chunk.proofs.Shown.{damage_is, opened_is, read_is}
use Rattle.tdb_chunk.proofs.reading.read_chunk.Goals as goal

the_damage : {T : Type 0} (a b : Damage) → ◌≡◌ {A = Result T ReadError} (Err (answers.Tampered a)) (Err (answers.Tampered b)) → a ≡ b
the_damage a b is = cc

pub returns-in-Err-Tampered-clause-tampered : goal.returns-in-Err-Tampered-clause-tampered
returns-in-Err-Tampered-clause-tampered g c damage is =
    let o = g.P.Platform.outside c.args.platform.now in
    let n = g.P.Platform.outside c.fetch.new.platform in
    let told = c.in-Err-Tampered.ensures.tampered c.in-Err-Tampered.damage (ap (λ (e : FetchError). Err e) c.in-Err-Tampered.field-0-is) in
    let here : IsDamageOf c.args.piece.now o n c.in-Err-Tampered.damage = damage_is c.args.piece.now o n c.in-Err-Tampered.damage told.0 told.1 (λ t. (told.2.0, told.2.3 t, told.2.1, told.2.2)) in
    subst {A = Damage} (IsDamageOf c.args.piece.now o n) (the_damage _ damage is) (subst {A = Damage} (IsDamageOf c.args.piece.now o n) (sym c.in-Err-Tampered.damage-is) here)

pub returns-in-Ok-read_chunk-clause-bytes : goal.returns-in-Ok-read_chunk-clause-bytes
returns-in-Ok-read_chunk-clause-bytes g c tells unforged sealed plain found opened =
    let o = g.P.Platform.outside c.args.platform.now in
    let n = g.P.Platform.outside c.fetch.new.platform in
    let secret : List ℕ = c.args.keys.now in
    let same = read_is o.trace n.trace (commit_of (commit_key_of secret)) c.args.piece.now c.in-Ok.bytes.items sealed unforged (c.in-Ok.ensures.read tells) found c.in-Ok.ensures.digest in
    opened_is (partition_key secret c.args.leader.now.home c.args.leader.now.birth) c.args.leader.now c.args.rank.0 plain c.in-Ok-read_chunk.plain.items c.deref.result.now sealed (c.deref.ensures.value ∙ same) opened
    c.in-Ok-read_chunk.ensures.found

pub returns-in-Ok-read_chunk-clause-once : goal.returns-in-Ok-read_chunk-clause-once
returns-in-Ok-read_chunk-clause-once g c tells = (c.in-Ok.bytes.items, c.in-Ok.ensures.read tells)

pub returns-in-Err-Form-clause-form : goal.returns-in-Err-Form-clause-form
returns-in-Err-Form-clause-form g c tells unforged sealed plain found opened place is =
    let o = g.P.Platform.outside c.args.platform.now in
    let n = g.P.Platform.outside c.fetch.new.platform in
    let secret : List ℕ = c.args.keys.now in
    let same = read_is o.trace n.trace (commit_of (commit_key_of secret)) c.args.piece.now c.in-Ok.bytes.items sealed unforged (c.in-Ok.ensures.read tells) found c.in-Ok.ensures.digest in
    c.in-Err-Form.ensures.form (ap (λ (e : SealError). Err e) c.in-Err-Form.field-0-is) plain
    (subst (λ (bytes : List ℕ). IsSealedRecord (partition_key secret c.args.leader.now.home c.args.leader.now.birth) (name_of c.args.leader.now c.args.rank.0) plain bytes) (sym (c.deref.ensures.value ∙ same)) opened)
