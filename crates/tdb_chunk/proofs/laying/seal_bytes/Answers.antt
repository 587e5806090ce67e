use Rattle.std.proofs.Common.{◌≤◌, inl, inr, List, ℕ, length, refl, sym, subst}
use Rattle.std.proofs.lemmas.Result.{IfOk-weaker}
use Rattle.tdb_overlay.specs.Keys.{partition_key}
use Rattle.tdb_overlay.proofs.Lengths.{sealed_length}
use Rattle.tdb_chunk.specs.Laying.{name_in}
use Rattle.tdb_chunk.proofs.Entries.{record_least, record_most}
use Rattle.tdb_overlay.proofs.Sealing.{sealed_as}
use Rattle.tdb_chunk.proofs.laying.seal_bytes.Goals as goal

pub returns-clause-sealed : goal.returns-clause-sealed
returns-clause-sealed c =
    let owner = c.args.owner.now in
    let key : List ℕ = partition_key c.args.keys.now owner.home owner.birth in
    IfOk-weaker c.seal_chunk.result _ _
    (λ bytes sealed. sealed_as key (name_in owner c.args.rank.0) c.args.chunk.now c.as_slice.result.now bytes.items c.as_slice.ensures sealed)
    c.seal_chunk.ensures.sealed

pub returns-clause-is_record : goal.returns-clause-is_record
returns-clause-is_record c =
    let owner = c.args.owner.now in
    let key = c.requires.key in
    IfOk-weaker c.seal_chunk.result _ _
    (λ bytes sealed. record {
      name = name_in owner c.args.rank.0;
      key = partition_key c.args.keys.now owner.home owner.birth;
      plain = c.args.chunk.now;
      key_for = inr ((inl refl, key.0, key.1, c.requires.rank), (owner.birth, key.2, refl));
      sealed = sealed;
    })
    (returns-clause-sealed c)

pub returns-clause-size : goal.returns-clause-size
returns-clause-size c =
    let owner = c.args.owner.now in
    let key : List ℕ = partition_key c.args.keys.now owner.home owner.birth in
    IfOk-weaker c.seal_chunk.result _ _ (λ bytes sealed. sealed_length key (name_in owner c.args.rank.0) c.args.chunk.now bytes.items sealed) (returns-clause-sealed c)

pub returns-clause-some : goal.returns-clause-some
returns-clause-some c =
    let P : ℕ → Type 0 = λ n. 1 ≤ n in
    IfOk-weaker c.seal_chunk.result _ _ (λ bytes size. subst P (sym size) (record_least c.args.owner.now.suite (length c.args.chunk.now))) (returns-clause-size c)

pub returns-clause-most : goal.returns-clause-most
returns-clause-most c =
    let P : ℕ → Type 0 = λ n. n ≤ 262144 in
    IfOk-weaker c.seal_chunk.result _ _ (λ bytes size. subst P (sym size) (record_most c.args.owner.now.suite (length c.args.chunk.now) c.requires.short)) (returns-clause-size c)
