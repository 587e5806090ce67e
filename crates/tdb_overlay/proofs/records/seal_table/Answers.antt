use Rattle.std.proofs.Common.{inl, List, ℕ, refl, ◌∙◌, ap, length, arith}
use Rattle.std.proofs.lemmas.Result.{IfOk-weaker}
use Rattle.tdb_node.specs.SegmentTable.{table_bytes}
use Rattle.tdb_node.proofs.TableSpelling.{length-table_bytes}
use Rattle.tdb_overlay.proofs.Lengths.{sealed_length}
use Rattle.tdb_overlay.specs.Keys.{system_key}
use Rattle.tdb_overlay.specs.StoreState.{record_length}
use Rattle.tdb_overlay.specs.Names.{table_name}
use Rattle.tdb_overlay.proofs.Sealing.{sealed_as}
use Rattle.tdb_overlay.proofs.records.seal_table.Goals as goal

pub seal_system-requires : goal.seal_system-requires
seal_system-requires c =
    omega (arith, ap (λ (l : List ℕ). length l) (c.deref.ensures.value ∙ c.in_ok-table.ensures), length-table_bytes c.args.table.now c.requires.value)

pub returns-clause-sealed : goal.returns-clause-sealed
returns-clause-sealed c =
    let plain : List ℕ = table_bytes c.args.table.now in
    IfOk-weaker c.seal_system.result _ _
    (λ bytes sealed. sealed_as (system_key c.args.keys.now) (table_name c.args.suite) plain c.deref.result.now bytes.items (c.deref.ensures.value ∙ c.in_ok-table.ensures) sealed)
    c.seal_system.ensures

pub returns-clause-is_record : goal.returns-clause-is_record
returns-clause-is_record c =
    let plain : List ℕ = table_bytes c.args.table.now in
    IfOk-weaker c.seal_system.result _ _
    (λ bytes sealed. record { name = table_name c.args.suite; key = system_key c.args.keys.now; plain = plain; key_for = inl ((refl, inl (refl, inl refl)), refl); sealed = sealed })
    (returns-clause-sealed c)

pub returns-clause-size : goal.returns-clause-size
returns-clause-size c =
    let plain : List ℕ = table_bytes c.args.table.now in
    IfOk-weaker c.seal_system.result _ _
    (λ bytes sealed. sealed_length (system_key c.args.keys.now) (table_name c.args.suite) plain bytes.items sealed ∙ ap (record_length c.args.suite) (length-table_bytes c.args.table.now c.requires.value))
    (returns-clause-sealed c)
