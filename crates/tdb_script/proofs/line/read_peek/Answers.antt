use Rattle.std.proofs.Common.{codes}
use Rattle.tdb_script.proofs.LineLaws.{peek_fields, behind_command}
use Rattle.tdb_script.proofs.line.read_peek.Goals as goal

pub returns-in_err-part-clause-none : goal.returns-in_err-part-clause-none
returns-in_err-part-clause-none c = rw c.from_residual-in_err-part.ensures (λ n object within _ spelled.
    let found = c.in_ok-number.ensures.found in
    let behind = behind_command c.args.bytes.now _ _ (codes "peek ") _ c.as_slice.ensures c.in_ok-fields.ensures.cases.1 found.1 in
    let fields = peek_fields c.args.bytes.now c.in_ok-number.number.now c.in_ok-number.word.now n object within found.0 behind spelled in
    c.in_err-part.ensures.none n within fields.0)

pub returns-in_err-object-clause-none : goal.returns-in_err-object-clause-none
returns-in_err-object-clause-none c = rw c.from_residual-in_err-object.ensures (λ n object within is_object spelled.
    let found = c.in_ok-number.ensures.found in
    let behind = behind_command c.args.bytes.now _ _ (codes "peek ") _ c.as_slice.ensures c.in_ok-fields.ensures.cases.1 found.1 in
    let fields = peek_fields c.args.bytes.now c.in_ok-number.number.now c.in_ok-number.word.now n object within found.0 behind spelled in
    c.in_err-object.ensures.none object is_object fields.1)
