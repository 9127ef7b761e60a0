-- `Judge::step_at` hands up the fault of the field.
use Rattle.std.proofs.Common.{◌≡◌, ap, ◌∙◌, Err, Some, arith}
use Rattle.std.proofs.lemmas.Result.{err_from_is_err_and}
use Rattle.grammar.specs.MirrorTable.{in_table, row_of}
use Rattle.sheet.specs.MirrorField.{field_at}
use Rattle.sheet.proofs.Deciding.{step_fault}
use Rattle.sheet.proofs.Judge.step_at.Goals as goal

pub returns-in_err-field_fault : goal.returns-in_err-field_fault
returns-in_err-field_fault c =
    let p = err_from_is_err_and c.from_residual-in_err-field_fault.result c.from_residual-in_err-field_fault.ensures.1 in
    let e : c.from_residual-in_err-field_fault.result ≡ Err c.in_err-field_fault.field-0.0 = p.1 ∙ ap Err p.2 in
    let k : field_at c.args.self.now.bytes.now c.args.at c.args.value.end ≡ Some c.in_ok-field.field = (let v = c.ok_or.ensures.value in let u = c.in_ok-field.was in grind arith) in
    let r : in_table (row_of c.args.value.parent.tag c.args.state c.in_ok-field.field.tag) ≡ Some c.in_ok-row.row = (let v = c.ok_or-2.ensures.value in let u = c.in_ok-row.was in grind arith) in
    rw e (step_fault _ _ _ _ _ _ _ _ c.if-at-value.false _ k _ r _ c.in_err-field_fault.ensures)
