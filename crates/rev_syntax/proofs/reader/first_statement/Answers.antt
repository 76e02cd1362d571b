use Rattle.std.proofs.lemmas.Result.{err_from_is_err_and}
use Rattle.rev_syntax.specs.Seen.{seen_form}
use Rattle.rev_syntax.proofs.GroupLemmas.{statements-first, first-fault}
use Rattle.rev_syntax.proofs.reader.first_statement.Goals as goal

pub returns-in_err-form-clause-fault : goal.returns-in_err-form-clause-fault
returns-in_err-form-clause-fault c =
    let p = err_from_is_err_and c.from_residual.result c.from_residual.ensures.1 in
    rw (p.1, p.2)
    (first-fault c.in_err-form.field-0.0 c.args.lines.now c.in-Some.head.now c.in-Some.after.now c.split_block.result.0.now c.in-Some.ensures.cases.0 c.split_block.ensures.block c.in_err-form.ensures)

pub returns-clause-first : goal.returns-clause-first
returns-clause-first c =
    statements-first c.args.lines.now c.in-Some.head.now c.in-Some.after.now c.split_block.result.0.now c.split_block.result.1.now c.number.result (seen_form c.in_ok-form.form) c.in-Some.ensures.cases.0 c.split_block.ensures.block
    c.split_block.ensures.rest c.number.ensures c.in_ok-form.ensures
