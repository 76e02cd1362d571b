use Rattle.std.proofs.lemmas.Result.{err_from_is_err_and}
use Rattle.rev_syntax.specs.Statements.{statements_of}
use Rattle.rev_syntax.specs.Seen.{seen_statement}
use Rattle.rev_manifest.specs.Held.{seen_declarations}
use Rattle.rev_manifest.proofs.ReadingLemmas.{first_fault, syntax_fault}
use Rattle.rev_manifest.proofs.reading.add_next.Goals as goal

pub returns-in_err-next_statement-clause-fault : goal.returns-in_err-next_statement-clause-fault
returns-in_err-next_statement-clause-fault c =
    let p = err_from_is_err_and c.from_residual.result c.from_residual.ensures.1 in
    rw (p.1, p.2) (λ read. syntax_fault c.args.files.now read c.args.file c.args.scope (seen_declarations c.args.above.now) (statements_of c.args.lines.now) c.in_err-next_statement.field-0.0
    c.in_err-next_statement.ensures.fault)

pub returns-in_err-named-in-Some-clause-fault : goal.returns-in_err-named-in-Some-clause-fault
returns-in_err-named-in-Some-clause-fault c =
    let p = err_from_is_err_and c.from_residual-in_err-named-in-Some.result c.from_residual-in_err-named-in-Some.ensures.1 in
    let first = rw c.in-Some.is at c.in_ok-next_statement.ensures.first in
    rw (p.1, p.2) (λ read. first_fault c.args.files.now read c.args.file c.args.scope (seen_declarations c.args.above.now) (statements_of c.args.lines.now) (statements_of c.in-Some.after.now)
    (seen_statement c.in-Some.statement) c.in_err-named-in-Some.field-0.0 first c.in_err-named-in-Some.ensures.meant)
