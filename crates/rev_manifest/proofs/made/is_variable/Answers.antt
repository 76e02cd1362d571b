use Rattle.rev_manifest.proofs.MadeLemmas.{byte-first}
use Rattle.rev_manifest.proofs.made.is_variable.Goals as goal

pub returns-in-Some-Literal-default : goal.returns-in-Some-Literal-default
returns-in-Some-Literal-default c =
    let e = c.in-Some-Literal-default in
    byte-first e.field-0-0-0.now e.field-0-1 c.args.text.now (rw e.field-0-0-is at e.ensures.some) (rw e.field-0-0-is at e.ensures.pieces)
