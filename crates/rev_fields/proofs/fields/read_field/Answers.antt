use Rattle.std.proofs.Common.{rules}
use Rattle.std.specs.Option.{ok_or}
use Rattle.rev_fields.specs.declared.faults.FaultKind.TheVariants.{Syntax}
use Rattle.rev_fields.specs.Faults.{Answers}
use Rattle.rev_fields.specs.Fields.{text_of}
use Rattle.rev_fields.proofs.InverseLemmas.{only_field}
use Rattle.rev_fields.proofs.fields.read_field.Goals as goal

pub returns-clause-only : goal.returns-clause-only
returns-clause-only c =
    let said : Answers c.unescape.result (λ text. text.items) (ok_or (text_of c.args.field.now) Syntax) = search rules in
    only_field c.unescape.result c.args.field.now said
