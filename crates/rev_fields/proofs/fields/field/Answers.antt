use Rattle.std.proofs.Common.{◌≡◌, ap, ◌∙◌, arith}
use Rattle.std.proofs.lemmas.Grind.{common_steps}
use Rattle.rev_fields.specs.Fields.{field_text, text_of}
use Rattle.rev_fields.proofs.InverseLemmas.{text_of-field_text}
use Rattle.rev_fields.proofs.fields.field.Goals as goal

pub returns-clause-read : goal.returns-clause-read
returns-clause-read c =
    let written : c.push_field.new.line.items ≡ field_text c.args.text.now = grind (arith, common_steps) in
    ap text_of written ∙ text_of-field_text c.args.text.now
