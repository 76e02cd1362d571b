use Rattle.std.proofs.Common.{rules, ◌≡◌, ℕ, Option, IfOk, IfSome, sym, subst, arith}
use Rattle.std.proofs.lemmas.Grind.{common_steps}
use Rattle.std.specs.declared.alloc.Global.{Global}
use Rattle.std.specs.declared.vec.Vec.{Vec}
use Rattle.rev_fields.specs.Parts.{vectors_of}
use Rattle.rev_sentences.specs.Sentences.{Tells, number_told, report_number}
use Rattle.rev_sentences.proofs.fault_lines.sentence.Goals as goal

pub returns-in-Ok-clause-meaning : goal.returns-in-Ok-clause-meaning
returns-in-Ok-clause-meaning c =
    let same : report_number c.args.report.now ≡ number_told (vectors_of c.deref.result.now) =
    first_of (search rules, grind (arith, common_steps)) in
    subst (λ (o : Option ℕ). IfOk c.sentence_of.result
    (λ (said : Option (Vec ℕ Global)). IfSome said (λ (sentence : Vec ℕ Global). IfSome o (λ number. Tells sentence.items number))))
    (sym same) c.sentence_of.ensures.some
