use Rattle.std.proofs.Common.{Err, ap, ◌∙◌, arith, ◌^◌}
use Rattle.std.proofs.lemmas.Result.{err_from_is_err_and}
use Rattle.rev_fields.specs.Numbers.{number_below}
use Rattle.rev_fields.proofs.AnswerLemmas.{fault_passes}
use Rattle.rev_fields.proofs.LawLemmas.{number_below-narrow}
use Rattle.rev_fields.proofs.numbers.number.Goals as goal

pub returns-in_err-wide_number : goal.returns-in_err-wide_number
returns-in_err-wide_number c =
    let p = err_from_is_err_and c.from_residual.result c.from_residual.ensures.1 in
    fault_passes c.from_residual.result c.in_err-wide_number.field-0.0 (λ n. n) (λ n. n) (number_below (2 ^ 64) c.args.text.now) (number_below (2 ^ 32) c.args.text.now)
    (p.1 ∙ ap Err p.2) (λ kind said. number_below-narrow (2 ^ 64) (2 ^ 32) c.args.text.now kind (omega arith) said) c.in_err-wide_number.ensures
