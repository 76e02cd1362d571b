use Rattle.std.proofs.Common.{◌≡◌, true, rules}
use Rattle.rev_fields.specs.Numbers.{is_decimal}
use Rattle.rev_fields.proofs.NumberLemmas.{utf8_from_decimal, number_below-above, above_from_parse}
use Rattle.rev_fields.proofs.numbers.wide_number.Goals as goal

pub returns-in_default : goal.returns-in_default
returns-in_default c =
    let decimal : is_decimal c.args.text.now ≡ true = search rules in
    absurd (c.in_default.ensures.cases.0 (utf8_from_decimal c.args.text.now decimal))

pub returns-in-Err : goal.returns-in-Err
returns-in-Err c =
    let decimal : is_decimal c.args.text.now ≡ true = search rules in
    let same = c.in-Ok.ensures.cases.0 in
    number_below-above _ c.args.text.now (above_from_parse c.args.text.now c.in-Err.field-0 decimal (rw same at c.in-Err.ensures.value.0))
