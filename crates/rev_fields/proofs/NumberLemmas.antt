-- What `parse` says of decimal numbers.
use Rattle.std.proofs.Common.{◌≡◌, ℕ, ◌<◌, ◌^◌, true, false, not, ◌&&◌, ◌==◌, nat_lt, List, [], ◌∷◌, length, refl, ap, ◌∙◌, arith, Err}
use Rattle.std.proofs.lemmas.Bool.{and_parts, and_from, and_right, false_from_ne_true, ltb-true, false≢true}
use Rattle.std.proofs.lemmas.Str.Parse.{IsNumeralModel, numerals_by_value, tells_all_ascii_digits, parse_digits}
use Rattle.std.proofs.lemmas.Str.{IsUtf8-from_ascii}
use Rattle.std.proofs.lemmas.Fmt.{IsAscii-from_digits}
use Rattle.std.specs.Char.{is_ascii_digit}
use Rattle.std.specs.Prelude.{Result}
use Rattle.std.specs.List.{list_all}
use Rattle.std.specs.Str.{IsUtf8, all_ascii_digits}
use Rattle.std.specs.Str.Parse.{digits_value, ParsesUnsigned}
use Rattle.rev_fields.specs.declared.faults.FaultKind.TheVariants.{Number}
use Rattle.rev_fields.specs.Numbers.{is_decimal, number_below}

abbrev own : IsNumeralModel (λ ds. all_ascii_digits ds ≡ true) (digits_value 10)
own = numerals_by_value (λ ds. all_ascii_digits ds ≡ true) tells_all_ascii_digits

pub list_all-digits : (ds : List ℕ) → all_ascii_digits ds ≡ list_all is_ascii_digit ds
list_all-digits [] = refl
list_all-digits (d ∷ ds) = ap (λ t. is_ascii_digit d && t) (list_all-digits ds)

digits_from_decimal : (text : List ℕ) → is_decimal text ≡ true → list_all is_ascii_digit text ≡ true
digits_from_decimal [] h = absurd (false≢true h)
digits_from_decimal (d ∷ []) h = and_from (is_ascii_digit d) true h refl
digits_from_decimal (d ∷ e ∷ ds) h = (and_parts (not (d == 48)) (list_all is_ascii_digit (d ∷ e ∷ ds)) h).1

some_from_decimal : (text : List ℕ) → is_decimal text ≡ true → 0 < length text
some_from_decimal [] h = absurd (false≢true h)
some_from_decimal (d ∷ ds) h = omega arith

-- a decimal number is UTF-8
pub utf8_from_decimal : (text : List ℕ) → is_decimal text ≡ true → IsUtf8 text
utf8_from_decimal text h =
    IsUtf8-from_ascii text (IsAscii-from_digits text (own.to text (list_all-digits text ∙ digits_from_decimal text h)))

-- a number that is not below the limit
pub number_below-above : (limit : ℕ) (text : List ℕ) → (digits_value 10 text < limit → ⊥) → number_below limit text ≡ Err Number
number_below-above limit text h =
    let above : (is_decimal text && nat_lt (digits_value 10 text) limit) ≡ false = and_right (is_decimal text) (nat_lt (digits_value 10 text) limit) (false_from_ne_true _ (λ t. h (ltb-true _ _ t))) in
    rw above refl

-- where `parse` fails at a decimal number, it is not below the limit
pub above_from_parse : {E : Type 0} (text : List ℕ) (e : E) → is_decimal text ≡ true → ParsesUnsigned 64 10 text (Err e) → digits_value 10 text < 2 ^ 64 → ⊥
above_from_parse {E} text e h parsed below =
    let r : Result ℕ E = Err e in
    parse_digits own 64 text r parsed (list_all-digits text ∙ digits_from_decimal text h) (some_from_decimal text h, below)
