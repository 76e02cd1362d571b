-- Numbers: decimal digits, with no zero in front of others.
use Rattle.std.specs.Prelude.{ℕ, ◌==◌, Bool, false, not, ◌&&◌, if◌then◌else◌, nat_lt, List, [], ◌∷◌, ◌++◌, decimal, Result, Ok, Err}
use Rattle.std.specs.Char.{is_ascii_digit}
use Rattle.std.specs.List.{list_all, flat_map, slice_split}
use Rattle.std.specs.Str.Parse.{digits_value}
use Rattle.rev_fields.specs.declared.faults.FaultKind.{FaultKind}
use Rattle.rev_fields.specs.declared.faults.FaultKind.TheVariants.{Number}
use Rattle.rev_fields.specs.Faults.{each_of}

-- whether a text is a decimal number
abbrev pub is_decimal : List ℕ → Bool
is_decimal [] = false
is_decimal (d ∷ []) = is_ascii_digit d
is_decimal (d ∷ e ∷ ds) = not (d == 48) && list_all is_ascii_digit (d ∷ e ∷ ds)

-- the number that a text writes, where it is below the limit
abbrev pub number_below : ℕ → List ℕ → Result ℕ FaultKind
number_below limit text =
    if is_decimal text && nat_lt (digits_value 10 text) limit then Ok (digits_value 10 text) else Err Number

-- the numbers that a text writes with commas between them, where each is below the limit
abbrev pub numbers_below : ℕ → List ℕ → Result (List ℕ) FaultKind
numbers_below limit text = each_of (number_below limit) (slice_split (λ b. b == 44) text)

-- numbers with commas between them
abbrev pub numbers_text : List ℕ → List ℕ
numbers_text [] = []
numbers_text (n ∷ ns) = decimal n ++ flat_map (λ m. 44 ∷ decimal m) ns
