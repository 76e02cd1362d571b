-- The rule that a build statement names.
use Rattle.std.specs.Prelude.{ℕ, Bool, false, List, [], ◌∷◌, ◌==◌, ◌&&◌, not, if◌then◌else◌}
use Rattle.std.specs.List.{take_while}
use Rattle.rev_syntax.specs.Bytes.{after, is_in_name}

-- what follows the first colon before which no `$` stands, by whether one stands before these bytes
abbrev pub after_colon : Bool → List ℕ → List ℕ
after_colon escaped [] = []
after_colon escaped (b ∷ bs) = if not escaped && b == 58 then bs else after_colon (not escaped && b == 36) bs

-- blanks, and a line's end with the `$` before it
abbrev pub is_between : ℕ → Bool
is_between b = not (is_in_name b)

-- the first name there
abbrev pub rule_in : List ℕ → List ℕ
rule_in statement = take_while is_in_name (after is_between (after_colon false statement))
