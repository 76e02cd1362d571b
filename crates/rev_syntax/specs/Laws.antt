-- Laws of statements.
use Rattle.std.specs.Prelude.{◌≡◌, Bool, false, List, [], ◌∷◌, ◌++◌}
use Rattle.rev_syntax.specs.Lines.{LineValue}
use Rattle.rev_syntax.specs.Statements.{is_indented, statements_of}

-- whether lines begin with an indented one
abbrev pub begins_indented : List LineValue → Bool
begins_indented [] = false
begins_indented (line ∷ lines) = is_indented line

-- what a statement says, and its fault, are those of its own lines: nothing above it or below it changes them
abbrev pub StatementsStandApart : Type 0
StatementsStandApart =
    (above below : List LineValue) → begins_indented below ≡ false
    → statements_of (above ++ below) ≡ statements_of above ++ statements_of below
