-- Statements above others.
use Rattle.std.proofs.Common.{◌≡◌, Bool, true, false, List, [], ◌∷◌, ◌++◌, map, cond, Result, refl, sym, ap, ◌∙◌, if◌then◌else◌}
use Rattle.std.specs.List.{take_while}
use Rattle.std.proofs.lemmas.List.Sums.{take_while-cons}
use Rattle.rev_syntax.specs.declared.fault.SyntaxFault.{SyntaxFault}
use Rattle.rev_syntax.specs.Lines.{LineValue}
use Rattle.rev_syntax.specs.Statements.{StatementValue, Group, is_indented, statement_of, groups_of, later_groups, statements_of}
use Rattle.rev_syntax.specs.Laws.{begins_indented}

block-apart : (above below : List LineValue) → begins_indented below ≡ false → take_while is_indented (above ++ below) ≡ take_while is_indented above
block-apart [] [] h = refl
block-apart [] (line ∷ lines) h = take_while-cons is_indented line lines ∙ ap (λ b. cond b (line ∷ take_while is_indented lines) []) h
block-apart (line ∷ lines) below h =
    take_while-cons is_indented line (lines ++ below)
    ∙ ap (λ block. cond (is_indented line) (line ∷ block) []) (block-apart lines below h) ∙ sym (take_while-cons is_indented line lines)

later-apart : (above below : List LineValue) → begins_indented below ≡ false → later_groups (above ++ below) ≡ later_groups above ++ groups_of below
later-apart [] [] h = refl
later-apart [] (line ∷ lines) h =
    ap (λ b. if b then later_groups lines else record { head = line; block = take_while is_indented lines } ∷ later_groups lines) h
later-apart (line ∷ lines) below h = by (is_indented line) (later-apart lines below h) (block-apart lines below h)
  where
    by : (b : Bool) → later_groups (lines ++ below) ≡ later_groups lines ++ groups_of below → take_while is_indented (lines ++ below) ≡ take_while is_indented lines
        → (if b then later_groups (lines ++ below) else record { head = line; block = take_while is_indented (lines ++ below) } ∷ later_groups (lines ++ below))
        ≡ (if b then later_groups lines else record { head = line; block = take_while is_indented lines } ∷ later_groups lines) ++ groups_of below
    by true later block = later
    by false later block = (λ i. record { head = line; block = block i } ∷ later i)

groups-apart : (above below : List LineValue) → begins_indented below ≡ false → groups_of (above ++ below) ≡ groups_of above ++ groups_of below
groups-apart [] below h = refl
groups-apart (line ∷ lines) below h = (λ i. record { head = line; block = block-apart lines below h i } ∷ later-apart lines below h i)

map-both : (xs ys : List Group) → map statement_of (xs ++ ys) ≡ map statement_of xs ++ map statement_of ys
map-both [] ys = refl
map-both (x ∷ xs) ys = ap (λ (t : List (Result StatementValue SyntaxFault)). statement_of x ∷ t) (map-both xs ys)

pub statements-apart : (above below : List LineValue) → begins_indented below ≡ false → statements_of (above ++ below) ≡ statements_of above ++ statements_of below
statements-apart above below h = ap (map statement_of) (groups-apart above below h) ∙ map-both (groups_of above) (groups_of below)
