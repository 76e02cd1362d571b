-- The line that counts: what was found, how many commands ran, and which of these were not judged.
use Rattle.std.specs.Prelude.{ℕ, ◌==◌, ◌≤◌, nat_le, ◌&&◌, ◌||◌, Bool, true, false, if◌then◌else◌, List, [], ◌∷◌, ◌++◌, Option, Some, None, length, take, codes, decimal}
use Rattle.std.specs.List.{flat_map}
use Rattle.rev_races_text.specs.Names.{name_if}
use Rattle.rev_races_text.specs.declared.counts.Tally.{Tally}
use Rattle.rev_races_text.specs.declared.edges.Edge.{Edge}

-- a number of things, in the singular or the plural
unfoldable pub counted : ℕ → List ℕ → List ℕ → List ℕ
counted n one many = decimal n ++ codes " " ++ (if n == 1 then one else many)

-- the same behind a comma where something stands before it; nothing where there are none
unfoldable pub some_words : Bool → ℕ → List ℕ → List ℕ → List ℕ
some_words first n one many =
    if n == 0 then [] else ((if first then [] else codes ", ") ++ counted n one many)

-- the three kinds, with commas between those that there are
unfoldable pub three_words : Tally → List ℕ
three_words t =
    some_words true t.races (codes "race") (codes "races")
    ++ some_words (t.races == 0) t.cycles (codes "cycle") (codes "cycles")
    ++ some_words (t.races == 0 && t.cycles == 0) t.own (codes "path that its own command lists")
    (codes "paths that their own commands list")

unfoldable pub races_words : Tally → List ℕ
races_words t =
    if t.races == 0 && (t.cycles == 0 && t.own == 0) then codes "no race" else three_words t

-- how many there are of what is told where there is one alone
unfoldable pub more_words : List ℕ → ℕ → List ℕ → List ℕ → List ℕ
more_words before n one many = if n == 0 then [] else before ++ counted n one many

-- how many commands ran
unfoldable pub ran_words : ℕ → List ℕ
ran_words n = if n == 0 then codes "no command ran" else counted n (codes "command") (codes "commands") ++ codes " ran"

-- the first outputs of edges, with a comma between each two
abbrev pub names_words : List Edge → List ℕ
names_words [] = []
names_words (e ∷ es) = name_if e.output ++ flat_map (λ (f : Edge). codes ", " ++ name_if f.output) es

-- the same of the first three, and dots, where there are more and not all are asked for
unfoldable pub names_some : Bool → List Edge → List ℕ
names_some all es =
    if all || nat_le (length es) 3 then names_words es else names_words (take 3 es) ++ codes " ..."

-- commands that were not judged, and are no collectors
abbrev pub plain_words : Bool → List Edge → List ℕ
plain_words all es = decimal (length es) ++ codes " (" ++ names_some all es ++ codes ")"

-- commands that only collect outputs: all of them by name where that is asked, else how many
unfoldable pub collectors_words : Bool → List Edge → List ℕ
collectors_words all es =
    counted (length es) (codes "that only collects outputs") (codes "that only collect outputs")
    ++ (if all then codes " (" ++ names_words es ++ codes ")" else [])

-- `; not judged: 2 (conf.h, table.c), and 13 that only collect outputs`
abbrev pub unjudged_words : Bool → List Edge → List Edge → List ℕ
unjudged_words all [] [] = []
unjudged_words all (e ∷ es) [] = codes "; not judged: " ++ plain_words all (e ∷ es)
unjudged_words all [] (f ∷ fs) = codes "; not judged: " ++ collectors_words all (f ∷ fs)
unjudged_words all (e ∷ es) (f ∷ fs) =
    codes "; not judged: " ++ plain_words all (e ∷ es) ++ codes ", and " ++ collectors_words all (f ∷ fs)

-- what stands before that in the last line: `1 command failed; 1 race; 1 clash; 7 commands ran`
unfoldable pub found_words : Tally → List ℕ
found_words t = some_words true t.failed (codes "command failed; ") (codes "commands failed; ") ++ races_words t

-- how many files change behind their users, are no outputs though others look at them, and are no inputs
unfoldable pub others_words : Tally → List ℕ
others_words t =
    more_words (codes "; ") t.unstable (codes "unstable file") (codes "unstable files")
    ++ more_words (codes "; ") t.undeclared (codes "undeclared output") (codes "undeclared outputs")
    ++ more_words (codes "; ") t.unlisted (codes "unlisted input") (codes "unlisted inputs")

-- how many of the commands that ran were observed whole; nothing without an observation
abbrev pub whole_words : ℕ → Option ℕ → List ℕ
whole_words ran None = []
whole_words ran (Some n) =
    if ran == 0 then [] else (if n == ran then codes ", all observed whole"
    else codes ", " ++ decimal n ++ codes " of them observed whole")

unfoldable pub ends_words : Tally → List ℕ
ends_words t =
    more_words (codes "; ") t.clashes (codes "clash") (codes "clashes") ++ others_words t ++ codes "; "
    ++ ran_words t.ran ++ whole_words t.ran t.whole

abbrev pub tally_words : Tally → List ℕ
tally_words t = found_words t ++ ends_words t
