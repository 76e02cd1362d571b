-- How much is left out of what is told.
use Rattle.std.specs.Prelude.{ℕ, Bool, ◌==◌, ◌&&◌, if◌then◌else◌, List, [], ◌++◌, codes, decimal}
use Rattle.rev_races_text.specs.Counts.{counted}
use Rattle.rev_races_text.specs.declared.left_out.LeftOut.{LeftOut}
use Rattle.rev_shown.specs.Shown.{shown}

-- `  hidden: cache/stats`, and of a folder whose entries it is about `  hidden: the entries of cache`
abbrev pub hidden_words : Bool → List ℕ
hidden_words entries = if entries then codes "  hidden: the entries of " else codes "  hidden: "

abbrev pub hidden_line : Bool → List ℕ → List ℕ
hidden_line entries path = hidden_words entries ++ shown path ++ codes "\n"

-- `baseline: 3 known, 1 ignored`
abbrev pub known_words : ℕ → ℕ → List ℕ
known_words known ignored =
    if known == 0 && ignored == 0 then []
    else codes "baseline: " ++ decimal known ++ codes " known, " ++ decimal ignored ++ codes " ignored\n"

-- `filters hide 2 places where commands meet`, and what a baseline leaves out
abbrev pub left_out_line : LeftOut → List ℕ
left_out_line l =
    if l.hidden == 0 then known_words l.known l.ignored
    else codes "filters hide " ++ counted l.hidden (codes "place") (codes "places")
    ++ codes " where commands meet\n" ++ known_words l.known l.ignored
