-- The line of a recording that was replayed: `1018 events, none refused`.
use Rattle.std.specs.Prelude.{ℕ, ◌==◌, if◌then◌else◌, List, [], ◌++◌, codes, decimal}

-- how many events there were
abbrev pub events_words : ℕ → List ℕ
events_words events = decimal events ++ (if events == 1 then codes " event" else codes " events")

-- what stands behind the number of other commands
abbrev pub others_end : ℕ → List ℕ
others_end others = if others == 1 then codes " other command" else codes " other commands"

-- how many commands that are no events, as an undo in a trace that was written by hand; nothing where there is none
abbrev pub others_words : ℕ → List ℕ
others_words others =
    if others == 0 then []
    else codes " and " ++ decimal others ++ others_end others

-- how many of all these were refused
abbrev pub refused_words : ℕ → List ℕ
refused_words refused =
    if refused == 0 then codes ", none refused\n" else codes ", " ++ decimal refused ++ codes " refused\n"

abbrev pub counts_words : ℕ → ℕ → ℕ → List ℕ
counts_words events others refused = events_words events ++ others_words others ++ refused_words refused
