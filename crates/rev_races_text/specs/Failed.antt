-- What is told of a build that failed, and of a recording that counts in part.
use Rattle.std.specs.Prelude.{ℕ, ◌==◌, if◌then◌else◌, List, [], ◌++◌, codes, decimal}
use Rattle.rev_races_text.specs.Counts.{counted}
use Rattle.rev_races_text.specs.Edges.{placed}
use Rattle.rev_races_text.specs.Names.{name_if, text_shown}
use Rattle.rev_races_text.specs.declared.edges.Edge.{Edge}
use Rattle.rev_races_text.specs.declared.failed.Replayed.{Replayed}

-- `failed main.o (build.ninja:19) at 9: cc -c main.c -o main.o`
abbrev pub failed_line : Edge → ℕ → List ℕ → List ℕ
failed_line edge at command =
    codes "failed " ++ placed edge ++ codes " at " ++ decimal at ++ codes ": " ++ text_shown command ++ codes "\n"

-- one line of what the command printed
abbrev pub printed_line : List ℕ → List ℕ
printed_line line = codes "  " ++ text_shown line ++ codes "\n"

-- a suspect that no error names, with its number
abbrev pub numbered : Edge → ℕ → List ℕ
numbered maker number = name_if maker.output ++ codes " [" ++ decimal number ++ codes "]"

-- HOW MUCH COUNTS
-- commands that the replay refused: `replayed 5 commands, 2 refused: the answer is of the others`
unfoldable pub refused_end : ℕ → List ℕ
refused_end refused = codes ", " ++ decimal refused ++ codes " refused: the answer is of the others\n"

unfoldable pub refused_words : ℕ → ℕ → List ℕ
refused_words commands refused =
    codes "replayed " ++ counted commands (codes "command") (codes "commands") ++ refused_end refused

abbrev pub refused_line : ℕ → ℕ → List ℕ
refused_line commands refused = if refused == 0 then [] else refused_words commands refused

-- commands behind the last one for which the journal had room
abbrev pub left_line : ℕ → List ℕ
left_line left =
    if left == 0 then []
    else counted left (codes "command more was") (codes "commands more were")
    ++ codes " left out, since the journal is full: the answer is of those before\n"

-- commands that had not ended when the recording did
abbrev pub running_line : ℕ → List ℕ
running_line running =
    if running == 0 then []
    else codes "the recording ends while " ++ counted running (codes "command runs") (codes "commands run")
    ++ codes ": the answer is of the others\n"

-- nothing, where the build was recorded whole
abbrev pub replayed_lines : Replayed → List ℕ
replayed_lines r = refused_line r.commands r.refused ++ left_line r.left ++ running_line r.running
