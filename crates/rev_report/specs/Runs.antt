-- What `run` takes of the turns that are left, and what comes of it.
use Rattle.std.specs.Prelude.{ℕ, ◌+◌, List, [], ◌∷◌, ◌++◌, take, Option, Some, None}
use Rattle.std.specs.List.{position_or_len}
use Rattle.rev_commands.specs.declared.command.Command.{Command}
use Rattle.rev_desk.specs.Machine.{DeskValue}
use Rattle.rev_desk.specs.declared.reply.Reply.{Reply}
use Rattle.rev_report.specs.Answers.{after_answer, answer_to, names_break, said_line}

-- the answers to commands of lanes, one after the other
abbrev pub answers : DeskValue → List (ℕ × Command) → List (Option Reply)
answers d [] = []
answers d (turn ∷ turns) = answer_to d turn.1 ∷ answers (after_answer d turn.0 turn.1) turns

-- the lines that they write
abbrev pub answers_text : DeskValue → List (ℕ × Command) → List ℕ
answers_text d [] = []
answers_text d (turn ∷ turns) = said_line d turn.0 turn.1 ++ answers_text (after_answer d turn.0 turn.1) turns

-- the desk after them
abbrev pub after_turns : DeskValue → List (ℕ × Command) → DeskValue
after_turns d [] = d
after_turns d (turn ∷ turns) = after_turns (after_answer d turn.0 turn.1) turns

-- the turns up to and with the first whose answer names a break, all of them where none does
abbrev pub until_break : DeskValue → List (ℕ × Command) → List (ℕ × Command)
until_break d turns = take (position_or_len names_break (answers d turns) + 1) turns

-- the turns that `run`, and `run K`, may take of those that are left
abbrev pub offered : Option ℕ → List (ℕ × Command) → List (ℕ × Command)
offered None turns = turns
offered (Some most) turns = take most turns

-- those that it takes
abbrev pub taken : Option ℕ → DeskValue → List (ℕ × Command) → List (ℕ × Command)
taken most d turns = until_break d (offered most turns)
