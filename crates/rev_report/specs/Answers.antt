-- What a command of a lane is answered, and the line that tells it.
use Rattle.std.specs.Prelude.{ℕ, ◌==◌, Bool, true, false, if◌then◌else◌, List, [], ◌++◌, length, Option, Some, None, codes, decimal}
use Rattle.rev_commands.specs.declared.command.Command.{Command}
use Rattle.rev_events.specs.Refusal.{code_of, first_number, second_number}
use Rattle.rev_desk.specs.declared.desk.TheConstants.Desk.{MAX_ENTRIES}
use Rattle.rev_desk.specs.Machine.{DeskValue, after, next_number, reply_to}
use Rattle.rev_desk.specs.declared.reply.Reply.{Reply}
use Rattle.rev_desk.specs.declared.reply.Reply.TheVariants.{Accepted, Coned, Refused}

-- whether the journal has no room for another entry
abbrev pub is_full : DeskValue → Bool
is_full d = length d.journal == MAX_ENTRIES

-- what a command is answered: nothing where there is no room for its entry
unfoldable pub answer_to : DeskValue → Command → Option Reply
answer_to d c = if is_full d then None else Some (reply_to d c)

-- the desk after a command of a lane
unfoldable pub after_answer : DeskValue → ℕ → Command → DeskValue
after_answer d lane c = if is_full d then d else after d lane c

-- whether an answer names a break
abbrev pub names_break : Option Reply → Bool
names_break (Some (Accepted number (Some break_number))) = true
names_break _ = false

-- a number of a refusal, where there is one
abbrev pub number_text : Option ℕ → List ℕ
number_text None = []
number_text (Some n) = codes " " ++ decimal n

-- a reply: `ok`, `ok break` with the number of the break, `cone` with the count, or `refused` with the refusal's
-- numbers
abbrev pub reply_text : Reply → List ℕ
reply_text (Accepted number None) = codes "ok"
reply_text (Accepted number (Some break_number)) = codes "ok break " ++ decimal break_number
reply_text (Coned number count) = codes "cone " ++ decimal count
reply_text (Refused r) =
    codes "refused " ++ decimal (code_of r) ++ number_text (first_number r) ++ number_text (second_number r)

-- the line of an answer to a command of a lane: the number that its entry has, the lane, and the reply; where there is
-- no entry, a dash and 94
abbrev pub answer_line : ℕ → ℕ → Option Reply → List ℕ
answer_line number lane None = codes "- " ++ decimal lane ++ codes " refused 94\n"
answer_line number lane (Some r) =
    decimal number ++ codes " " ++ decimal lane ++ codes " " ++ reply_text r ++ codes "\n"

-- the line that a command of a lane writes
unfoldable pub said_line : DeskValue → ℕ → Command → List ℕ
said_line d lane c = answer_line (next_number d) lane (answer_to d c)
