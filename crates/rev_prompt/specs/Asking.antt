-- Which questions only ask.
use Rattle.std.specs.Prelude.{Bool, true, false}
use Rattle.rev_prompt.specs.declared.question.Question.{Question}
use Rattle.rev_prompt.specs.declared.question.Question.TheVariants as question

-- the question is none that replays the recording, takes something back, puts something back, or is a command
abbrev pub only_asks : Question → Bool
only_asks question.Run = false
only_asks (question.Next count) = false
only_asks (question.Until out) = false
only_asks (question.Undo event) = false
only_asks (question.Redo event) = false
only_asks (question.Cone event) = false
only_asks (question.Without out) = false
only_asks (question.Command command) = false
only_asks _ = true

abbrev pub is_quit : Question → Bool
is_quit question.Quit = true
is_quit _ = false
