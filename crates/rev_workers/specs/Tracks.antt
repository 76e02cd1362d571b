-- What contracts see of a lane.
use Rattle.std.specs.Prelude.{ℕ, ◌≡◌, ⊤, ◌==◌, List, [], ◌∷◌, ◌++◌, if◌then◌else◌}
use Rattle.rev_commands.specs.declared.command.Command.{Command}
use Rattle.rev_desk.specs.declared.reply.Reply.{Reply}
use Rattle.rev_desk.specs.declared.reply.Reply.TheVariants as reply

-- a lane: its number, the journal's length when lane 0 was made, the journal's length at the last answer, and what was
-- said
pub record Track : Type 0 where
  pub number : ℕ
  pub base : ℕ
  pub seen : ℕ
  pub list : List (Command × Reply)

-- the base of a lane of this number over a journal of this length
abbrev pub base_at : ℕ → ℕ → ℕ
base_at entries number = if number == 0 then entries else 0

-- a lane of this number over a journal of this length
abbrev pub fresh : ℕ → ℕ → Track
fresh entries number = record { number = number; base = base_at entries number; seen = entries; list = [] }

-- the lane after an answer, where the journal then has this length
abbrev pub said : Track → Command → Reply → ℕ → Track
said t c r entries = record t { seen = entries; list = t.list ++ (c, r) ∷ [] }

-- a reply that is no refusal carries its entry's number
abbrev pub Carries : Reply → ℕ → Type 0
Carries (reply.Accepted n _) entry = n ≡ entry
Carries (reply.Coned n _) entry = n ≡ entry
Carries (reply.Refused _) entry = ⊤
