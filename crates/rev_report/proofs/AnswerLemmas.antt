-- What commands are answered where the journal has room, and where it has none.
use Rattle.std.proofs.Common.{◌≡◌, ℕ, ◌==◌, Bool, true, false, cond, length, refl, ap, Option, Some, None}
use Rattle.std.proofs.lemmas.Bool.{eq-eqb, ne_eqb}
use Rattle.rev_commands.specs.declared.command.Command.{Command}
use Rattle.rev_desk.specs.Machine.{DeskValue, after, reply_to}
use Rattle.rev_report.specs.Answers.{after_answer, answer_to}

pub answered : (d : DeskValue) (c : Command) → (length d.journal ≡ 1048576 → ⊥) → answer_to d c ≡ Some (reply_to d c)
unfolding answer_to
answered d c room = ap (λ b. cond b None (Some (reply_to d c))) (ne_eqb (length d.journal) 1048576 room)

pub entered : (d : DeskValue) (lane : ℕ) (c : Command) → (length d.journal ≡ 1048576 → ⊥) → after_answer d lane c ≡ after d lane c
unfolding after_answer
entered d lane c room = ap (λ b. cond b d (after d lane c)) (ne_eqb (length d.journal) 1048576 room)

pub unanswered : (d : DeskValue) (c : Command) → length d.journal ≡ 1048576 → answer_to d c ≡ None
unfolding answer_to
unanswered d c full = ap (λ b. cond b None (Some (reply_to d c))) (eq-eqb (length d.journal) 1048576 full)

pub stayed : (d : DeskValue) (lane : ℕ) (c : Command) → length d.journal ≡ 1048576 → after_answer d lane c ≡ d
unfolding after_answer
stayed d lane c full = ap (λ b. cond b d (after d lane c)) (eq-eqb (length d.journal) 1048576 full)
