-- What `would cone` tells.
use Rattle.std.specs.Prelude.{◌≡◌, ℕ, Some, None}
use Rattle.rev_desk.specs.declared.reply.Reply.TheVariants.{Refused}
use Rattle.rev_events.specs.declared.refusal.Refusal.{Refusal}
use Rattle.rev_history.specs.Timeline.{Timeline, cone_numbers, cone_refusal}
use Rattle.rev_prompt.specs.declared.answers.Answer.{Answer}
use Rattle.rev_prompt.specs.declared.answers.Answer.TheVariants as answer

-- the answer lists exactly the cone of the number, or tells why there is none
abbrev pub IsWouldCone : Timeline → ℕ → Answer → Type 0
IsWouldCone t n (answer.WouldCone number members) =
    (number ≡ n) × ((cone_refusal t n ≡ None) × (members.items ≡ cone_numbers n t))
IsWouldCone t n (answer.Said reply number) =
    (number ≡ Some n) × ((r : Refusal) × ((reply ≡ Some (Refused r)) × (cone_refusal t n ≡ Some r)))
IsWouldCone t n _ = ⊥
