-- The word `order N...`: what it writes.
use Rattle.std.specs.Prelude.{ℕ, List, ◌++◌, Option, Some, None, Result, Ok, Err, codes, decimal}
use Rattle.rev_causal.specs.OrderCheck.{OrderAnswer, EventsDiffer, SameOrder, Inverted}
use Rattle.rev_events.specs.declared.refusal.Refusal.{Refusal}
use Rattle.rev_events.specs.Refusal.{code_of}
use Rattle.rev_history.specs.Timeline.{Timeline}
use Rattle.rev_order_text.specs.Ordered.{RefusedEvent, ordered_of, run_again}

-- the code of a refusal; where there is none, that of a full journal
abbrev pub code_in : Option Refusal → ℕ
code_in None = 94
code_in (Some r) = code_of r

abbrev pub answer_text : OrderAnswer → List ℕ
answer_text EventsDiffer = codes "order differ\n"
answer_text SameOrder = codes "order same\n"
answer_text (Inverted i j) = codes "order pair " ++ decimal i ++ codes " " ++ decimal j ++ codes "\n"

abbrev pub order_line : Result OrderAnswer RefusedEvent → List ℕ
order_line (Ok answer) = answer_text answer
order_line (Err p) = codes "order refused " ++ decimal p.0 ++ codes " " ++ decimal (code_in p.1) ++ codes "\n"

-- what `order N...` writes: a run of these events on the opening made again, and what is answered of it
abbrev pub order_text : Timeline → List ℕ → List ℕ
order_text t ns = order_line (ordered_of t (run_again t ns))
