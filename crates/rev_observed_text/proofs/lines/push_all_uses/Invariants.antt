use Rattle.std.proofs.Common.{◌≡◌, ◌++◌, ◌<◌, ℕ, take, get_or}
use Rattle.std.specs.List.{flat_map}
use Rattle.rev_observed.specs.declared.command.Uses.{Uses}
use Rattle.rev_observed.specs.Texts.{ended, line_text, uses_texts}
use Rattle.rev_observed_text.specs.Writable.{IsWritableUses}
use Rattle.rev_observed_text.proofs.lines.push_all_uses.Given as goal

abbrev pub invariant-loop-one : goal.invariant-loop-one
invariant-loop-one l =
    (l.text.items ≡ l.initial.text.items ++ flat_map (λ (u : Uses). ended (line_text (uses_texts u))) (take l.one-index l.uses))
    × ((k : ℕ) (d : Uses) → k < l.one-index → IsWritableUses (get_or l.uses k d))
