use Rattle.std.proofs.Common.{◌≡◌, ◌++◌, codes, take}
use Rattle.std.specs.List.{flat_map}
use Rattle.rev_shown.specs.Shown.{shown}
use Rattle.rev_shown.proofs.events.push_names.Given as goal

-- the names so far were added
abbrev pub invariant-loop-name : goal.invariant-loop-name
invariant-loop-name l = l.text.items ≡ l.initial.text.items ++ flat_map (λ n. codes " " ++ shown n) (take l.name-index l.names)
