use Rattle.std.proofs.Common.{◌≡◌, drop}
use Rattle.rev_prompt.specs.Named.{events_named, with_rest}
use Rattle.rev_prompt.proofs.events.named_events.Given as goal

-- the numbers so far, before those of what is left
abbrev pub invariant-loop-name : goal.invariant-loop-name
invariant-loop-name l =
    events_named l.desk l.names ≡ with_rest l.numbers.items (events_named l.desk (drop l.name-index l.names))
