-- When two events are equal.
use Rattle.std.specs.Prelude.{Bool}
use Rattle.rev_causal.specs.OrderCheck.{IsEquality}
use Rattle.rev_events.specs.declared.event.Event.{Event}
use Rattle.rev_events.specs.contracts.event.EventPartialEq.TheImpl as same

-- the test of the code, `==`
abbrev pub event_eq : Event → Event → Bool
event_eq = same.ghosts.eq

-- it holds of equal events alone
abbrev pub EqualEventsAreOne : Type 0
EqualEventsAreOne = IsEquality event_eq
