-- Events in words.
use Rattle.std.specs.Prelude.{ℕ, List, [], ◌∷◌, ◌++◌, Option, Some, None, codes, decimal}
use Rattle.std.specs.List.{flat_map}
use Rattle.rev_events.specs.declared.event.Event.{Event}
use Rattle.rev_events.specs.declared.event.Event.TheVariants as event
use Rattle.rev_shown.specs.Shown.{shown}

-- a slot behind a comma, if there is one
abbrev pub slot_words : Option ℕ → List ℕ
slot_words None = []
slot_words (Some slot) = codes ", slot " ++ decimal slot

abbrev pub event_words : Event → List ℕ
event_words (event.Plan targets) = codes "plan" ++ flat_map (λ t. codes " " ++ shown t) targets
event_words (event.Start out job slot) =
    codes "start " ++ shown out ++ codes " (job " ++ decimal job ++ slot_words slot ++ codes ")"
event_words (event.Finish out stamps listing) = codes "finish " ++ shown out
event_words (event.Fail out stamps) = codes "fail " ++ shown out
event_words (event.Abort out stamps) = codes "abort " ++ shown out
event_words (event.Clean out) = codes "clean " ++ shown out
event_words (event.Pass out) = codes "pass " ++ shown out
event_words (event.Touch path stamp) = codes "touch " ++ shown path ++ codes " (" ++ decimal stamp ++ codes ")"
event_words event.Interrupt = codes "interrupt"
event_words (event.Resize pool depth) = codes "resize pool " ++ decimal pool ++ codes " to " ++ decimal depth
