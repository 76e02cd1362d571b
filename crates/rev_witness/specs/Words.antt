-- A witness as the text of a trace.
use Rattle.std.specs.Prelude.{ℕ, List, [], ◌++◌, Option, Some, None, codes}
use Rattle.std.specs.List.{flat_map}
use Rattle.rev_events.specs.declared.event.Event.{Event}
use Rattle.rev_fields.specs.Fields.{field_text, spaced}
use Rattle.rev_history.specs.Timeline.{Timeline, event_at}
use Rattle.rev_trace.specs.Texts.{event_text}

-- `stamp PATH 1`
abbrev pub stamp_line : List ℕ → List ℕ
stamp_line path = codes "stamp" ++ spaced (field_text path) ++ codes " 1\n"

-- the line of an event
abbrev pub event_line : Option Event → List ℕ
event_line None = []
event_line (Some e) = event_text e ++ codes "\n"

-- the trace of one lane: an opening on one job with the stamp 1 of each source, and the kept events
abbrev pub witness_words : List (List ℕ) → Timeline → List ℕ
witness_words sources t =
    codes "rebug-trace 1\njobs 1\n" ++ flat_map stamp_line sources ++ codes "lane 0\n"
    ++ flat_map (λ n. event_line (event_at t n)) t.kept
