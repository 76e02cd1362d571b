-- What differs between two runs of one command.
use Rattle.std.specs.Prelude.{ℕ, Bool, true, false, not, ◌==◌, List, [], Option, Some, bytes_eq, option_and_then}
use Rattle.std.proofs.Math.Bool.{beq}
use Rattle.std.specs.Cmp.Lexicographic.{pointwise}
use Rattle.rev_events.specs.declared.event.Event.{Event}
use Rattle.rev_events.specs.declared.event.Event.TheVariants.{Finish, Fail, Abort}
use Rattle.rev_events.specs.declared.event.Listing.{Listing}
use Rattle.rev_events.specs.declared.event.Listing.TheVariants.{Nothing, Depfile, Paths}
use Rattle.rev_graph.specs.Alike.{same_paths}
use Rattle.rev_history.specs.Timeline.{Timeline, event_at}
use Rattle.rev_compared.specs.declared.differences.Differences.{Differences}
use Rattle.rev_compared.specs.declared.lasts.Ending.{Ending}
use Rattle.rev_compared.specs.declared.lasts.Ending.TheVariants.{Failed, Running, Stopped, Well}
use Rattle.rev_compared.specs.declared.lasts.Last.{Last}

abbrev pub same_ending : Ending → Ending → Bool
same_ending Well Well = true
same_ending Failed Failed = true
same_ending Stopped Stopped = true
same_ending Running Running = true
same_ending _ _ = false

-- the stamps that an event gave the outputs of its edge, in the order of the outputs
abbrev pub stamps_of : Option Event → List ℕ
stamps_of (Some (Finish out stamps listing)) = stamps
stamps_of (Some (Fail out stamps)) = stamps
stamps_of (Some (Abort out stamps)) = stamps
stamps_of _ = []

-- the event that ended a run
abbrev pub end_of : Timeline → Option ℕ → Option Event
end_of t ended = option_and_then (event_at t) ended

-- two stamps say both that a file is there, or both that it is not: 0 is the stamp of a missing file
abbrev pub both_or_neither : ℕ → ℕ → Bool
both_or_neither stamp other = beq (stamp == 0) (other == 0)

-- what was said of the files that were read
abbrev pub same_listing : Listing → Listing → Bool
same_listing Nothing Nothing = true
same_listing (Depfile text) (Depfile other) = bytes_eq text other
same_listing (Paths paths) (Paths other) = same_paths paths other
same_listing _ _ = false

abbrev pub same_reads : Option Event → Option Event → Bool
same_reads (Some (Finish out stamps listing)) (Some (Finish other_out other_stamps other)) = same_listing listing other
same_reads _ _ = true

-- WHAT DIFFERS between two runs, each of a history
abbrev pub differences_of : Timeline → Last → Timeline → Last → Differences
differences_of t a u b = record {
  status = not (same_ending a.ending b.ending);
  presence = not (pointwise both_or_neither (stamps_of (end_of t a.ended)) (stamps_of (end_of u b.ended)));
  reads = not (same_reads (end_of t a.ended) (end_of u b.ended));
}
