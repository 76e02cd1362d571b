use Rattle.std.proofs.Common.{◌≤◌, length, take}
use Rattle.rev_fields.specs.Parts.{slices_of}
use Rattle.rev_observed.specs.Observations.{nothing_by}
use Rattle.rev_observed.specs.Says.{Says}
use Rattle.rev_observed.proofs.locating.line_among.Given as goal

abbrev pub invariant-loop-number : goal.invariant-loop-number
invariant-loop-number l =
    Says (nothing_by l.fn.by.items) (take l.number (slices_of l.lines)) l.observation × (length l.observation.commands ≤ l.place)
