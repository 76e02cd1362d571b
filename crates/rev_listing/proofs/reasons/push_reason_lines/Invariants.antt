use Rattle.std.proofs.Common.{◌≡◌, ◌++◌, take}
use Rattle.std.specs.List.{flat_map}
use Rattle.rev_listing.specs.Why.{reason_text}
use Rattle.rev_listing.proofs.reasons.push_reason_lines.Given as goal

abbrev pub invariant-loop-reason : goal.invariant-loop-reason
invariant-loop-reason l = l.text.items ≡ l.initial.text.items ++ flat_map (reason_text l.graph.manifest.builds l.cells.state l.edge) (take l.reason-index l.reasons)
