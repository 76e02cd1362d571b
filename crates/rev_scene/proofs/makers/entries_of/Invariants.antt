use Rattle.std.proofs.Common.{◌≡◌, map}
use Rattle.std.specs.List.{range_with_len}
use Rattle.rev_scene.specs.Scenes.{entry_at}
use Rattle.rev_scene.proofs.makers.entries_of.Given as goal

abbrev pub invariant-loop-number : goal.invariant-loop-number
invariant-loop-number l = l.entries.items ≡ map (entry_at l.graph.manifest.builds l.observation l.hidden) (range_with_len 0 l.number)
