use Rattle.std.proofs.Common.{◌≡◌, map}
use Rattle.std.specs.List.{range_with_len}
use Rattle.rev_scene.specs.Scenes.{run_at, run_value}
use Rattle.rev_scene.proofs.runs.command_runs.Given as goal

abbrev pub invariant-loop-number : goal.invariant-loop-number
invariant-loop-number l = map run_value l.runs.items ≡ map (run_at l.builds l.observation l.edges l.early) (range_with_len 0 l.number)
