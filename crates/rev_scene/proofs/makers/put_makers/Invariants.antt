use Rattle.std.proofs.Common.{◌≡◌, ℕ, ◌<◌, None, get_or, length, map}
use Rattle.std.specs.List.{range_with_len}
use Rattle.rev_scene.specs.Scenes.{first_some, maker_by_name}
use Rattle.rev_scene.proofs.makers.put_makers.Given as goal

abbrev pub invariant-loop-number : goal.invariant-loop-number
invariant-loop-number l =
    (n : ℕ) → n < length l.initial.makers → get_or l.initial.makers n None ≡ None → get_or l.makers n None ≡ first_some (map (maker_by_name l.graph.manifest.builds l.observation n) (range_with_len 0 l.number))
