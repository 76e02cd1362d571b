use Rattle.std.proofs.Common.{◌≡◌, map}
use Rattle.std.specs.List.{range_with_len}
use Rattle.rev_compared.specs.Earlier.{is_made_earlier}
use Rattle.rev_compared.proofs.earlier.made_earlier.Given as goal

-- what is so of the edges so far
abbrev pub invariant-loop-edge : goal.invariant-loop-edge
invariant-loop-edge l = l.made.items ≡ map (is_made_earlier l.history.timeline l.lasts) (range_with_len 0 l.edge)
