use Rattle.std.proofs.Common.{◌≡◌}
use Rattle.rev_compared.specs.Alone.{ran_alone_of}
use Rattle.rev_compared.proofs.alone.ran_alone.Given as goal

-- those of the edges so far
abbrev pub invariant-loop-edge : goal.invariant-loop-edge
invariant-loop-edge l = l.found.items ≡ ran_alone_of l.edge l.lasts l.twins l.others
