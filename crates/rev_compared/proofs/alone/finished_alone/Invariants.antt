use Rattle.std.proofs.Common.{◌≡◌}
use Rattle.rev_compared.specs.Alone.{finished_alone_of}
use Rattle.rev_compared.proofs.alone.finished_alone.Given as goal

-- those of the edges so far
abbrev pub invariant-loop-edge : goal.invariant-loop-edge
invariant-loop-edge l =
    l.found.items
    ≡ finished_alone_of l.edge l.here.lasts.now l.here.earlier.now l.here.number l.twins
    l.there.lasts.now l.there.earlier.now l.there.number
