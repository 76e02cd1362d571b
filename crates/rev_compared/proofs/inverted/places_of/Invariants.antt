use Rattle.std.proofs.Common.{◌≡◌, take}
use Rattle.rev_compared.specs.Inverted.{places_of}
use Rattle.rev_compared.proofs.inverted.places_of.Given as goal

-- those so far
abbrev pub invariant-loop-other : goal.invariant-loop-other
invariant-loop-other l = l.places.items ≡ places_of (take l.other-index l.matched)
