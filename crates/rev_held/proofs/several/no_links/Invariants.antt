use Rattle.std.proofs.Common.{◌≡◌, None, map, take}
use Rattle.rev_held.specs.Links.{link}
use Rattle.rev_held.proofs.several.no_links.Given as goal

abbrev pub invariant-loop-other : goal.invariant-loop-other
invariant-loop-other l = l.links.items ≡ map (link l.one None) (take l.other-index l.others)
