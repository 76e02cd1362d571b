use Rattle.std.proofs.Common.{◌≡◌, map, take}
use Rattle.rev_held.specs.Links.{link_between}
use Rattle.rev_held.proofs.several.links_by.Given as goal

abbrev pub invariant-loop-other : goal.invariant-loop-other
invariant-loop-other l = l.links.items ≡ map (link_between l.history.timeline l.one) (take l.other-index l.others)
