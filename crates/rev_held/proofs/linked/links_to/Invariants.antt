use Rattle.std.proofs.Common.{◌≡◌, ℕ, List, map, take}
use Rattle.rev_history.specs.Timeline.{Timeline}
use Rattle.rev_held.specs.Links.{link_between}
use Rattle.rev_held.specs.Noted.{AreNoted}
use Rattle.rev_held.specs.declared.linked.Link.{Link}
use Rattle.rev_held.proofs.linked.links_to.Given as goal

-- the links of the numbers so far, and the cells that are noted are right
pub record Partial (t : Timeline) (other : ℕ) (ones : List ℕ) (links : List Link) (noted : Type 0) : Type 0 where
  pub made : links ≡ map (λ one. link_between t one other) ones
  pub right : noted

abbrev pub invariant-loop-one : goal.invariant-loop-one
invariant-loop-one l =
    Partial l.history.timeline l.other (take l.one-index l.ones) l.links.items
    (AreNoted l.history.timeline l.noted.cells.entries)
