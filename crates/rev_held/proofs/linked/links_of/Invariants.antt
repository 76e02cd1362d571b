use Rattle.std.proofs.Common.{◌≡◌, ℕ, List, map, take}
use Rattle.rev_history.specs.Timeline.{Timeline}
use Rattle.rev_held.specs.Links.{link_between}
use Rattle.rev_held.specs.Noted.{AreNoted}
use Rattle.rev_held.specs.declared.linked.Link.{Link}
use Rattle.rev_held.proofs.linked.links_of.Given as goal

-- the links of the pairs so far, and the cells that are noted are right
pub record Partial (t : Timeline) (pairs : List (ℕ × ℕ)) (links : List Link) (noted : Type 0) : Type 0 where
  pub made : links ≡ map (λ (pair : ℕ × ℕ). link_between t pair.0 pair.1) pairs
  pub right : noted

abbrev pub invariant-loop-one : goal.invariant-loop-one
invariant-loop-one l =
    Partial l.history.timeline (take l.one-index l.pairs) l.links.items (AreNoted l.history.timeline l.noted.cells.entries)
