-- What an event rests on, and what rests on it.
use Rattle.std.specs.Prelude.{ℕ, List, ◌++◌, map}
use Rattle.rev_history.specs.Timeline.{Timeline}
use Rattle.rev_held.specs.declared.linked.Link.{Link}
use Rattle.rev_held.specs.Links.{link_between}
use Rattle.rev_held.specs.Several.{dependents_of, needed_by}

-- the kept events on which it depends, and then those that depend on it, in rising order, each with the first cell
abbrev pub links_of : Timeline → ℕ → List Link
links_of t n = map (λ one. link_between t one n) (needed_by t n) ++ map (link_between t n) (dependents_of t n)
