use Rattle.std.proofs.Common.{◌≡◌, ℕ, ◌<◌, Option, None, false, get_or, length}
use Rattle.std.specs.List.{filter_map, range_with_len}
use Rattle.rev_looked.specs.declared.need.Need.{Need}
use Rattle.rev_looked.specs.Needs.{need_in}
use Rattle.rev_looked.proofs.need.needs_in.Given as goal

-- those of the paths so far
abbrev pub invariant-loop-path : goal.invariant-loop-path
invariant-loop-path l =
    (f : ℕ → Option Need)
    → ((path : ℕ) → path < length l.declared → f path ≡ need_in l.history.timeline l.edge path
    (get_or l.declared path false) (get_or l.looks path None) (get_or l.numbers path None))
    → l.needs.items ≡ filter_map f (range_with_len 0 l.path)
