use Rattle.std.proofs.Common.{◌≡◌, drop}
use Rattle.rev_dyndep.specs.Told.{without}
use Rattle.rev_dyndep.specs.Origins.{with_names}
use Rattle.rev_dyndep.proofs.origins.add_new.Given as goal

-- with what is left to add the set is what it is to be
abbrev pub invariant-loop-path : goal.invariant-loop-path
invariant-loop-path l = with_names (without l.own (drop l.path-index l.paths)) l.set ≡ with_names (without l.own l.paths) l.initial.set
