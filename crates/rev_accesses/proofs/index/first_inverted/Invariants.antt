use Rattle.std.proofs.Common.{◌≡◌, drop}
use Rattle.rev_causal.specs.AccessLists.{lesser}
use Rattle.rev_accesses.specs.Inverted.{first_inverted_among}
use Rattle.rev_accesses.proofs.index.first_inverted.Given as goal

-- the least so far, and that of the users that are left
abbrev pub invariant-loop-users : goal.invariant-loop-users
invariant-loop-users l = lesser l.least (first_inverted_among l.places (drop l.users-index l.index)) ≡ first_inverted_among l.places l.index
