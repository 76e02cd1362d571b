use Rattle.std.proofs.Common.{◌≡◌, drop}
use Rattle.std.specs.List.{list_all}
use Rattle.rev_patch.specs.Additions.{is_written}
use Rattle.rev_patch.proofs.changes.are_written.Given as goal

abbrev pub invariant-loop-addition : goal.invariant-loop-addition
invariant-loop-addition l = list_all (λ a. is_written a.path.now) (drop l.addition-index l.additions) ≡ list_all (λ a. is_written a.path.now) l.additions
