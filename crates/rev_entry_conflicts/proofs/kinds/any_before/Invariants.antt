use Rattle.std.proofs.Common.{◌≡◌, ◌&&◌, false, take}
use Rattle.std.specs.List.{list_any}
use Rattle.rev_entry_conflicts.specs.Conflicts.{comes_before}
use Rattle.rev_entry_conflicts.specs.Deeds.{does}
use Rattle.rev_entry_conflicts.specs.Orders.{scene}
use Rattle.rev_entry_conflicts.proofs.kinds.any_before.Given as goal

abbrev pub invariant-loop-command : goal.invariant-loop-command
invariant-loop-command l = list_any (λ c. comes_before (scene l.steps l.entries l.commands) l.used c && does l.act c l.entry) (take l.command-index l.commands) ≡ false
