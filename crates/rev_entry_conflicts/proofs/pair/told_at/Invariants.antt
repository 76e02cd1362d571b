use Rattle.std.proofs.Common.{◌≡◌, ◌<◌, take, Some}
use Rattle.std.specs.List.{filter}
use Rattle.rev_entry_conflicts.specs.declared.conflict.Conflict.{Conflict}
use Rattle.rev_entry_conflicts.specs.Conflicts.{is_kind, kind_at, told}
use Rattle.rev_entry_conflicts.specs.Orders.{scene}
use Rattle.rev_entry_conflicts.proofs.pair.told_at.Given as goal

abbrev pub invariant-loop-entry : goal.invariant-loop-entry
invariant-loop-entry l = record {
  told : l.answer ≡ told l.made_by l.used_by l.kind (filter (λ n. is_kind l.kind (kind_at (scene l.steps l.entries l.commands) l.made l.used n)) (take l.entry-index l.numbers));
  bound : (c : Conflict) → l.answer ≡ Some c → c.others < l.entry-index;
}
