use Rattle.std.proofs.Common.{◌≡◌, ◌++◌, map}
use Rattle.std.specs.Prelude.{filter}
use Rattle.std.specs.List.{range_with_len}
use Rattle.rev_dirty.specs.declared.output.Output.{Output}
use Rattle.rev_dirty.specs.declared.reason.Reason.TheVariants as reason
use Rattle.rev_dirty.specs.Reasons.{holds_at}
use Rattle.rev_dirty.proofs.dirtiness.push_command_changed.Given as goal

abbrev pub invariant-loop-position : goal.invariant-loop-position
invariant-loop-position l =
    l.reasons.items ≡ l.initial.reasons.items ++ map reason.Command (filter (holds_at (λ (output : Output). output.command_changed) l.outputs) (range_with_len 0 l.position))
