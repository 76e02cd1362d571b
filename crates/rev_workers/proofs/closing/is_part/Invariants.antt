use Rattle.std.proofs.Common.{◌≡◌, ◌↔◌, drop}
use Rattle.rev_workers.specs.Closing.{part}
use Rattle.rev_workers.proofs.closing.is_part.Given as goal

abbrev pub invariant-loop-entry : goal.invariant-loop-entry
invariant-loop-entry l =
    (l.rest ≡ part l.number (drop l.entry-index l.entries)) ↔ (l.fn.list ≡ part l.number l.fn.entries)
