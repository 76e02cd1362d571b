use Rattle.std.proofs.Common.{◌≡◌, ◌++◌, drop}
use Rattle.rev_fields.specs.Parts.{lent_of, vectors_of}
use Rattle.rev_trace.proofs.commands.lent.Given as goal

abbrev pub invariant-loop-text : goal.invariant-loop-text
invariant-loop-text l = lent_of l.lent.items ++ vectors_of (drop l.text-index l.texts) ≡ vectors_of l.texts
