use Rattle.std.proofs.Common.{◌≡◌, drop}
use Rattle.rev_fields.specs.Faults.{each_of}
use Rattle.rev_trace.specs.Commands.{short}
use Rattle.rev_fields.specs.Parts.{vectors_of}
use Rattle.rev_fields.proofs.EachLemmas.{after}
use Rattle.rev_script.proofs.numbers.each_number.Given as goal

abbrev pub invariant-loop-text : goal.invariant-loop-text
invariant-loop-text l = after l.numbers.items (each_of short (drop l.text-index (vectors_of l.texts))) ≡ each_of short (vectors_of l.texts)
