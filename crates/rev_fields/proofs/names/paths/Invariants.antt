use Rattle.std.proofs.Common.{◌≡◌, drop}
use Rattle.rev_fields.specs.Faults.{each_of}
use Rattle.rev_fields.specs.Lines.{path_of}
use Rattle.rev_fields.specs.Parts.{lent_of}
use Rattle.rev_fields.proofs.EachLemmas.{after}
use Rattle.rev_fields.proofs.names.paths.Given as goal

abbrev pub invariant-loop-text : goal.invariant-loop-text
invariant-loop-text l = after l.names.items (each_of path_of (drop l.text-index (lent_of l.texts))) ≡ each_of path_of (lent_of l.texts)
