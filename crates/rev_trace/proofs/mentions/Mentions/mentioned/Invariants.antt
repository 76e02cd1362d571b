use Rattle.std.proofs.Common.{◌≡◌, drop}
use Rattle.rev_fields.specs.Faults.{each_of}
use Rattle.rev_fields.specs.Lines.{path_of}
use Rattle.rev_fields.specs.Parts.{lent_of}
use Rattle.rev_fields.proofs.EachLemmas.{after}
use Rattle.rev_trace.specs.Mentioned.{AreMentioned}
use Rattle.rev_trace.proofs.mentions.Mentions.mentioned.Given as goal

abbrev pub invariant-loop-text : goal.invariant-loop-text
invariant-loop-text l = record {
  said : after l.names.items (each_of path_of (drop l.text-index (lent_of l.texts))) ≡ each_of path_of (lent_of l.texts);
  known : AreMentioned l.self.last_lists.entries l.self.list l.names.items l.repeats;
}
